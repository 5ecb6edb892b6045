-- The targets that a query asks for: a page, and a filter where one is given.
use Rattle.std.specs.Prelude.{ℕ, List, [], ◌∷◌, codes, Option, option_and_then, option_map}
use Rattle.request_target.specs.Queries.{query_pairs_of, value_of}
use Rattle.mgmt_api.specs.PageQueries.{query_page}
use Rattle.mgmt_api.specs.declared.target_query.Selection.{Selection}

-- a page, and any text `q` where it is given, of a query that holds no other key, and none twice
abbrev pub selection_asked : List ℕ → Option Selection
selection_asked query = option_and_then (λ pairs. option_map (λ page. record { filter_text = value_of (codes "q") pairs; page = page }) (query_page pairs))
    (query_pairs_of (codes "offset" ∷ codes "limit" ∷ codes "q" ∷ []) query)
