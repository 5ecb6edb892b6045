-- The page that a query asks for.
use Rattle.std.specs.Prelude.{ℕ, List, codes, Option, option_and_then, option_map}
use Rattle.request_target.specs.Queries.{value_of, number_or}
use Rattle.rollout_model.specs.Limits.{limits}
use Rattle.rollout_model.specs.declared.page.Page.{Page}

-- its `offset` and its `limit`, or their defaults
abbrev pub query_page : List (List ℕ × List ℕ) → Option Page
query_page pairs =
    option_and_then (λ offset. option_map (λ limit. record { offset = offset; limit = limit })
    (number_or 1 limits.page limits.page_default (value_of (codes "limit") pairs))) (number_or 0 limits.number 0 (value_of (codes "offset") pairs))
