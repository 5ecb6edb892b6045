-- What a message uploads, by its query and its body.
use Rattle.std.specs.Prelude.{ℕ, List, [], ◌∷◌, codes, Option, option_and_then, option_map}
use Rattle.artifact_pieces.specs.Digests.{digest_named}
use Rattle.mgmt_objects.specs.Bodies.{if_given}
use Rattle.request_target.specs.Queries.{query_pairs_of, value_of}
use Rattle.rollout_model.specs.Rules.{kept_if, is_contents, is_filename}
use Rattle.rollout_model.specs.declared.artifact.Upload.{Upload}

-- what this query and this body upload to a module: the name is required, the digest isn't, and there is no other key and none twice
abbrev pub upload_asked : ℕ → List ℕ → List ℕ → Option Upload
upload_asked number query body =
    option_and_then (λ pairs. option_and_then (λ filename. option_and_then (λ expected. option_map
    (λ contents. record { module_number = number; filename = filename; expected = expected; contents = contents })
    (kept_if is_contents body)) (if_given digest_named (value_of (codes "sha256") pairs)))
    (option_and_then (kept_if is_filename) (value_of (codes "filename") pairs)))
    (query_pairs_of (codes "filename" ∷ codes "sha256" ∷ []) query)
