-- The row of a record.
use Rattle.std.specs.Prelude.{ℕ, List, [], ◌∷◌, ◌==◌, Option, None, option_map, option_and_then}
use Rattle.std.specs.List.{slice_split}
use Rattle.artifact_pieces.specs.Digests.{digest_of}
use Rattle.rollout_model.specs.Rules.{kept_if, is_tag_list, is_text, is_token, is_word}
use Rattle.rollout_model.specs.declared.target_row.TargetRow.{TargetRow}

-- what stands before, between and after the spaces of a field; in an empty one stands nothing
abbrev pub field_words : List ℕ → List (List ℕ)
field_words [] = []
field_words (b ∷ bs) = slice_split (λ c. c == 32) (b ∷ bs)

-- the fields of a record
abbrev pub Record : Type 0
Record = List (List ℕ)

-- a record of four fields: id, name, token, and tags with one space between two
abbrev pub row_of : Record → Option TargetRow
row_of (id ∷ name ∷ token ∷ tags ∷ []) =
    option_and_then (λ id. option_and_then (λ name. option_and_then (λ digest. option_map
    (λ tags. record { id = id; name = name; digest = digest; tags = tags }) (kept_if is_tag_list (field_words tags)))
    (option_map digest_of (kept_if is_token token))) (kept_if is_text name)) (kept_if is_word id)
row_of _ = None
