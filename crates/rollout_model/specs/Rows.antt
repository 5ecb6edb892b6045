-- The rule of a row of a target, and when two rows are the same.
use Rattle.std.specs.Prelude.{Bool, ◌&&◌, ℕ, List, ◌∷◌, nat_eq}
use Rattle.std.specs.Cmp.Lexicographic.{pointwise}
use Rattle.rollout_model.specs.Rules.{is_digest, is_tag_list, is_text, is_word}
use Rattle.rollout_model.specs.declared.target_row.TargetRow.{TargetRow}

abbrev pub is_target_row : TargetRow → Bool
is_target_row row = is_word row.id && (is_text row.name && (is_digest row.digest && is_tag_list row.tags))

-- the byte strings of a row
abbrev pub parts_of : TargetRow → List (List ℕ)
parts_of row = row.id ∷ row.name ∷ row.digest ∷ row.tags

abbrev pub is_same_row : TargetRow → TargetRow → Bool
is_same_row a b = pointwise (pointwise nat_eq) (parts_of a) (parts_of b)
