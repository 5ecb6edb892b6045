-- What GET_RULE shows, whatever rows the table of what is said of groups has.
use Rattle.desk_records.proofs.Common.{◌≡◌, ℕ, pos, [], ◌∷◌, refl, Int, Row, Database, Has, passes, lies_at, Rules, HoldsTables, Tables}
use Rattle.desk_records.proofs.RolloutMeaning.{of_group}
use Rattle.desk_records.proofs.TableColumns.{passes_part}

-- the test is of the rollout and the group's number
pub judges_rule : (number group : ℕ) (db : Database) (t : Tables) → HoldsTables db t → (row : Row) → Has (t Rules) row
    → passes of_group (Int (pos number) ∷ Int (pos group) ∷ []) row ≡ lies_at number group row
judges_rule number group db t holds row among =
    passes_part db t holds Rules row among (record { c = _; there = refl; kind_is = refl; strict = refl; filled = refl; apart = refl })
    (record { c = _; there = refl; kind_is = refl; strict = refl; filled = refl; apart = refl }) number group
