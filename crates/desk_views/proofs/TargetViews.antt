-- From typed reads of targets to what is shown.
use Rattle.desk_views.proofs.Common.{arith, ◌≡◌, ◌∷◌, List, [], find, Some, Bytes, Target, same_true}
use Rattle.desk_records.proofs.Targets.{has_id}

-- what is found by an id has it
pub id_found : (id : Bytes) (t : Target) (ts : List Target) → find (has_id id) ts ≡ Some t → t.id ≡ id
id_found id t [] found = absurd cc
id_found id t (x ∷ ts) found = grind (arith, id_found id t ts, same_true)
