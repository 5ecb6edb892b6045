-- What is shown of the rows of a ledger's tables, which stand by hand, is what shows the records, as rows.txt says.
use native.Mathlib.Omega.{arith}
use Rattle.desk_records.proofs.Common.{◌≡◌, ◌++◌, ℕ, List, [], ◌∷◌, pos, Int, Text, ModuleLabel, SetLabel, ArtifactRecord, Attribute, Bytes, Target}
use Rattle.desk_records.proofs.Common.{RolloutRecord, GroupRecord, ActionRecord, Tally, TargetOffer, GroupRule, PlacedNumber, module_row, set_row, artifact_row}
use Rattle.desk_records.proofs.Common.{target_row, rollout_row, group_row, action_row, offer_row, rule_row, number_row, stored_action}
use Rattle.desk_records.specs.ArtifactRow.{stored}
use Rattle.desk_records.specs.ReadRows.{columns_of_stored_action, columns_of_stored_artifact, columns_of_attribute, columns_of_group, columns_of_module_label}
use Rattle.desk_records.specs.ReadRows.{columns_of_artifact, columns_of_listed_target, columns_of_number, columns_of_offer, columns_of_last_number}
use Rattle.desk_records.specs.ReadRows.{columns_of_stored_rollout, columns_of_rule, columns_of_set_name, columns_of_stored_target}
use Rattle.desk_records.proofs.WrittenRows.{shown_artifact}
use Rattle.desk_records.proofs.WrittenRows.{shown_attribute, shown_group, shown_module_label, shown_last_number, shown_listed_action, shown_listed_target}
use Rattle.desk_records.proofs.WrittenRows.{shown_number, shown_offer, shown_stored_rollout, shown_rule, shown_set_name, shown_stored_artifact}
use Rattle.desk_records.proofs.WrittenRows.{shown_stored_target}
use Rattle.desk_records.specs.RolloutRow.{stored_rollout}
use Rattle.desk_records.specs.SetRow.{called}
use Rattle.desk_records.specs.TargetRow.{listed_target, stored_target}

rows_agree : (n owner k : ℕ) (id : Bytes) (m : ModuleLabel) (s : SetLabel) (a : ArtifactRecord) (t : Target) (attribute : Attribute) (x : RolloutRecord)
    (g : GroupRecord) (rollouts : List RolloutRecord) (action : ActionRecord × Tally) (o : TargetOffer) (rule : GroupRule) (number : PlacedNumber)
    → (columns_of_module_label (module_row n m) ≡ shown_module_label m)
    × (columns_of_set_name (set_row n s) ≡ shown_set_name (called s))
    × (columns_of_stored_artifact (artifact_row n a) ≡ shown_stored_artifact (stored a) ++ Int (pos n) ∷ [])
    × (columns_of_artifact (artifact_row n a) ≡ shown_artifact (record { number = n; filename = a.filename; size = a.size; digest = a.digest }))
    × (columns_of_stored_target (Int (pos n) ∷ target_row t) ≡ shown_stored_target (stored_target t))
    × (columns_of_listed_target (Int (pos n) ∷ target_row t) ≡ shown_listed_target (listed_target t))
    × (columns_of_attribute (Int (pos n) ∷ Text id ∷ Text attribute.key ∷ Text attribute.value ∷ []) ≡ shown_attribute attribute)
    × (columns_of_stored_rollout (rollout_row n x) ≡ shown_stored_rollout (stored_rollout x))
    × (columns_of_group (Int (pos n) ∷ group_row owner k g) ≡ shown_group (record g { number = k }))
    × (columns_of_stored_action (action_row rollouts n action) ≡ shown_listed_action (record { number = n; action = stored_action rollouts action }))
    × (columns_of_offer (Int (pos n) ∷ offer_row o) ≡ shown_offer o.offer ++ Text o.target ∷ [])
    × (columns_of_rule (Int (pos n) ∷ rule_row owner k rule) ≡ shown_rule rule)
    × (columns_of_number (Int (pos n) ∷ number_row owner k number) ≡ shown_number number)
    × (columns_of_last_number (Int (pos n) ∷ number_row owner k number) ≡ shown_last_number (record { place = k; it = number }))
rows_agree n owner k id m s a t attribute x g rollouts action o rule number = grind arith
