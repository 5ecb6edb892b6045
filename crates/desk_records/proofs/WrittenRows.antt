-- Written by tools/gen/sql-proofs from rows.txt of desk_records. What it makes is proved; the tool is not trusted.
-- The rows that are read, as they are written.
use Rattle.std.specs.Prelude.{[], ◌∷◌, pos}
use Rattle.sqlite_value.specs.declared.value.Value.TheVariants.{Int, Text, Blob}
use Rattle.sqlite_value.specs.Order.{Row}
use Rattle.sqlite.specs.Values.{or_null}
use Rattle.desk_records.specs.Codes.{approval_code, flag, outcome_code}
use Rattle.desk_records.specs.ReadRows.{Artifact, Attribute, GroupRecord, GroupRule, LastNumber, ListedAction, ListedTarget, ModuleLabel, Offer}
use Rattle.desk_records.specs.ReadRows.{OwnedAttribute, OwnedTag, PlacedNumber, SetName, StoredAction, StoredArtifact, StoredRollout, StoredTarget}

abbrev pub shown_module_label : ModuleLabel → Row
shown_module_label x = Text x.name ∷ Text x.kind ∷ Text x.version ∷ []

abbrev pub shown_set_name : SetName → Row
shown_set_name x = Text x.name ∷ Text x.version ∷ []

abbrev pub shown_stored_artifact : StoredArtifact → Row
shown_stored_artifact x = Int (pos x.module_number) ∷ Text x.filename ∷ Int (pos x.size) ∷ Blob x.digest ∷ []

abbrev pub shown_artifact : Artifact → Row
shown_artifact x = Int (pos x.number) ∷ Text x.filename ∷ Int (pos x.size) ∷ Blob x.digest ∷ []

abbrev pub shown_stored_target : StoredTarget → Row
shown_stored_target x = Text x.name ∷ Blob x.digest ∷ []

abbrev pub shown_listed_target : ListedTarget → Row
shown_listed_target x = Text x.id ∷ Text x.name ∷ []

abbrev pub shown_owned_tag : OwnedTag → Row
shown_owned_tag x = Text x.id ∷ Text x.tag ∷ []

abbrev pub shown_attribute : Attribute → Row
shown_attribute x = Text x.key ∷ Text x.value ∷ []

abbrev pub shown_owned_attribute : OwnedAttribute → Row
shown_owned_attribute x = Text x.id ∷ Text x.attribute.key ∷ Text x.attribute.value ∷ []

abbrev pub shown_stored_rollout : StoredRollout → Row
shown_stored_rollout x = Text x.plan.name ∷ Int (pos x.plan.set_number) ∷ Text x.plan.filter_text ∷ Int (pos x.plan.groups) ∷ Int (pos x.plan.success)
    ∷ Int (pos x.plan.error) ∷ Int (pos (approval_code x.approval)) ∷ Int (pos (flag x.started)) ∷ Int (pos (flag x.paused)) ∷ []

abbrev pub shown_group : GroupRecord → Row
shown_group x = Int (pos x.number) ∷ Int (pos x.bounds.first) ∷ Int (pos x.bounds.last) ∷ Int (pos (flag x.started)) ∷ Int (pos x.ok)
    ∷ Int (pos x.bad) ∷ Int (pos x.gone) ∷ []

abbrev pub shown_stored_action : StoredAction → Row
shown_stored_action x = Int (pos x.rollout) ∷ Int (pos x.position) ∷ Text x.target ∷ Int (pos (flag x.canceling)) ∷ Int (pos (outcome_code x.outcome))
    ∷ Int (pos x.notes) ∷ Int (pos x.entries) ∷ []

abbrev pub shown_listed_action : ListedAction → Row
shown_listed_action x = Int (pos x.action.rollout) ∷ Int (pos x.action.position) ∷ Text x.action.target ∷ Int (pos (flag x.action.canceling))
    ∷ Int (pos (outcome_code x.action.outcome)) ∷ Int (pos x.action.notes) ∷ Int (pos x.action.entries) ∷ Int (pos x.number) ∷ []

abbrev pub shown_offer : Offer → Row
shown_offer x = Int (pos x.action) ∷ Int (pos (flag x.canceling)) ∷ []

abbrev pub shown_rule : GroupRule → Row
shown_rule x = or_null (λ n. Int (pos n)) x.percentage ∷ Int (pos x.success) ∷ Int (pos x.error) ∷ []

abbrev pub shown_number : PlacedNumber → Row
shown_number x = Int (pos x.sequence) ∷ Int (pos x.number) ∷ []

abbrev pub shown_last_number : LastNumber → Row
shown_last_number x = Int (pos x.it.sequence) ∷ Int (pos x.it.number) ∷ Int (pos x.place) ∷ []
