-- The names of what a verification finds.
use Rattle.std.specs.Prelude.{ℕ, List, codes}
use Rattle.rollout_model.specs.Refusals.{refusal_row}
use Rattle.desk_verify.specs.declared.damage.CheckedTable.{CheckedTable}
use Rattle.desk_verify.specs.declared.damage.CheckedTable.TheVariants.{Artifact, Member, RolloutGroup, Action, Offer}
use Rattle.desk_verify.specs.declared.damage.Damage.{Damage}
use Rattle.desk_verify.specs.declared.damage.Damage.TheVariants.{Table, Refused}

abbrev pub table_name : CheckedTable → List ℕ
table_name Artifact = codes "artifact"
table_name Member = codes "member"
table_name RolloutGroup = codes "rollout_group"
table_name Action = codes "action"
table_name Offer = codes "offer"

abbrev pub damage_name : Damage → List ℕ
damage_name (Table table) = table_name table
damage_name (Refused refusal) = (refusal_row refusal).name
