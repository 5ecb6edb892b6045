-- What the actions of a target say of its software.
use Rattle.std.specs.Prelude.{Bool, true, map, Option, Some, None}
use Rattle.std.specs.List.{last_or, zip}
use Rattle.rollout_machine.specs.ByteStrings.{item_numbered}
use Rattle.rollout_machine.specs.Commands.{Bytes}
use Rattle.rollout_machine.specs.Ranges.{is_some_and}
use Rattle.rollout_machine.specs.Records.{Records}
use Rattle.rollout_machine.specs.StateWords.{group_holding}
use Rattle.rollout_machine.specs.declared.outcome.Outcome.{Outcome}
use Rattle.rollout_machine.specs.declared.records.GroupRecord.{GroupRecord}
use Rattle.desk_records.specs.Actions.{tally_of}
use Rattle.desk_records.specs.RolloutRow.{ended_for}
use Rattle.desk_records.specs.Rollouts.{groups_of}
use Rattle.desk_records.specs.declared.rollout_row.ListedAction.{ListedAction}
use Rattle.desk_records.specs.declared.rollout_row.StoredAction.{StoredAction}

-- whether the group of an action is started
abbrev pub is_begun : Records → StoredAction → Bool
is_begun r a = is_some_and (λ (g : GroupRecord). g.started) (group_holding a.position (groups_of (item_numbered r.rollouts a.rollout)))

-- the last action of a target that ended
abbrev pub last_ended : Records → Bytes → Option ListedAction
last_ended r id = last_or None (ended_for r.rollouts id 1 (zip r.actions (map tally_of r.actions)))

-- whether its group is started, if there is one
abbrev pub has_begun : Records → Option ListedAction → Bool
has_begun r None = true
has_begun r (Some it) = is_begun r it.action

-- how it ended
abbrev pub ending_of : Option ListedAction → Option Outcome
ending_of None = None
ending_of (Some it) = it.action.outcome
