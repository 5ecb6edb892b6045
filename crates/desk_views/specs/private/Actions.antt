-- Actions as they are listed and shown.
use Rattle.std.specs.Prelude.{ℕ, nat_eq, List, Option}
use Rattle.std.specs.List.{find}
use Rattle.std.specs.Option.{option_map, option_map_or}
use Rattle.rollout_machine.specs.ByteStrings.{item_numbered}
use Rattle.rollout_machine.specs.Objects.{entry_shown}
use Rattle.rollout_machine.specs.Ranges.{is_some_and}
use Rattle.rollout_machine.specs.Records.{Records}
use Rattle.rollout_machine.specs.Replies.{ShownAction, ShownEntry}
use Rattle.rollout_machine.specs.Reports.{HistoryEntry, Reported}
use Rattle.rollout_machine.specs.StateWords.{group_holding}
use Rattle.rollout_machine.specs.declared.records.ActionRecord.{ActionRecord}
use Rattle.rollout_machine.specs.declared.records.GroupRecord.{GroupRecord}
use Rattle.rollout_machine.specs.declared.records.RolloutRecord.{RolloutRecord}
use Rattle.campaign_core.specs.StatusWords.{action_word_from}
use Rattle.desk_records.specs.Actions.{tally_of}
use Rattle.desk_records.specs.Parts.{parts_of}
use Rattle.desk_records.specs.RolloutRow.{stored_action}
use Rattle.desk_records.specs.declared.number_row.PlacedNumber.{PlacedNumber}
use Rattle.desk_records.specs.declared.rollout_row.ListedAction.{ListedAction}
use Rattle.desk_records.specs.declared.rollout_row.StoredAction.{StoredAction}

-- what is stored of an action of these records
abbrev pub stored_in : Records → ActionRecord → StoredAction
stored_in r a = stored_action r.rollouts (a, tally_of a)

-- a listed action as it is shown, in its group
abbrev pub shown_in : ListedAction → Option GroupRecord → ShownAction
shown_in it group = record {
  number = it.number;
  rollout = it.action.rollout;
  group = option_map_or (λ (g : GroupRecord). g.number) group 0;
  target = it.action.target;
  word = action_word_from (record {
    outcome = it.action.outcome;
    started = is_some_and (λ (g : GroupRecord). g.started) group;
    canceling = it.action.canceling;
  });
}

-- among the groups of its rollout
abbrev pub shown_among : List GroupRecord → ListedAction → ShownAction
shown_among groups it = shown_in it (group_holding it.action.position groups)

-- in these records
abbrev pub listed_shown : Records → ListedAction → ShownAction
listed_shown r it = shown_among (parts_of (λ (x : RolloutRecord). x.groups) (item_numbered r.rollouts it.action.rollout)) it

-- ---- histories

-- what was reported on an action that is there
abbrev pub reports_of : Option ActionRecord → List Reported
reports_of found = parts_of (λ (a : ActionRecord). a.history) found

-- the number of the entry at this place of the sequence, if it bears one
abbrev pub number_at : ℕ → List PlacedNumber → Option ℕ
number_at place numbers = option_map (λ (it : PlacedNumber). it.number) (find (λ (it : PlacedNumber). nat_eq it.sequence place) numbers)

-- the entry at this place, with what it bears of these numbers
abbrev pub entry_by : List PlacedNumber → ℕ → HistoryEntry → ShownEntry
entry_by numbers place entry = entry_shown place (record { entry = entry; number = number_at place numbers })
