-- What follows from the outcome of an action, as steps of a ledger.
use Rattle.std.specs.Prelude.{◌≡◌, ℕ, ◌+◌, true, Some}
use Rattle.rollout_machine.specs.ByteStrings.{item_numbered}
use Rattle.rollout_machine.specs.RecordSteps.{counted}
use Rattle.rollout_machine.specs.declared.outcome.Outcome.{Outcome}
use Rattle.rollout_machine.specs.declared.outcome.Outcome.TheVariants.{Good, Bad, Gone}
use Rattle.rollout_machine.specs.declared.records.GroupRecord.{GroupRecord}
use Rattle.rollout_machine.specs.declared.records.RolloutRecord.{RolloutRecord}
use Rattle.campaign_core.specs.declared.own_group.Following.{Following}
use Rattle.campaign_core.specs.declared.own_group.Following.TheVariants as so
use Rattle.campaign_core.specs.declared.rollout_checks.actions.ActionChange.{ActionChange}
use Rattle.campaign_core.specs.declared.rollout_checks.actions.ActionChange.TheVariants.{StaysOpen, Ends}
use Rattle.campaign_core.specs.declared.rollout_checks.actions.Ending.{Ending}
use Rattle.desk_records.specs.Holds.{Ledger}
use Rattle.desk_records.specs.LedgerSteps.{set_numbered, with_groups, with_rollouts}
use Rattle.desk_commands.specs.private.GroupStarts.{StartsIf}
use Rattle.desk_commands.specs.declared.seen_actions.SeenAction.{SeenAction}

-- how many of this outcome the group counts
abbrev pub outcomes_in : Outcome → GroupRecord → ℕ
outcomes_in Good g = g.ok
outcomes_in Bad g = g.bad
outcomes_in Gone g = g.gone

-- .. once the action changed, if it has an outcome then
abbrev pub outcomes_after : SeenAction → ActionChange → ℕ
outcomes_after seen (StaysOpen canceling) = 0
outcomes_after seen (Ends e) = outcomes_in e.outcome seen.own + 1

-- its group, which counts the outcome
abbrev pub own_after : SeenAction → ActionChange → GroupRecord
own_after seen (StaysOpen canceling) = seen.own
own_after seen (Ends e) = counted e.outcome seen.own.number seen.own

-- rollout r is another
abbrev pub with_rollout : Ledger → ℕ → RolloutRecord → Ledger
with_rollout l r x = with_rollouts l (set_numbered l.records.rollouts r x)

-- one more outcome in the action's group
abbrev pub with_outcome : SeenAction → Outcome → RolloutRecord → RolloutRecord
with_outcome seen o x = with_groups x (set_numbered x.groups seen.own.number (counted o seen.own.number seen.own))

-- its rollout is there, with the approval and the start that were seen, and is paused
pub record Pauses (seen : SeenAction) (l next : Ledger) : Type 0 where
  pub rollout : RolloutRecord
  pub is_its : item_numbered l.records.rollouts seen.action.rollout ≡ Some rollout
  pub approval : seen.approval ≡ rollout.approval
  pub started : seen.started ≡ rollout.started
  pub next_is : next ≡ with_rollout l seen.action.rollout (record rollout { paused = true })

abbrev pub FollowsSo : SeenAction → Following → Ledger → Ledger → Type 0
FollowsSo seen so.Nothing l next = next ≡ l
FollowsSo seen so.Pauses l next = Pauses seen l next
FollowsSo seen so.StartsNext l next = StartsIf seen.action.rollout seen.next l next

-- the outcome is counted, and then the rollout pauses or its next group starts, or neither
pub record FollowsEnding (seen : SeenAction) (e : Ending) (l next : Ledger) : Type 0 where
  pub rollout : RolloutRecord
  pub is_its : item_numbered l.records.rollouts seen.action.rollout ≡ Some rollout
  pub own : item_numbered rollout.groups seen.own.number ≡ Some seen.own
  pub follows : FollowsSo seen e.following (with_rollout l seen.action.rollout (with_outcome seen e.outcome rollout)) next

-- an action that stays open is followed by nothing
abbrev pub FollowsChange : SeenAction → ActionChange → Ledger → Ledger → Type 0
FollowsChange seen (StaysOpen canceling) l next = next ≡ l
FollowsChange seen (Ends e) l next = FollowsEnding seen e l next
