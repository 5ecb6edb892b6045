-- What is said of a rollout as a whole, and how it goes on.
use Rattle.std.specs.Prelude.{◌≡◌, ℕ, Bool, true, false, nat_lt, List, Option, Some, None, option_map, Result, Ok}
use Rattle.std.specs.Option.{ok_or}
use Rattle.sql_calls.specs.declared.fault.Fault.{Fault}
use Rattle.sql_calls.specs.declared.fault.Fault.TheVariants.{Broken}
use Rattle.rollout_machine.specs.ByteStrings.{item_numbered}
use Rattle.rollout_machine.specs.CommandList.{CommandList}
use Rattle.rollout_machine.specs.Commands.{Approve, Command, Deny, Pause, Resume, TriggerNext}
use Rattle.rollout_machine.specs.Effects.{next_if, starts_next}
use Rattle.rollout_machine.specs.Records.{Approval, Denied, Given, records}
use Rattle.rollout_machine.specs.RecordSteps.{last_started, view_of}
use Rattle.rollout_machine.specs.Validity.{IsValid}
use Rattle.rollout_machine.specs.Verdicts.{check}
use Rattle.rollout_machine.specs.declared.records.GroupRecord.{GroupRecord}
use Rattle.rollout_machine.specs.declared.records.RolloutRecord.{RolloutRecord}
use Rattle.rollout_machine.specs.declared.view.RolloutView.{RolloutView}
use Rattle.rollout_model.specs.declared.refusal.Refusal.{Refusal}
use Rattle.desk_records.specs.Holds.{Ledger}
use Rattle.desk_records.specs.LedgerSteps.{SetsRollout}
use Rattle.desk_reads.specs.Rollouts.{IsSeenOf}
use Rattle.desk_reads.specs.declared.rollouts.SeenRollout.{SeenRollout}
use Rattle.desk_commands.specs.private.GroupStarts.{StartsIf}
use Rattle.desk_commands.specs.declared.standing.Said.{Said}
use Rattle.desk_commands.specs.declared.standing.Said.TheVariants.{Approved, Denied as SaidDenied, Paused}
use Rattle.desk_commands.specs.declared.progress.Going.{Going}
use Rattle.desk_commands.specs.declared.progress.Going.TheVariants.{Resumed, Triggered}

-- the rollout of a number at a list of accepted commands, as it is seen
pub record IsSeenAt (h : CommandList) (r : ℕ) (seen : SeenRollout) (x : RolloutRecord) : Type 0 where
  pub valid : IsValid h
  pub is_there : item_numbered (records h).rollouts r ≡ Some x
  pub is_seen : IsSeenOf seen x

-- the verdict on a command on the rollout that is seen
abbrev pub JudgesCommand : (ℕ → Command) → SeenRollout → Option Refusal → Type 0
JudgesCommand command seen result = (h : CommandList) (r : ℕ) (x : RolloutRecord) → IsSeenAt h r seen x → check (records h) (command r) ≡ result

-- ---- as a whole

abbrev pub command_said : Said → ℕ → Command
command_said Approved r = Approve r
command_said SaidDenied r = Deny r
command_said Paused r = Pause r

abbrev pub approval_after : Said → Approval → Approval
approval_after Approved approval = Given
approval_after SaidDenied approval = Denied
approval_after Paused approval = approval

abbrev pub paused_after : Said → Bool → Bool
paused_after Paused paused = true
paused_after _ paused = paused

-- what is said is written of the rollout that is seen
abbrev pub WritesSaid : Said → ℕ → SeenRollout → Ledger → Ledger → Type 0
WritesSaid said r seen l next = SetsRollout r (approval_after said seen.approval) seen.started (paused_after said seen.paused) l next

-- ---- going on

abbrev pub gone_by : Going → ℕ → Command
gone_by Resumed r = Resume r
gone_by Triggered r = TriggerNext r

-- the verdict on going on so, where this is the view of the rollout from its last started group
abbrev pub JudgesGoing : Going → SeenRollout → RolloutView → Option Refusal → Type 0
JudgesGoing going seen view result = (h : CommandList) (r : ℕ) (x : RolloutRecord) → IsSeenAt h r seen x → view ≡ view_of x (last_started x.groups)
    → check (records h) (gone_by going r) ≡ result

abbrev pub pause_left : Going → Bool → Bool
pause_left Resumed paused = false
pause_left Triggered paused = paused

-- the group that starts, by what is seen from the last one that was started
abbrev pub starts_by : Going → RolloutView → Option ℕ
starts_by Resumed v = starts_next v false v.last.ok
starts_by Triggered v = next_if (nat_lt v.last.number v.groups) v.last.number

-- the group of the number, if one starts: rows without it are broken
abbrev pub group_if : List GroupRecord → Option ℕ → Result (Option GroupRecord) Fault
group_if groups None = Ok None
group_if groups (Some i) = ok_or (option_map Some (item_numbered groups i)) Broken

-- the rollout that is seen is paused or not, and then the group starts
pub record GoesOn (r : ℕ) (seen : SeenRollout) (paused : Bool) (group : Option GroupRecord) (l next : Ledger) : Type 0 where
  pub between : Ledger
  pub sets : SetsRollout r seen.approval seen.started paused l between
  pub starts_if : StartsIf r group between next
