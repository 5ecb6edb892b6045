-- What the words of states rest on, and that they are those of a command list.
use Rattle.std.specs.Prelude.{◌≡◌, ℕ, ◌+◌, ◌≤◌, Bool, not, cond, nat_eq, List, [], ◌∷◌, Option, Some, None, is_none}
use Rattle.std.specs.List.{list_any}
use Rattle.rollout_machine.specs.Actions.{ActionPlace, outcome, is_canceling}
use Rattle.rollout_machine.specs.CommandList.{CommandList}
use Rattle.rollout_machine.specs.Commands.{Bytes}
use Rattle.rollout_machine.specs.declared.outcome.Outcome.{Outcome}
use Rattle.rollout_machine.specs.declared.outcome.Outcome.TheVariants.{Good, Bad, Gone}
use Rattle.rollout_machine.specs.Counts.{tally, reaches}
use Rattle.rollout_machine.specs.Effects.{HasSoundPlan, IsInGroup}
use Rattle.rollout_machine.specs.Progress.{is_group_started, is_paused, is_rollout_started}
use Rattle.rollout_machine.specs.Ranges.{each_from}
use Rattle.rollout_machine.specs.Records as records
use Rattle.rollout_machine.specs.declared.records.ActionRecord.{ActionRecord}
use Rattle.rollout_machine.specs.Rollouts.{Rollout, rollout_at, rule_at, size_in}
use Rattle.rollout_machine.specs.StateWords as words
use Rattle.campaign_core.specs.declared.status_words.RolloutStatus.{RolloutStatus}
use Rattle.campaign_core.specs.declared.status_words.GroupStatus.{GroupStatus}
use Rattle.campaign_core.specs.declared.status_words.ActionStatus.{ActionStatus}
use Rattle.campaign_core.specs.declared.status_words.TargetStatus.{TargetStatus}

-- ---- the words by the status alone, the first that applies

abbrev pub is_final : GroupStatus → Bool
is_final g = nat_eq (g.ok + g.bad + g.gone) g.size

abbrev pub group_word_from : Bool → GroupStatus → words.GroupWord
group_word_from rollout_started g =
    cond (not rollout_started) words.ReadyGroup (cond (not g.started) words.ScheduledGroup
    (cond (is_final g) words.FinishedGroup (cond (reaches g.bad g.size g.error) words.ErrorGroup words.RunningGroup)))

abbrev pub action_word_from : ActionStatus → words.ActionWord
action_word_from a = elim a.outcome [
  | Some o ↦ elim o [ Good ↦ words.FinishedAction | Bad ↦ words.ErrorAction | Gone ↦ words.CanceledAction ]
  | None ↦ cond (not a.started) words.ScheduledAction (cond a.canceling words.CancelingAction words.RunningAction)
]

-- by how the last action ended
abbrev pub last_word : Option Outcome → words.TargetWord
last_word None = words.Unknown
last_word (Some Good) = words.InSync
last_word (Some Bad) = words.InError
last_word (Some Gone) = words.Unknown

abbrev pub target_word_from : TargetStatus → words.TargetWord
target_word_from t = cond t.any_open words.Pending (last_word t.last)

-- ---- what the command list says

-- the status of rollout r at h
pub record IsRolloutStatus (s : RolloutStatus) (x : Rollout) (r : ℕ) (h : CommandList) : Type 0 where
  pub approval : s.approval ≡ records.approval_of r h
  pub started : s.started ≡ is_rollout_started r h
  pub paused : s.paused ≡ is_paused x r h

-- that of its group i
abbrev pub status_of_group : Rollout → ℕ → CommandList → ℕ → GroupStatus
status_of_group x r h i = record {
  started = is_group_started x r i h;
  size = size_in x i;
  ok = tally Good x r i h;
  bad = tally Bad x r i h;
  gone = tally Gone x r i h;
  error = (rule_at x.plan i).error;
}

-- that of the action of a member of rollout x, in its group i
pub record IsActionStatus (s : ActionStatus) (x : Rollout) (i : ℕ) (p : ActionPlace) (h : CommandList) : Type 0 where
  pub there : rollout_at h p.rollout ≡ Some x
  pub sound : HasSoundPlan x
  pub first : 1 ≤ i
  pub last : i ≤ x.plan.groups.count
  pub within : IsInGroup x i p.position
  pub outcome : s.outcome ≡ outcome h p.rollout p.position
  pub started : s.started ≡ is_group_started x p.rollout i h
  pub canceling : s.canceling ≡ is_canceling h p.rollout p.position

abbrev pub last_outcome : List ActionRecord → Option Outcome
last_outcome [] = None
last_outcome (a ∷ []) = a.outcome
last_outcome (a ∷ b ∷ as') = last_outcome (b ∷ as')

-- that of target t at h, by its actions in started groups
pub record IsTargetStatus (s : TargetStatus) (t : Bytes) (h : CommandList) : Type 0 where
  pub any_open : s.any_open ≡ list_any (λ (a : ActionRecord). is_none a.outcome) (words.started_actions_of (records.records h) t)
  pub last : s.last ≡ last_outcome (words.started_actions_of (records.records h) t)

-- The word is that of every rollout of this status, with all its groups.
abbrev pub FollowsRollout : RolloutStatus → List GroupStatus → words.RolloutWord → Type 0
FollowsRollout s groups word =
    (x : Rollout) (r : ℕ) (h : CommandList) → IsRolloutStatus s x r h → groups ≡ each_from (status_of_group x r h) 1 x.plan.groups.count
    → word ≡ words.rollout_word (records.rollout_in h r x)

-- The word is that of every group of this status.
abbrev pub FollowsGroup : Bool → GroupStatus → words.GroupWord → Type 0
FollowsGroup rollout_started s word =
    (x : Rollout) (r i : ℕ) (h : CommandList) → rollout_started ≡ is_rollout_started r h → s ≡ status_of_group x r h i
    → word ≡ words.group_word (records.rollout_in h r x) (records.group_in x r h i)

-- The word is that of every action of this status.
abbrev pub FollowsAction : ActionStatus → words.ActionWord → Type 0
FollowsAction s word = (x : Rollout) (i : ℕ) (p : ActionPlace) (h : CommandList) → IsActionStatus s x i p h
    → word ≡ words.action_word (records.records h) (records.action_in h p)

-- The word is that of every target of this status.
abbrev pub FollowsTarget : TargetStatus → words.TargetWord → Type 0
FollowsTarget s word = (t : Bytes) (h : CommandList) → IsTargetStatus s t h → word ≡ words.target_word (records.records h) t
