-- What a view of a rollout is at a command list, and what the effects of a command on it have to be.
use Rattle.std.specs.Prelude.{◌≡◌, ℕ, ◌+◌, ◌<◌, ◌≤◌, Bool, true, false, ◌&&◌, ◌||◌, not, cond, nat_eq, nat_lt, Option, Some, None}
use Rattle.std.specs.Option.{unwrap_or}
use Rattle.rollout_machine.specs.Actions.{action_of, is_on_action, outcome}
use Rattle.rollout_machine.specs.CommandList.{CommandList, ◌▸◌}
use Rattle.rollout_machine.specs.Commands.{Command, Resume, TriggerNext, Outcome, Good, Bad}
use Rattle.rollout_machine.specs.Counts.{tally, reaches, is_outcome}
use Rattle.rollout_machine.specs.Groups.{IsCut}
use Rattle.rollout_machine.specs.Progress.{is_group_started, is_paused}
use Rattle.rollout_machine.specs.Rollouts.{rule_at, Rollout, first_of, last_of, size_in, size_of}
use Rattle.rollout_machine.specs.declared.view.GroupView.{GroupView}
use Rattle.rollout_machine.specs.declared.view.RolloutView.{RolloutView}
use Rattle.rollout_machine.specs.declared.view.Effects.{Effects}

-- l is the last started group, 0 before the start
pub record IsLast (x : Rollout) (r : ℕ) (h : CommandList) (l : ℕ) : Type 0 where
  pub within : l ≤ x.plan.groups.count
  pub up_to : (i : ℕ) → 1 ≤ i → i ≤ l → is_group_started x r i h ≡ true
  pub beyond : (i : ℕ) → l < i → is_group_started x r i h ≡ false

-- position j is in group i
pub record IsInGroup (x : Rollout) (i j : ℕ) : Type 0 where
  pub low : first_of x i ≤ j
  pub high : j < first_of x i + size_in x i

-- the rollout was accepted with these numbers: its groups are a cut of its members, and the thresholds of each are at least 1
pub record HasSoundPlan (x : Rollout) : Type 0 where
  pub some_groups : 1 ≤ x.plan.groups.count
  pub cut : IsCut (last_of x) (size_of x) x.plan.groups.count
  pub success : (i : ℕ) → 1 ≤ (rule_at x.plan i).success
  pub error : (i : ℕ) → 1 ≤ (rule_at x.plan i).error

-- a command is only on actions of started groups
pub record StartedOnly (x : Rollout) (r : ℕ) (h : CommandList) (c : Command) : Type 0 where
  pub started : (i j : ℕ) → 1 ≤ i → IsInGroup x i j → is_on_action h c r j ≡ true → is_group_started x r i h ≡ true

-- only actions of started groups have an outcome
pub record OutcomesStarted (x : Rollout) (r : ℕ) (h : CommandList) : Type 0 where
  pub none : (i j : ℕ) → 1 ≤ i → IsInGroup x i j → is_group_started x r i h ≡ false → outcome h r j ≡ None

-- the command gives the open action of member j, in group g, the outcome o
pub record GetsOutcome (x : Rollout) (r g j : ℕ) (h : CommandList) (c : Command) (o : Outcome) : Type 0 where
  pub on : action_of h c ≡ Some (record { rollout = r; position = j })
  pub within : IsInGroup x g j
  pub first : 1 ≤ g
  pub last : g ≤ x.plan.groups.count
  pub was : outcome h r j ≡ None
  pub now : outcome (h ▸ c) r j ≡ Some o

-- the numbers of group i of rollout r at h
pub record IsGroupView (v : GroupView) (x : Rollout) (r i : ℕ) (h : CommandList) : Type 0 where
  pub number : v.number ≡ i
  pub size : v.size ≡ size_in x i
  pub ok : v.ok ≡ tally Good x r i h
  pub bad : v.bad ≡ tally Bad x r i h
  pub success : v.success ≡ (rule_at x.plan i).success
  pub error : v.error ≡ (rule_at x.plan i).error

-- the view of rollout r at h, with its group g and its last started group l
pub record IsView (v : RolloutView) (x : Rollout) (r g l : ℕ) (h : CommandList) : Type 0 where
  pub sound : HasSoundPlan x
  pub paused : v.paused ≡ is_paused x r h
  pub groups : v.groups ≡ x.plan.groups.count
  pub own : IsGroupView v.own x r g h
  pub last : IsGroupView v.last x r l h
  pub is_last : IsLast x r h l
  pub outcomes : OutcomesStarted x r h

-- ---- what the effects are, by the view alone

abbrev pub error_begins : ℕ → ℕ → ℕ → ℕ → Bool
error_begins before now size percent = reaches now size percent && not (reaches before size percent)

abbrev pub feedback_pauses : RolloutView → Outcome → Bool
feedback_pauses v o = error_begins v.own.bad (v.own.bad + cond (is_outcome Bad (Some o)) 1 0) v.own.size v.own.error

abbrev pub good_after : RolloutView → Outcome → ℕ
good_after v o = v.last.ok + cond (nat_eq v.own.number v.last.number && is_outcome Good (Some o)) 1 0

abbrev pub next_if : Bool → ℕ → Option ℕ
next_if b l = cond b (Some (l + 1)) None

abbrev pub starts_next : RolloutView → Bool → ℕ → Option ℕ
starts_next v paused good = next_if (nat_lt v.last.number v.groups && (not paused && reaches good v.last.size v.last.success)) v.last.number

-- ---- what the command list says

-- The last started group after a command, where `starts` is what it starts.
abbrev pub last_with : Option ℕ → ℕ → ℕ
last_with starts last = unwrap_or starts last

-- The effects are those of a resume of the rollout, and of a trigger.
abbrev pub FollowsResume : RolloutView → Effects → Type 0
FollowsResume v effects =
    (x : Rollout) (r g l : ℕ) (h : CommandList) → 1 ≤ l → IsView v x r g l h
    → (is_paused x r (h ▸ Resume r) ≡ effects.pauses) × IsLast x r (h ▸ Resume r) (last_with effects.starts l)

abbrev pub FollowsTrigger : RolloutView → Effects → Type 0
FollowsTrigger v effects =
    (x : Rollout) (r g l : ℕ) (h : CommandList) → 1 ≤ l → IsView v x r g l h
    → (is_paused x r (h ▸ TriggerNext r) ≡ (effects.pauses || is_paused x r h)) × IsLast x r (h ▸ TriggerNext r) (last_with effects.starts l)
