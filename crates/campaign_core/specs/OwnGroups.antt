-- A rollout as the outcome of an action sees it, and what the outcome does to it: the action's own group decides.
use Rattle.std.specs.Prelude.{◌≡◌, ℕ, ◌+◌, Bool, true, false, ◌&&◌, ◌||◌, not, cond, nat_eq, nat_lt, Option, Some, None}
use Rattle.rollout_machine.specs.ByteStrings.{item_numbered}
use Rattle.rollout_machine.specs.CommandList.{CommandList, ◌▸◌}
use Rattle.rollout_machine.specs.Commands.{Command}
use Rattle.rollout_machine.specs.Counts.{reaches}
use Rattle.rollout_machine.specs.Effects.{GetsOutcome, HasSoundPlan, IsGroupView, IsLast, OutcomesStarted, StartedOnly}
use Rattle.rollout_machine.specs.Effects.{error_begins, feedback_pauses, good_after, last_with, starts_next}
use Rattle.rollout_machine.specs.Progress.{is_paused}
use Rattle.rollout_machine.specs.RecordSteps.{group_view, view_of}
use Rattle.rollout_machine.specs.Records.{records}
use Rattle.rollout_machine.specs.Rollouts.{Rollout}
use Rattle.rollout_machine.specs.Ranges.{is_some_and}
use Rattle.rollout_machine.specs.StateWords.{group_number_of, group_numbered}
use Rattle.rollout_machine.specs.Validity.{IsValid}
use Rattle.rollout_machine.specs.declared.outcome.Outcome.{Outcome}
use Rattle.rollout_machine.specs.declared.outcome.Outcome.TheVariants.{Good, Bad, Gone}
use Rattle.rollout_machine.specs.declared.records.ActionRecord.{ActionRecord}
use Rattle.rollout_machine.specs.declared.records.GroupRecord.{GroupRecord}
use Rattle.rollout_machine.specs.declared.records.RolloutRecord.{RolloutRecord}
use Rattle.rollout_machine.specs.declared.view.Effects.{Effects}
use Rattle.rollout_machine.specs.declared.view.RolloutView.{RolloutView}
use Rattle.campaign_core.specs.declared.own_group.Following.{Following}
use Rattle.campaign_core.specs.declared.own_group.Following.TheVariants.{Nothing, Pauses, StartsNext}
use Rattle.campaign_core.specs.declared.own_group.OwnView.{OwnView}

-- it is there and isn't started
abbrev pub waits : Option GroupRecord → Bool
waits None = false
waits (Some g) = not g.started

-- the rollout, seen from its group i
abbrev pub own_view_of : RolloutRecord → ℕ → OwnView
own_view_of x i = record {
  paused = x.paused;
  own = group_view x i;
  next_waits = is_some_and (λ (g : GroupRecord). g.started) (group_numbered i x.groups) && waits (group_numbered (i + 1) x.groups);
}

-- a success that is enough starts the next group, and a failure that is too much pauses the rollout
abbrev pub following : OwnView → Outcome → Following
following v Good = cond (v.next_waits && (not v.paused && reaches (v.own.ok + 1) v.own.size v.own.success)) StartsNext Nothing
following v Bad = cond (error_begins v.own.bad (v.own.bad + 1) v.own.size v.own.error) Pauses Nothing
following v Gone = Nothing

-- the same as effects, where the own group is group i
abbrev pub effects_by : ℕ → Following → Effects
effects_by i Nothing = record { pauses = false; starts = None }
effects_by i Pauses = record { pauses = true; starts = None }
effects_by i StartsNext = record { pauses = false; starts = Some (i + 1) }

abbrev pub own_effects : OwnView → Outcome → Effects
own_effects v o = effects_by v.own.number (following v o)

-- ---- the own group decides

-- what an outcome of an action in the view's own group does to its rollout, by that group and the last started one
abbrev pub effects_of : RolloutView → Outcome → Effects
effects_of v o = record { pauses = feedback_pauses v o; starts = starts_next v (v.paused || feedback_pauses v o) (good_after v o) }

-- It is what the own group tells.
abbrev pub OwnDecides : RolloutRecord → ActionRecord → Type 0
OwnDecides x a = (o : Outcome) → effects_of (view_of x (group_number_of x a)) o ≡ own_effects (own_view_of x (group_number_of x a)) o

abbrev pub OwnGroupDecides : Type 0
OwnGroupDecides =
    (h : CommandList) (k : ℕ) (a : ActionRecord) (x : RolloutRecord) → IsValid h → item_numbered (records h).actions k ≡ Some a
    → item_numbered (records h).rollouts a.rollout ≡ Some x → OwnDecides x a

-- ---- of a command list

-- the view of rollout r at h from its group g, where group l is the last started one
pub record IsOwnView (v : OwnView) (x : Rollout) (r g l : ℕ) (h : CommandList) : Type 0 where
  pub sound : HasSoundPlan x
  pub paused : v.paused ≡ is_paused x r h
  pub own : IsGroupView v.own x r g h
  pub next_waits : v.next_waits ≡ (nat_eq g l && nat_lt g x.plan.groups.count)
  pub is_last : IsLast x r h l
  pub outcomes : OutcomesStarted x r h

-- This follows any command that gives the outcome o to an open action of the view's own group.
abbrev pub FollowsOutcome : OwnView → Outcome → Following → Type 0
FollowsOutcome v o follows =
    (x : Rollout) (r g j l : ℕ) (h : CommandList) (c : Command) → IsOwnView v x r g l h → StartedOnly x r h c → GetsOutcome x r g j h c o
    → (is_paused x r (h ▸ c) ≡ ((effects_by g follows).pauses || is_paused x r h)) × IsLast x r (h ▸ c) (last_with (effects_by g follows).starts l)
