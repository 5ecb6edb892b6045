-- What rows of rollouts, of their groups, of actions and of offers are read as.
use Rattle.std.specs.Option.{is_some}
use Rattle.std.specs.Prelude.{ℕ, ◌+◌, Bool, cond, nat_eq, List, [], ◌∷◌, ◌&&◌}
use Rattle.rollout_machine.specs.ByteStrings.{same_bytes}
use Rattle.rollout_machine.specs.Commands.{Bytes, RolloutPlan}
use Rattle.rollout_machine.specs.declared.records.ActionRecord.{ActionRecord}
use Rattle.rollout_machine.specs.declared.records.RolloutRecord.{RolloutRecord}
use Rattle.desk_records.specs.Actions.{Tally, actor_of}
use Rattle.desk_records.specs.declared.rollout_row.ListedAction.{ListedAction}
use Rattle.desk_records.specs.declared.rollout_row.StoredAction.{StoredAction}
use Rattle.desk_records.specs.declared.rollout_row.StoredRollout.{StoredRollout}
use Rattle.desk_records.specs.declared.rollout_row.ToldPlan.{ToldPlan}

-- ---- in records

-- all but what it says of single groups
abbrev pub told_plan : RolloutPlan → ToldPlan
told_plan plan = record {
  name = plan.name;
  set_number = plan.set_number;
  filter_text = plan.filter_text;
  groups = plan.groups.count;
  success = plan.success;
  error = plan.error;
}

-- without its number, members and groups
abbrev pub stored_rollout : RolloutRecord → StoredRollout
stored_rollout x = record { plan = told_plan x.plan; approval = x.approval; started = x.started; paused = x.paused }

-- without its number and history, with its target among these rollouts
abbrev pub stored_action : List RolloutRecord → ActionRecord × Tally → StoredAction
stored_action rollouts it = record {
  rollout = it.0.rollout;
  position = it.0.position;
  target = actor_of rollouts it.0;
  canceling = it.0.canceling;
  outcome = it.0.outcome;
  notes = it.1.notes;
  entries = it.1.entries;
}

-- those that pass, with their numbers, among these, the first of which has a number
abbrev pub listed_where : (ActionRecord × Tally → Bool) → List RolloutRecord → ℕ → List (ActionRecord × Tally) → List ListedAction
listed_where test rollouts n [] = []
listed_where test rollouts n (it ∷ more) =
    let rest = listed_where test rollouts (n + 1) more in
    cond (test it) (record { number = n; action = stored_action rollouts it } ∷ rest) rest

-- the actions of a rollout
abbrev pub actions_of : List RolloutRecord → ℕ → ℕ → List (ActionRecord × Tally) → List ListedAction
actions_of rollouts rollout = listed_where (λ it. nat_eq it.0.rollout rollout) rollouts

-- the actions of a target
abbrev pub actions_for : List RolloutRecord → Bytes → ℕ → List (ActionRecord × Tally) → List ListedAction
actions_for rollouts id = listed_where (λ it. same_bytes (actor_of rollouts it.0) id) rollouts

-- those of them that ended
abbrev pub ended_for : List RolloutRecord → Bytes → ℕ → List (ActionRecord × Tally) → List ListedAction
ended_for rollouts id = listed_where (λ it. same_bytes (actor_of rollouts it.0) id && is_some it.0.outcome) rollouts
