-- The records after one accepted command, from the records before it.
use Rattle.std.specs.Prelude.{ℕ, suc, ◌+◌, Bool, true, false, ◌&&◌, ◌||◌, cond, nat_eq, nat_lt, List, [], ◌∷◌, ◌++◌, map, length, Option, Some, None, is_none}
use Rattle.std.specs.Option.{option_or, unwrap_or}
use Rattle.rollout_machine.specs.Actions.{ActionPlace, outcome_given, cancel_standing_said}
use Rattle.rollout_machine.specs.ByteStrings.{item_numbered, same_bytes, bytes_below, with_word, without_word, sorted_words}
use Rattle.rollout_machine.specs.Commands.{Bytes, TargetRow, RolloutPlan, Command, AddModule, AddArtifact, AddSet, PutTargets, Tag, Untag}
use Rattle.rollout_machine.specs.Commands.{PutAttributes, CreateRollout, Approve, Deny, Start, Pause, Resume, TriggerNext, Cancel, Feedback}
use Rattle.rollout_machine.specs.Commands.{CancelFeedback, Outcome, Good, Bad, Gone}
use Rattle.rollout_machine.specs.Counts.{is_outcome}
use Rattle.rollout_machine.specs.Effects.{feedback_pauses, good_after, starts_next, next_if}
use Rattle.target_filter.specs.Profile.{filter_of}
use Rattle.rollout_machine.specs.Groupings.{bounds_by}
use Rattle.rollout_machine.specs.Groups.{size_of_bounds}
use Rattle.rollout_machine.specs.Ranges.{each_from}
use Rattle.rollout_machine.specs.Records.{artifact_from, Waiting, Denied, Given, GroupRecord, RolloutRecord, ActionRecord, Records}
use Rattle.rollout_machine.specs.Reports.{is_again, reported_by}
use Rattle.rollout_machine.specs.Rollouts.{rule_at, chosen}
use Rattle.rollout_machine.specs.StateWords.{group_numbered, group_number_of}
use Rattle.rollout_machine.specs.Targets.{Target, with_attributes}
use Rattle.rollout_machine.specs.declared.view.GroupView.{GroupView}
use Rattle.rollout_machine.specs.declared.view.RolloutView.{RolloutView}

-- ---- targets

abbrev pub new_target : TargetRow → Target
new_target row = record { id = row.id; name = row.name; digest = row.digest; tags = sorted_words row.tags; attributes = [] }

abbrev pub put_target : TargetRow → List Target → List Target
put_target row [] = new_target row ∷ []
put_target row (t ∷ ts) = cond (same_bytes row.id t.id) (record (new_target row) { attributes = t.attributes } ∷ ts)
    (cond (bytes_below row.id t.id) (new_target row ∷ t ∷ ts) (t ∷ put_target row ts))

abbrev pub put_targets : List TargetRow → List Target → List Target
put_targets [] ts = ts
put_targets (row ∷ rows) ts = put_targets rows (put_target row ts)

abbrev pub change_target : Bytes → (Target → Target) → List Target → List Target
change_target u f ts = map (λ (t : Target). cond (same_bytes t.id u) (f t) t) ts

-- ---- rollouts

abbrev pub change_rollout : ℕ → (RolloutRecord → RolloutRecord) → List RolloutRecord → List RolloutRecord
change_rollout r f xs = map (λ (x : RolloutRecord). cond (nat_eq x.number r) (f x) x) xs

-- a group before anything happens in it
abbrev pub new_group : RolloutPlan → ℕ → ℕ → GroupRecord
new_group plan m i = record { number = i; bounds = bounds_by plan.groups m i; started = false; ok = 0; bad = 0; gone = 0 }

abbrev pub new_rollout : Bool → ℕ → RolloutPlan → List Bytes → RolloutRecord
new_rollout approval r plan members = record {
  number = r;
  plan = plan;
  members = members;
  approval = cond approval Waiting Given;
  started = false;
  paused = false;
  groups = each_from (new_group plan (length members)) 1 plan.groups.count;
}

abbrev pub is_item_number : ℕ → Option ℕ → Bool
is_item_number i None = false
is_item_number i (Some k) = nat_eq k i

-- the group of this number, if one, is started
abbrev pub start_group : Option ℕ → GroupRecord → GroupRecord
start_group starts g = record g { started = g.started || is_item_number g.number starts }

abbrev pub counted : Outcome → ℕ → GroupRecord → GroupRecord
counted o i g = cond (nat_eq g.number i) (record g {
  ok = g.ok + cond (is_outcome Good (Some o)) 1 0;
  bad = g.bad + cond (is_outcome Bad (Some o)) 1 0;
  gone = g.gone + cond (is_outcome Gone (Some o)) 1 0;
}) g

-- the number of the last started group, or 0
abbrev pub last_started : List GroupRecord → ℕ
last_started [] = 0
last_started (g ∷ gs) = cond (nat_eq (last_started gs) 0) (cond g.started g.number 0) (last_started gs)

abbrev pub view_from_group : RolloutPlan → ℕ → Option GroupRecord → GroupView
view_from_group plan i None = record { number = i; size = 0; ok = 0; bad = 0; success = (rule_at plan i).success; error = (rule_at plan i).error }
view_from_group plan i (Some g) = record {
  number = i;
  size = size_of_bounds g.bounds;
  ok = g.ok;
  bad = g.bad;
  success = (rule_at plan i).success;
  error = (rule_at plan i).error;
}

abbrev pub group_view : RolloutRecord → ℕ → GroupView
group_view x i = view_from_group x.plan i (group_numbered i x.groups)

abbrev pub view_of : RolloutRecord → ℕ → RolloutView
view_of x own = record { paused = x.paused; groups = x.plan.groups.count; own = group_view x own; last = group_view x (last_started x.groups) }

-- an action in group i got the outcome o
abbrev pub rollout_after : Outcome → ℕ → RolloutRecord → RolloutRecord
rollout_after o i x =
    let v = view_of x i in
    let pauses = feedback_pauses v o in
    record x {
      paused = pauses || x.paused;
      groups = map (start_group (starts_next v (x.paused || pauses) (good_after v o))) (map (counted o i) x.groups);
    }

abbrev pub resumed : RolloutRecord → RolloutRecord
resumed x = let v = view_of x (last_started x.groups) in record x { paused = false; groups = map (start_group (starts_next v false v.last.ok)) x.groups }

abbrev pub triggered : RolloutRecord → RolloutRecord
triggered x = record x { groups = map (start_group (next_if (nat_lt (last_started x.groups) x.plan.groups.count) (last_started x.groups))) x.groups }

abbrev pub begin_rollout : RolloutRecord → RolloutRecord
begin_rollout x = record x { started = true; groups = map (start_group (Some 1)) x.groups }

abbrev pub new_action : ActionPlace → ActionRecord
new_action p = record { rollout = p.rollout; position = p.position; canceling = false; outcome = None; history = [] }

abbrev pub new_actions : Option RolloutRecord → List ActionRecord
new_actions None = []
new_actions (Some x) = map new_action (each_from (λ j. record { rollout = x.number; position = j }) 1 (length x.members))

-- ---- actions

abbrev pub action_after : Command → ActionRecord → ActionRecord
action_after c a =
    let gives = option_or a.outcome (outcome_given c a.canceling) in
    record a {
      outcome = gives;
      canceling = is_none gives && unwrap_or (cancel_standing_said c) a.canceling;
      history = a.history ++ cond (is_none a.outcome) (reported_by c) [];
    }

abbrev pub is_same_action : ActionRecord → ActionRecord → Bool
is_same_action b a = nat_eq a.rollout b.rollout && nat_eq a.position b.position

abbrev pub own_group : Option RolloutRecord → ActionRecord → ℕ
own_group None a = 0
own_group (Some x) a = group_number_of x a

-- the outcome that an action gets, of which the first was had before
abbrev pub outcome_if_new : Option Outcome → Option Outcome → Option Outcome
outcome_if_new (Some o) gives = None
outcome_if_new None gives = gives

-- the rollouts after an action of this one got an outcome, or none
abbrev pub rollouts_after_outcome : Option Outcome → List RolloutRecord → ActionRecord → List RolloutRecord
rollouts_after_outcome None xs a = xs
rollouts_after_outcome (Some o) xs a = change_rollout a.rollout (rollout_after o (own_group (item_numbered xs a.rollout) a)) xs

-- a command on this action, which is heard there
abbrev pub act_on : Records → Command → ActionRecord → Records
act_on rs c a = record rs {
  rollouts = rollouts_after_outcome (outcome_if_new a.outcome (outcome_given c a.canceling)) rs.rollouts a;
  actions = map (λ (b : ActionRecord). cond (is_same_action b a) (action_after c b) b) rs.actions;
}

-- a command on this action: what is sent again changes nothing
abbrev pub step_action : Records → Command → Option ActionRecord → Records
step_action rs c None = rs
step_action rs c (Some a) = cond (is_again a.history c) rs (act_on rs c a)

abbrev pub step_records : Records → Command → Records
step_records rs (AddModule label) = record rs { modules = rs.modules ++ label ∷ [] }
step_records rs (AddArtifact upload) = record rs { artifacts = rs.artifacts ++ artifact_from upload ∷ [] }
step_records rs (AddSet label) = record rs { sets = rs.sets ++ label ∷ [] }
step_records rs (PutTargets rows) = record rs { targets = put_targets rows rs.targets }
step_records rs (Tag u x) = record rs { targets = change_target u (λ (t : Target). record t { tags = with_word x t.tags }) rs.targets }
step_records rs (Untag u x) = record rs { targets = change_target u (λ (t : Target). record t { tags = without_word x t.tags }) rs.targets }
step_records rs (PutAttributes device attributes) = record rs {
  targets = change_target device.id
      (λ (t : Target). record t { attributes = with_attributes attributes t.attributes }) rs.targets;
}
step_records rs (CreateRollout plan) = record rs {
  rollouts = rs.rollouts
      ++ new_rollout rs.approval (suc (length rs.rollouts)) plan (chosen (filter_of plan.filter_text) rs.targets) ∷ [];
}
step_records rs (Approve r) = record rs { rollouts = change_rollout r (λ (x : RolloutRecord). record x { approval = Given }) rs.rollouts }
step_records rs (Deny r) = record rs { rollouts = change_rollout r (λ (x : RolloutRecord). record x { approval = Denied }) rs.rollouts }
step_records rs (Start r) = record rs {
  rollouts = change_rollout r begin_rollout rs.rollouts;
  actions = rs.actions ++ new_actions (item_numbered rs.rollouts r);
}
step_records rs (Pause r) = record rs { rollouts = change_rollout r (λ (x : RolloutRecord). record x { paused = true }) rs.rollouts }
step_records rs (Resume r) = record rs { rollouts = change_rollout r resumed rs.rollouts }
step_records rs (TriggerNext r) = record rs { rollouts = change_rollout r triggered rs.rollouts }
step_records rs (Cancel t k force) = step_action rs (Cancel t k force) (item_numbered rs.actions k)
step_records rs (Feedback feedback) = step_action rs (Feedback feedback) (item_numbered rs.actions feedback.action)
step_records rs (CancelFeedback feedback) = step_action rs (CancelFeedback feedback) (item_numbered rs.actions feedback.action)
