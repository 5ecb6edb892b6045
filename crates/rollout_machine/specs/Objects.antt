-- The objects that replies show, found in the records.
use Rattle.std.specs.Prelude.{ℕ, suc, ◌-◌, Bool, cond, nat_eq, List, [], ◌∷◌, ◌++◌, map, length, take, drop, Option, Some, None}
use Rattle.std.specs.Option.{option_map_or}
use Rattle.rollout_machine.specs.ByteStrings.{item_numbered}
use Rattle.rollout_machine.specs.Commands.{Bytes, ModuleLabel, SetLabel}
use Rattle.rollout_machine.specs.Groups.{size_of_bounds}
use Rattle.rollout_machine.specs.Records.{ArtifactRecord, GroupRecord, RolloutRecord, ActionRecord, Records}
use Rattle.rollout_machine.specs.Replies.{Module, Artifact, DistributionSet, ShownTarget, ShownRollout, ShownGroup, ShownAction, ShownEntry, Chunk}
use Rattle.rollout_machine.specs.Replies.{PageOf, Report}
use Rattle.rollout_machine.specs.Reports.{Reported}
use Rattle.rollout_machine.specs.Requests.{Page}
use Rattle.rollout_machine.specs.Rollouts.{rule_at}
use Rattle.rollout_machine.specs.StateWords.{action_word, group_number_of, group_word, is_for, member_at, rollout_word, target_word}
use Rattle.rollout_machine.specs.Targets.{Target}
use Rattle.rollout_machine.specs.Verdicts.{is_named_by_set}

abbrev pub page_of : {X : Type 0} → Page → List X → PageOf X
page_of page xs = record { content = take page.limit (drop page.offset xs); total = length xs }

-- ---- modules, artifacts, sets

abbrev pub module_shown : Records → ℕ → ModuleLabel → Module
module_shown rs k label = record { number = k; locked = is_named_by_set rs.sets k; label = label }

abbrev pub artifact_shown : ℕ → ArtifactRecord → Artifact
artifact_shown k a = record { number = k; filename = a.filename; size = a.size; digest = a.digest }

-- the artifacts of module m among these, of which the first has number k
abbrev pub artifacts_shown : ℕ → ℕ → List ArtifactRecord → List Artifact
artifacts_shown m k [] = []
artifacts_shown m k (a ∷ as') = let rest = artifacts_shown m (suc k) as' in cond (nat_eq a.module_number m) (artifact_shown k a ∷ rest) rest

abbrev pub set_shown : ℕ → SetLabel → DistributionSet
set_shown k label = record { number = k; label = label }

-- ---- targets

abbrev pub target_shown : Records → Target → ShownTarget
target_shown rs t = record { id = t.id; name = t.name; tags = t.tags; attributes = t.attributes; word = target_word rs t.id }

-- ---- rollouts and groups

abbrev pub rollout_shown : RolloutRecord → ShownRollout
rollout_shown x = record {
  number = x.number;
  name = x.plan.name;
  set_number = x.plan.set_number;
  filter_text = x.plan.filter_text;
  word = rollout_word x;
  groups = x.plan.groups.count;
  targets = length x.members;
}

abbrev pub group_shown : RolloutRecord → GroupRecord → ShownGroup
group_shown x g = record {
  number = g.number;
  size = size_of_bounds g.bounds;
  ok = g.ok;
  bad = g.bad;
  gone = g.gone;
  success = (rule_at x.plan g.number).success;
  error = (rule_at x.plan g.number).error;
  word = group_word x g;
}

abbrev pub report_of : RolloutRecord → Report
report_of x = record { rollout = rollout_shown x; groups = map (group_shown x) x.groups }

-- the members of a group, in their order
abbrev pub members_in : GroupRecord → List Bytes → List Bytes
members_in g members = take (size_of_bounds g.bounds) (drop (g.bounds.first - 1) members)

-- ---- actions and their histories

abbrev pub action_shown : Records → ℕ → ActionRecord → ShownAction
action_shown rs k a = record {
  number = k;
  rollout = a.rollout;
  group = option_map_or (λ x. group_number_of x a) (item_numbered rs.rollouts a.rollout) 0;
  target = member_at (item_numbered rs.rollouts a.rollout) a.position;
  word = action_word rs a;
}

-- those of these actions, the first of number k, that pass the test
abbrev pub actions_where : (ActionRecord → Bool) → Records → ℕ → List ActionRecord → List ShownAction
actions_where p rs k [] = []
actions_where p rs k (a ∷ as') = let rest = actions_where p rs (suc k) as' in cond (p a) (action_shown rs k a ∷ rest) rest

abbrev pub actions_of_target : Records → Bytes → List ShownAction
actions_of_target rs t = actions_where (is_for rs t) rs 1 rs.actions

abbrev pub entry_shown : ℕ → Reported → ShownEntry
entry_shown k reported = record { number = k; reported = reported }

-- ---- deployments

abbrev pub chunks_of_module : Records → ℕ → Option ModuleLabel → List Chunk
chunks_of_module rs m None = []
chunks_of_module rs m (Some label) = record { module_number = m; label = label; artifacts = artifacts_shown m 1 rs.artifacts } ∷ []

-- the modules of a set, in its order
abbrev pub chunks_of : Records → List ℕ → List Chunk
chunks_of rs [] = []
chunks_of rs (m ∷ ms) = chunks_of_module rs m (item_numbered rs.modules m) ++ chunks_of rs ms

abbrev pub modules_of_set : Option SetLabel → List ℕ
modules_of_set None = []
modules_of_set (Some s) = s.modules

abbrev pub modules_of_rollout : Records → Option RolloutRecord → List ℕ
modules_of_rollout rs None = []
modules_of_rollout rs (Some x) = modules_of_set (item_numbered rs.sets x.plan.set_number)

-- the modules that an action installs
abbrev pub modules_of_action : Records → Option ActionRecord → List ℕ
modules_of_action rs None = []
modules_of_action rs (Some a) = modules_of_rollout rs (item_numbered rs.rollouts a.rollout)
