-- The body that creates a rollout: one object.
use Rattle.std.specs.Prelude.{true, ◌&&◌, codes, Option, None, option_and_then, option_map, if◌then◌else◌}
use Rattle.std.specs.Option.{option_map_or}
use Rattle.serde_json.specs.Data.{Data}
use Rattle.serde_json.specs.Find.{get}
use Rattle.rollout_model.specs.declared.rollout_plan.RolloutPlan.{RolloutPlan}
use Rattle.mgmt_objects.specs.Bodies.{number_member, string_member, text_member}
use Rattle.mgmt_objects.specs.GroupBodies.{grouping_by}
use Rattle.mgmt_objects.specs.Thresholds.{says, threshold_of}

-- an object's `name`, `distributionSetId`, `targetFilterQuery`, `successCondition` and `errorCondition`, and its groups
abbrev pub plan_members : Data → Option RolloutPlan
plan_members d =
    option_and_then (λ name. option_and_then (λ set_number. option_and_then (λ filter_text. option_and_then (λ success. option_and_then
    (λ error. option_map (λ groups. record {
      name = name;
      set_number = set_number;
      filter_text = filter_text;
      groups = groups;
      success = success;
      error = error;
    }) (grouping_by success error (get (codes "amountGroups") d) (get (codes "groups") d)))
    (option_and_then threshold_of (get (codes "errorCondition") d))) (option_and_then threshold_of (get (codes "successCondition") d)))
    (string_member (codes "targetFilterQuery") d)) (number_member (codes "distributionSetId") d)) (text_member (codes "name") d)

-- the same, where a group whose success is reached starts the next one, and one whose error is reached pauses the rollout: no
-- other action is named
abbrev pub plan_of : Data → Option RolloutPlan
plan_of d =
    if option_map_or (says (codes "action") (codes "NEXTGROUP")) (get (codes "successAction") d) true
    && option_map_or (says (codes "action") (codes "PAUSE")) (get (codes "errorAction") d) true
    then plan_members d
    else None
