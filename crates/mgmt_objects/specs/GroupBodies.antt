-- The groups of a rollout's body: so many even ones, or each as an item of an array says.
use Rattle.std.specs.Prelude.{ℕ, map, codes, Option, Some, None, option_and_then, option_map}
use Rattle.std.specs.Option.{unwrap_or}
use Rattle.serde_json.specs.Data.{Data}
use Rattle.serde_json.specs.Find.{get}
use Rattle.rollout_model.specs.Groupings.{Grouping, defined, are_definitions, evenly}
use Rattle.rollout_model.specs.Rules.{kept_if, is_group_count, is_percentage}
use Rattle.rollout_model.specs.declared.group_definition.GroupDefinition.{GroupDefinition}
use Rattle.mgmt_objects.specs.Bodies.{if_given, whole_of}
use Rattle.mgmt_objects.specs.Thresholds.{threshold_of}
use Rattle.mgmt_objects.specs.Traverse.{array_of}
use Rattle.mgmt_objects.specs.declared.group_item.GroupItem.{GroupItem}

-- an object's `targetPercentage`, and perhaps its `successCondition` and `errorCondition`
abbrev pub group_item_of : Data → Option GroupItem
group_item_of d =
    option_and_then (λ percentage. option_and_then (λ success. option_map (λ error. record { percentage = percentage; success = success; error = error })
    (if_given threshold_of (get (codes "errorCondition") d))) (if_given threshold_of (get (codes "successCondition") d)))
    (option_and_then (kept_if is_percentage) (option_and_then whole_of (get (codes "targetPercentage") d)))

-- a group's definition: its own thresholds, or the rollout's where it has none
abbrev pub item_definition : ℕ → ℕ → GroupItem → GroupDefinition
item_definition success error it = record { percentage = it.percentage; success = unwrap_or it.success success; error = unwrap_or it.error error }

-- by the thresholds of the rollout, `amountGroups` and `groups`. Exactly one of the two is there: so many groups, 1 to 50, as even as
-- can be; or so many, each defined by an item, the last of 100 percent
abbrev pub grouping_by : ℕ → ℕ → Option Data → Option Data → Option Grouping
grouping_by success error (Some amount) None = option_map evenly (option_and_then (kept_if is_group_count) (whole_of amount))
grouping_by success error None (Some groups) =
    option_map defined (option_and_then (kept_if are_definitions) (option_map (map (item_definition success error)) (array_of group_item_of groups)))
grouping_by success error (Some amount) (Some groups) = None
grouping_by success error None None = None
