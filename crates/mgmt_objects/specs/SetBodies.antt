-- The body that adds a distribution set: an array of exactly one object.
use Rattle.std.specs.Prelude.{Option, option_map, option_and_then, codes}
use Rattle.serde_json.specs.Data.{Data}
use Rattle.serde_json.specs.Find.{get}
use Rattle.rollout_model.specs.Rules.{kept_if, is_module_list}
use Rattle.rollout_model.specs.declared.distribution_set.SetLabel.{SetLabel}
use Rattle.mgmt_objects.specs.Bodies.{text_member, number_member}
use Rattle.mgmt_objects.specs.Traverse.{array_of}

-- an object's `name`, `version` and the `id` of each object in its `modules`: 1 to 8 modules, none twice
abbrev pub set_label_of : Data → Option SetLabel
set_label_of d =
    option_and_then (λ name. option_and_then (λ version. option_map (λ modules. record { name = name; version = version; modules = modules })
    (option_and_then (kept_if is_module_list) (option_and_then (array_of (number_member (codes "id"))) (get (codes "modules") d))))
    (text_member (codes "version") d)) (text_member (codes "name") d)
