-- The body that adds a module: an array of exactly one object.
use Rattle.std.specs.Prelude.{Option, option_map, option_and_then, codes}
use Rattle.serde_json.specs.Data.{Data}
use Rattle.rollout_model.specs.declared.module.ModuleLabel.{ModuleLabel}
use Rattle.mgmt_objects.specs.Bodies.{text_member}

-- an object's `name`, `type` and `version`
abbrev pub label_of : Data → Option ModuleLabel
label_of d =
    option_and_then (λ name. option_and_then (λ kind. option_map (λ version. record { name = name; kind = kind; version = version })
    (text_member (codes "version") d)) (text_member (codes "type") d)) (text_member (codes "name") d)
