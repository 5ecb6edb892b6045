-- The attributes that a device gives in a body.
use Rattle.std.specs.Prelude.{ℕ, List, [], ◌∷◌, Bool, true, false, codes, bytes_eq, unwrap_or, Option, Some, None, option_and_then, option_map, if◌then◌else◌}
use Rattle.serde_json.specs.Data.{Data, Members, no_members, member}
use Rattle.serde_json.specs.Find.{get, as_str, as_object}
use Rattle.rollout_model.specs.Pairs.{is_config_data}
use Rattle.rollout_model.specs.Rules.{kept_if, is_value, is_word}
use Rattle.rollout_model.specs.declared.target.Attribute.{Attribute}
use Rattle.mgmt_objects.specs.Bodies.{text_in}

-- a key that is a word, and a value of attributes
abbrev pub attribute_of : List ℕ → Data → Option Attribute
attribute_of key d =
    option_and_then (λ word. option_map (λ value. record { key = word; value = value }) (text_in is_value d)) (kept_if is_word key)

-- the members of an object, which has each key once, by their keys in byte order
abbrev pub member_attributes : Members → Option (List Attribute)
member_attributes no_members = Some []
member_attributes (member key d members) = option_and_then (λ attribute. option_map (λ more. attribute ∷ more) (member_attributes members)) (attribute_of key d)

abbrev pub is_merge : Option Data → Bool
is_merge None = true
is_merge (Some d) = unwrap_or (option_map (λ mode. bytes_eq mode (codes "merge")) (as_str d)) false

-- an object's `data`, at most 32 attributes, where its `mode` is `merge` or missing
abbrev pub config_of : Data → Option (List Attribute)
config_of d =
    if is_merge (get (codes "mode") d)
    then option_and_then (kept_if is_config_data) (option_and_then member_attributes (option_and_then as_object (get (codes "data") d)))
    else None
