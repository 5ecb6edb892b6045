-- What the attributes that a device gives come to.
use Rattle.std.specs.Prelude.{◌≡◌, Bool, true, List, is_some}
use Rattle.std.specs.List.{list_any}
use Rattle.campaign_core.specs.Checks.{IsAttributesView}
use Rattle.campaign_core.specs.declared.checks.targets.AttributesView.{AttributesView}
use Rattle.desk_records.specs.Targets.{are_sorted, attributed, attributes_of, keys_of, with_changed}
use Rattle.rollout_machine.specs.ByteStrings.{with_words}
use Rattle.rollout_machine.specs.Commands.{Bytes, Attribute, Credential}
use Rattle.rollout_machine.specs.Records.{Records}
use Rattle.rollout_machine.specs.Targets.{Target, with_attributes}
use Rattle.rollout_machine.specs.Verdicts.{is_known, target_of}
use Rattle.rollout_model.specs.Pairs.{is_same_attribute}

-- one of the attributes has this key and this value
abbrev pub has_attribute : Attribute → List Attribute → Bool
has_attribute a bs = list_any (λ (b : Attribute). is_same_attribute b a) bs

-- the keys of a target that had these attributes, once it is given others
abbrev pub keys_after : List Attribute → List Attribute → List Bytes
keys_after given had = with_words (keys_of given) (keys_of had)

abbrev pub attributed_with : List Attribute → Target → Target
attributed_with given t = record t { attributes = with_attributes given t.attributes }

-- the target is there, had these attributes before it was given others since, and gets one more
pub record GivesAttribute (id : Bytes) (had since : List Attribute) (attribute : Attribute) (r next : Records) : Type 0 where
  pub is_there : is_some (target_of r id) ≡ true
  pub so_far : attributes_of (target_of r id) ≡ with_attributes since had
  pub next_is : next ≡ with_changed r id (attributed attribute)

-- the target is there, has these attributes, and is given others
pub record GivesAttributes (id : Bytes) (had given : List Attribute) (r next : Records) : Type 0 where
  pub is_there : is_some (target_of r id) ≡ true
  pub had_is : had ≡ attributes_of (target_of r id)
  pub next_is : next ≡ with_changed r id (attributed_with given)

-- the view is of what a device gives, where it is known or not, and its target has these
abbrev pub ViewsAttributes : Bool → List Attribute → List Attribute → AttributesView → Type 0
ViewsAttributes known given had view = (device : Credential) (r : Records) → known ≡ is_known r device → had ≡ attributes_of (target_of r device.id)
    → are_sorted r.targets ≡ true → IsAttributesView view device given r
