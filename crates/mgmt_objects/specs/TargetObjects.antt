-- The objects of targets, and how many rows of targets were accepted.
use Rattle.std.specs.Prelude.{ℕ, List, [], ◌∷◌, codes, map}
use Rattle.serde_json.specs.Data.{Data, Members, array, string, object, member, no_members, put}
use Rattle.serde_json.specs.View.{items_of}
use Rattle.rollout_model.specs.StateTexts.{target_text}
use Rattle.rollout_model.specs.declared.target.Attribute.{Attribute}
use Rattle.rollout_model.specs.declared.target_word.TargetWord.{TargetWord}
use Rattle.rollout_model.specs.declared.shown_target.ShownTarget.{ShownTarget}
use Rattle.mgmt_objects.specs.Pages.{whole}

-- the members with those of attributes, which stand by their keys in byte order, each key once
abbrev pub with_attribute_members : Members → List Attribute → Members
with_attribute_members members [] = members
with_attribute_members members (a ∷ more) = with_attribute_members (put a.key (string a.value) members) more

-- the object of a target by its parts, its members in byte order
abbrev pub target_object : List ℕ → List ℕ → List (List ℕ) → List Attribute → TargetWord → Data
target_object id name tags attributes word =
    object (member (codes "attributes") (object (with_attribute_members no_members attributes))
    (member (codes "controllerId") (string id) (member (codes "name") (string name)
    (member (codes "tags") (array (items_of (map string tags))) (member (codes "updateStatus") (string (target_text word)) no_members)))))

abbrev pub target_data : ShownTarget → Data
target_data t = target_object t.id t.name t.tags t.attributes t.word

-- how many rows of targets were accepted
abbrev pub accepted_data : ℕ → Data
accepted_data count = object (member (codes "accepted") (whole count) no_members)
