-- Targets as they are read.
use Rattle.std.specs.Prelude.{◌≡◌, ◌-◌, ◌&&◌, Bool, true, false, not, cond, filter, length, List, [], ◌∷◌, map, slice_get}
use Rattle.std.specs.List.{AllByRecursion, list_all}
use Rattle.std.specs.Option.{IsSomeAnd}
use Rattle.rollout_machine.specs.Records.{Records}
use Rattle.rollout_machine.specs.Verdicts.{tags_of, target_of}
use Rattle.rollout_model.specs.declared.target.Target.{Target}
use Rattle.rollout_model.specs.Rules.{is_tag_list}
use Rattle.target_filter.specs.Names.{tags_like}
use Rattle.rollout_machine.specs.ByteStrings.{bytes_below, same_bytes}
use Rattle.rollout_machine.specs.Commands.{Attribute, Bytes}
use Rattle.desk_records.specs.Targets.{attributes_of, in_byte_order}
use Rattle.desk_records.specs.declared.target_row.ListedTarget.{ListedTarget}
use Rattle.desk_records.specs.declared.target_row.OwnedAttribute.{OwnedAttribute}
use Rattle.desk_records.specs.declared.target_row.OwnedTag.{OwnedTag}

-- a target that was listed, with the tags and attributes of its id
abbrev pub target_listed : Records → ListedTarget → Target
target_listed r listed = record {
  id = listed.id;
  name = listed.name;
  tags = tags_of (target_of r listed.id);
  attributes = attributes_of (target_of r listed.id);
}

-- ---- what many targets have

abbrev pub listed_ids : List ListedTarget → List Bytes
listed_ids ls = map (λ (l : ListedTarget). l.id) ls

-- those of the tags that are of the target of an id
abbrev pub own_tags : Bytes → List OwnedTag → List Bytes
own_tags id owned = map (λ (o : OwnedTag). o.tag) (filter (λ (o : OwnedTag). same_bytes o.id id) owned)

-- .. of the attributes
abbrev pub own_attributes : Bytes → List OwnedAttribute → List Attribute
own_attributes id owned = map (λ (o : OwnedAttribute). o.attribute) (filter (λ (o : OwnedAttribute). same_bytes o.id id) owned)

-- a target that was listed, with its own of both
abbrev pub own_listed : List OwnedTag → List OwnedAttribute → ListedTarget → Target
own_listed tags attributes l = record {
  id = l.id;
  name = l.name;
  tags = own_tags l.id tags;
  attributes = own_attributes l.id attributes;
}

-- whose tags these are, and whose attributes
abbrev pub tag_ids : List OwnedTag → List Bytes
tag_ids owned = map (λ (o : OwnedTag). o.id) owned

abbrev pub attribute_ids : List OwnedAttribute → List Bytes
attribute_ids owned = map (λ (o : OwnedAttribute). o.id) owned

-- no id is below one before it
abbrev pub rises : List Bytes → Bool
rises [] = true
rises (w ∷ ws) = list_all (λ v. not (bytes_below v w)) ws && rises ws

-- of what targets have, in the order of their ids, that is left which is of targets behind these
pub record AreLeft {O X : Type 0} (ids : List O → List Bytes) (own : Bytes → List O → List X) (before : List Bytes) (owned left : List O) : Type 0 where
  pub rise : rises (ids left) ≡ true
  pub behind : (id : Bytes) → own id left ≡ cond (list_all (λ w. bytes_below w id) before) (own id owned) []

-- of each target that has a list of tags they are one
pub record AreLists (r : Records) (owned : List OwnedTag) : Type 0 where
  pub each : (id : Bytes) → is_tag_list (tags_of (target_of r id)) ≡ true → is_tag_list (own_tags id owned) ≡ true

-- those of some target are no list of tags
pub record HasNoTagList (owned : List OwnedTag) : Type 0 where
  pub id : Bytes
  pub wrong : is_tag_list (own_tags id owned) ≡ false

-- the listed target's own are those of its tags that are this one, or all where it is empty
abbrev pub HasTagsLike : Records → Bytes → List OwnedTag → ListedTarget → Type 0
HasTagsLike r tag owned l = own_tags l.id owned ≡ tags_like tag (tags_of (target_of r l.id))

-- .. its attributes
abbrev pub HasItsAttributes : Records → List OwnedAttribute → ListedTarget → Type 0
HasItsAttributes r owned l = own_attributes l.id owned ≡ attributes_of (target_of r l.id)

-- the ids of the first and of the last
pub record AreEnds (listed : List ListedTarget) (first last : Bytes) : Type 0 where
  pub starts : IsSomeAnd (slice_get listed 0) (λ (l : ListedTarget). first ≡ l.id)
  pub ends : IsSomeAnd (slice_get listed (length listed - 1)) (λ (l : ListedTarget). last ≡ l.id)

-- what is read of them all, in the order of their ids: those of each that was listed, where these come in byte order
pub record AreTagsLike (r : Records) (tag : Bytes) (listed : List ListedTarget) (owned : List OwnedTag) : Type 0 where
  pub rise : rises (tag_ids owned) ≡ true
  pub lists : AreLists r owned
  pub each : in_byte_order (listed_ids listed) ≡ true → AllByRecursion (HasTagsLike r tag owned) listed

pub record AreAttributesOf (r : Records) (listed : List ListedTarget) (owned : List OwnedAttribute) : Type 0 where
  pub rise : rises (attribute_ids owned) ≡ true
  pub each : in_byte_order (listed_ids listed) ≡ true → AllByRecursion (HasItsAttributes r owned) listed
