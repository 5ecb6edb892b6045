-- Targets in records and in rows.
use Rattle.std.specs.Prelude.{◌≡◌, ◌&&◌, Bool, true, false, not, List, [], ◌∷◌, filter, map, Option, Some, None, is_some}
use Rattle.std.specs.List.{list_all}
use Rattle.sqlite_value.specs.declared.value.Value.TheVariants.{Text, Blob}
use Rattle.sqlite_value.specs.Order.{Row}
use Rattle.rollout_machine.specs.ByteStrings.{bytes_below, contains_word, with_word, without_word}
use Rattle.rollout_machine.specs.Commands.{Bytes, Attribute}
use Rattle.rollout_machine.specs.Records.{Records}
use Rattle.rollout_machine.specs.RecordSteps.{put_target, change_target}
use Rattle.rollout_machine.specs.Targets.{Target, with_attribute}
use Rattle.rollout_machine.specs.Verdicts.{target_of, tags_of}

-- ---- the rows

-- of a target; its tags and attributes lie in the other tables
abbrev pub target_row : Target → Row
target_row t = Text t.id ∷ Text t.name ∷ Blob t.digest ∷ []

-- a row for each tag of each target
abbrev pub tag_rows : Target → List Row
tag_rows t = map (λ (w : Bytes). Text t.id ∷ Text w ∷ []) t.tags

-- a row for each attribute of each target
abbrev pub attribute_rows : Target → List Row
attribute_rows t = map (λ (a : Attribute). Text t.id ∷ Text a.key ∷ Text a.value ∷ []) t.attributes

-- ---- the order that records keep

-- each word is below all that come after it
abbrev pub in_byte_order : List Bytes → Bool
in_byte_order [] = true
in_byte_order (w ∷ ws) = list_all (bytes_below w) ws && in_byte_order ws

abbrev pub keys_of : List Attribute → List Bytes
keys_of attributes = map (λ (a : Attribute). a.key) attributes

abbrev pub ids_of : List Target → List Bytes
ids_of ts = map (λ (t : Target). t.id) ts

-- tags and keys come in byte order, none of them twice
abbrev pub is_sorted : Target → Bool
is_sorted t = in_byte_order t.tags && in_byte_order (keys_of t.attributes)

-- so do targets by their ids
abbrev pub are_sorted : List Target → Bool
are_sorted ts = in_byte_order (ids_of ts) && list_all is_sorted ts

-- ---- what is asked

abbrev pub attributes_of : Option Target → List Attribute
attributes_of None = []
attributes_of (Some t) = t.attributes

-- the target's id is not below the first and not above the last
abbrev pub is_between : Bytes → Bytes → Target → Bool
is_between first last t = not (bytes_below t.id first) && not (bytes_below last t.id)

-- the targets from an id to another
abbrev pub targets_between : Bytes → Bytes → Records → List Target
targets_between first last r = filter (is_between first last) r.targets

-- ---- what is written

-- the records with one more target, which has no tags and no attributes yet
abbrev pub with_target : Records → Bytes → Bytes → Bytes → Records
with_target r id name digest = record r { targets = put_target (record { id = id; name = name; digest = digest; tags = [] }) r.targets }

-- with another name and digest
abbrev pub renamed : Bytes → Bytes → Target → Target
renamed name digest t = record t { name = name; digest = digest }

abbrev pub tagged : Bytes → Target → Target
tagged w t = record t { tags = with_word w t.tags }

abbrev pub untagged : Bytes → Target → Target
untagged w t = record t { tags = without_word w t.tags }

abbrev pub attributed : Attribute → Target → Target
attributed a t = record t { attributes = with_attribute a t.attributes }

-- the records with the target of this id changed, where there is one
abbrev pub with_changed : Records → Bytes → (Target → Target) → Records
with_changed r id f = record r { targets = change_target id f r.targets }

-- no target has the id yet
pub record AddsTarget (id name digest : Bytes) (r next : Records) : Type 0 where
  pub is_new : target_of r id ≡ None
  pub next_is : next ≡ with_target r id name digest

-- the target is there, without the tag
pub record AddsTag (id tag : Bytes) (r next : Records) : Type 0 where
  pub is_there : is_some (target_of r id) ≡ true
  pub is_new : contains_word tag (tags_of (target_of r id)) ≡ false
  pub next_is : next ≡ with_changed r id (tagged tag)

-- the target is there, without an attribute of this key
pub record AddsAttribute (id : Bytes) (attribute : Attribute) (r next : Records) : Type 0 where
  pub is_there : is_some (target_of r id) ≡ true
  pub is_new : contains_word attribute.key (keys_of (attributes_of (target_of r id))) ≡ false
  pub next_is : next ≡ with_changed r id (attributed attribute)

-- the target has an attribute of this key, which gets this value
pub record SetsAttribute (id : Bytes) (attribute : Attribute) (r next : Records) : Type 0 where
  pub is_there : contains_word attribute.key (keys_of (attributes_of (target_of r id))) ≡ true
  pub next_is : next ≡ with_changed r id (attributed attribute)
