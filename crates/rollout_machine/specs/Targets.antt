-- Targets: who is there, with which name, token, tags and attributes. Everything is found in the command list.
use Rattle.std.specs.Prelude.{Bool, true, false, ◌&&◌, cond, List, [], ◌∷◌, map, Option, Some, None}
use Rattle.std.specs.Option.{option_map_or, option_or, unwrap_or}
use Rattle.rollout_machine.specs.ByteStrings.{same_bytes, bytes_below, contains_word, with_word, without_word, with_words, sorted_words}
use Rattle.rollout_machine.specs.CommandList.{CommandList, Make, ◌▸◌}
use Rattle.rollout_machine.specs.Commands.{Bytes, TargetRow, Attribute, Command, PutTargets, Tag, Untag, PutAttributes}

abbrev pub import_rows_of : Command → List TargetRow
import_rows_of (PutTargets rows) = rows
import_rows_of _ = []

-- the last of these rows that names the target
abbrev pub last_row_for : Bytes → List TargetRow → Option TargetRow
last_row_for t [] = None
last_row_for t (row ∷ rows) = option_or (last_row_for t rows) (cond (same_bytes row.id t) (Some row) None)

-- the last row of the list that names the target: it is there if there is one
abbrev pub last_row_of : Bytes → CommandList → Option TargetRow
last_row_of t (Make approval) = None
last_row_of t (h ▸ c) = option_or (last_row_for t (import_rows_of c)) (last_row_of t h)

-- all targets, in byte order
abbrev pub target_ids : CommandList → List Bytes
target_ids (Make approval) = []
target_ids (h ▸ c) = with_words (map (λ (row : TargetRow). row.id) (import_rows_of c)) (target_ids h)

abbrev pub tag_in_row : Bytes → Option TargetRow → Option Bool
tag_in_row x None = None
tag_in_row x (Some row) = Some (contains_word x row.tags)

-- what a command says of a tag of a target, if anything
abbrev pub tag_standing_said : Bytes → Bytes → Command → Option Bool
tag_standing_said t x (PutTargets rows) = tag_in_row x (last_row_for t rows)
tag_standing_said t x (Tag u y) = cond (same_bytes t u && same_bytes x y) (Some true) None
tag_standing_said t x (Untag u y) = cond (same_bytes t u && same_bytes x y) (Some false) None
tag_standing_said t x _ = None

-- x is a tag of the target if the last that was said of it says so
abbrev pub has_tag : Bytes → Bytes → CommandList → Bool
has_tag t x (Make approval) = false
has_tag t x (h ▸ c) = unwrap_or (tag_standing_said t x c) (has_tag t x h)

-- the target's tags in byte order: the words of which `has_tag` holds
abbrev pub tags_in : Bytes → CommandList → List Bytes
tags_in t (Make approval) = []
tags_in t (h ▸ c) = let tags = tags_in t h in elim c [
  | PutTargets rows ↦ option_map_or (λ (row : TargetRow). sorted_words row.tags) (last_row_for t rows) tags
  | Tag u y ↦ cond (same_bytes t u) (with_word y tags) tags
  | Untag u y ↦ cond (same_bytes t u) (without_word y tags) tags
  | _ ↦ tags
]

-- the attributes with one more value, by key in byte order
abbrev pub with_attribute : Attribute → List Attribute → List Attribute
with_attribute a [] = a ∷ []
with_attribute a (b ∷ bs) = cond (same_bytes a.key b.key) (a ∷ bs) (cond (bytes_below a.key b.key) (a ∷ b ∷ bs) (b ∷ with_attribute a bs))

abbrev pub with_attributes : List Attribute → List Attribute → List Attribute
with_attributes [] bs = bs
with_attributes (a ∷ more) bs = with_attributes more (with_attribute a bs)

abbrev pub attributes_in : Bytes → CommandList → List Attribute
attributes_in t (Make approval) = []
attributes_in t (h ▸ c) = let before = attributes_in t h in elim c [
  | PutAttributes device attributes ↦ cond (same_bytes t device.id) (with_attributes attributes before) before
  | _ ↦ before
]

-- ---- a target as one record
pub record Target : Type 0 where
  pub id : Bytes
  pub name : Bytes
  pub digest : Bytes
  pub tags : List Bytes
  pub attributes : List Attribute

abbrev pub target_in : CommandList → Bytes → Target
target_in h t = record {
  id = t;
  name = unwrap_or (elim (last_row_of t h) [ None ↦ None | Some row ↦ Some row.name ]) [];
  digest = unwrap_or (elim (last_row_of t h) [ None ↦ None | Some row ↦ Some row.digest ]) [];
  tags = tags_in t h;
  attributes = attributes_in t h;
}

abbrev pub targets : CommandList → List Target
targets h = map (target_in h) (target_ids h)
