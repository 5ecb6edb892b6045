-- Listed targets that a filter matches, and what has to be known of them.
use Rattle.std.specs.Prelude.{◌≡◌, ℕ, ◌+◌, ◌*◌, Bool, true, cond, List, filter, map, Option, Some, None}
use Rattle.std.specs.Int.{div_ceil}
use Rattle.std.specs.List.{AllByRecursion}
use Rattle.rollout_machine.specs.Commands.{Bytes}
use Rattle.rollout_machine.specs.Records.{Records}
use Rattle.rollout_machine.specs.Verdicts.{tags_of, target_of}
use Rattle.rollout_model.specs.declared.target.Target.{Target}
use Rattle.target_filter.specs.Grammar.{Tree}
use Rattle.target_filter.specs.Meaning.{holds}
use Rattle.target_filter.specs.Names.{names_attributes, names_tags, only_tag, tags_like}
use Rattle.desk_records.specs.Targets.{attributes_of, in_byte_order}
use Rattle.desk_records.specs.declared.target_row.ListedTarget.{ListedTarget}
use Rattle.desk_records.specs.declared.target_row.OwnedAttribute.{OwnedAttribute}
use Rattle.desk_records.specs.declared.target_row.OwnedTag.{OwnedTag}
use Rattle.desk_reads.specs.Targets.{AreLists, attribute_ids, listed_ids, own_attributes, own_tags, rises, tag_ids, target_listed}

-- the filter matches the listed target
abbrev pub is_matched : Records → Tree → ListedTarget → Bool
is_matched r f l = holds f (target_listed r l)

-- the ids of those of the listed targets that it matches
abbrev pub those_matched : Records → Tree → List ListedTarget → List Bytes
those_matched r f ls = listed_ids (filter (is_matched r f) ls)

-- .. and of those of these targets
abbrev pub ids_matched : Tree → List Target → List Bytes
ids_matched f ts = map (λ (t : Target). t.id) (filter (holds f) ts)

-- ---- what a filter names of listed targets

-- the listed target's own are its tags, as far as the filter names them
abbrev pub HasNamedTags : Records → Tree → List OwnedTag → ListedTarget → Type 0
HasNamedTags r f owned l = names_tags f ≡ true → tags_like (only_tag f) (own_tags l.id owned) ≡ tags_like (only_tag f) (tags_of (target_of r l.id))

-- .. its attributes, where the filter names them
abbrev pub HasNamedAttributes : Records → Tree → List OwnedAttribute → ListedTarget → Type 0
HasNamedAttributes r f owned l = names_attributes f ≡ true → own_attributes l.id owned ≡ attributes_of (target_of r l.id)

-- what is read of the listed targets for the filter of this tree
pub record AreNamedTags (r : Records) (tree : Option Tree) (listed : List ListedTarget) (owned : List OwnedTag) : Type 0 where
  pub rise : rises (tag_ids owned) ≡ true
  pub lists : AreLists r owned
  pub each : (f : Tree) → tree ≡ Some f → in_byte_order (listed_ids listed) ≡ true → AllByRecursion (HasNamedTags r f owned) listed

pub record AreNamedAttributes (r : Records) (tree : Option Tree) (listed : List ListedTarget) (owned : List OwnedAttribute) : Type 0 where
  pub rise : rises (attribute_ids owned) ≡ true
  pub each : (f : Tree) → tree ≡ Some f → in_byte_order (listed_ids listed) ≡ true → AllByRecursion (HasNamedAttributes r f owned) listed

-- ---- by how many statements it is read

abbrev pub tags_reads : Option Tree → ℕ
tags_reads None = 0
tags_reads (Some f) = cond (names_tags f) 1 0

abbrev pub attributes_reads : Option Tree → ℕ
attributes_reads None = 0
attributes_reads (Some f) = cond (names_attributes f) 1 0

-- of so many targets: what the filter names of up to 100 by one statement each
abbrev pub reads_named : Option Tree → ℕ → ℕ
reads_named tree size = (tags_reads tree + attributes_reads tree) * div_ceil size 100
