-- What a filter names of a target. What it doesn't name needn't be known.
use Rattle.std.specs.Prelude.{◌≡◌, ℕ, Bool, true, false, cond, filter, nat_eq, ◌&&◌, ◌||◌, List, [], ◌∷◌, ◌++◌}
use Rattle.std.specs.Cmp.Lexicographic.{pointwise}
use Rattle.rollout_model.specs.declared.target.Target.{Target}
use Rattle.target_filter.specs.Grammar.{Field, Id, Name, Tag, Attribute, Operator, Equal, NotEqual, Tree, Or, And, Group, Comparison}
use Rattle.target_filter.specs.Meaning.{pattern_of}
use Rattle.target_filter.specs.Patterns.{pieces}

abbrev pub is_name_field : Field → Bool
is_name_field Id = false
is_name_field Name = true
is_name_field Tag = false
is_name_field (Attribute key) = false

abbrev pub is_tag_field : Field → Bool
is_tag_field Id = false
is_tag_field Name = false
is_tag_field Tag = true
is_tag_field (Attribute key) = false

abbrev pub is_attribute_field : Field → Bool
is_attribute_field Id = false
is_attribute_field Name = false
is_attribute_field Tag = false
is_attribute_field (Attribute key) = true

-- some comparison is of names
abbrev pub names_names : Tree → Bool
names_names (Or left right) = names_names left || names_names right
names_names (And left right) = names_names left || names_names right
names_names (Group tree) = names_names tree
names_names (Comparison field operator value) = is_name_field field

-- .. of tags
abbrev pub names_tags : Tree → Bool
names_tags (Or left right) = names_tags left || names_tags right
names_tags (And left right) = names_tags left || names_tags right
names_tags (Group tree) = names_tags tree
names_tags (Comparison field operator value) = is_tag_field field

-- .. of an attribute
abbrev pub names_attributes : Tree → Bool
names_attributes (Or left right) = names_attributes left || names_attributes right
names_attributes (And left right) = names_attributes left || names_attributes right
names_attributes (Group tree) = names_attributes tree
names_attributes (Comparison field operator value) = is_attribute_field field

-- ---- how patterns begin

abbrev pub first_piece : List (List ℕ) → List ℕ
first_piece [] = []
first_piece (piece ∷ more) = piece

-- what stands before the first star
abbrev pub before_star : List ℕ → List ℕ
before_star pattern = first_piece (pieces pattern)

-- the first, unless it is empty
abbrev pub first_told : List ℕ → List ℕ → List ℕ
first_told [] other = other
first_told (b ∷ bs) other = b ∷ bs

-- ---- which tag it names

-- what stands before the first star, where tags are compared
abbrev pub tag_start : Field → List ℕ → List ℕ
tag_start field start = cond (is_tag_field field) start []

-- how the first pattern begins that tags are compared with, of those that begin with something
abbrev pub first_tag : Tree → List ℕ
first_tag (Or left right) = first_told (first_tag left) (first_tag right)
first_tag (And left right) = first_told (first_tag left) (first_tag right)
first_tag (Group tree) = first_tag tree
first_tag (Comparison field operator value) = tag_start field (before_star (pattern_of value))

-- tags aren't compared, or with this text
abbrev pub is_only : List ℕ → Field → List ℕ → Bool
is_only tag field pattern = cond (is_tag_field field) (pointwise nat_eq pattern tag) true

-- tags are compared with this text alone
abbrev pub names_only : List ℕ → Tree → Bool
names_only tag (Or left right) = names_only tag left && names_only tag right
names_only tag (And left right) = names_only tag left && names_only tag right
names_only tag (Group tree) = names_only tag tree
names_only tag (Comparison field operator value) = is_only tag field (pattern_of value)

-- the only text without a star that tags are compared with: empty where there is none
abbrev pub only_tag : Tree → List ℕ
only_tag tree = cond (names_only (first_tag tree) tree) (first_tag tree) []

-- those of the tags that are this one, or all where it is empty
abbrev pub tags_like : List ℕ → List (List ℕ) → List (List ℕ)
tags_like [] tags = tags
tags_like (b ∷ bs) tags = filter (λ (w : List ℕ). pointwise nat_eq w (b ∷ bs)) tags

-- ---- what it doesn't depend on

-- the targets are alike in id, in name and attributes where the filter names these, and in tags where it names them, as far as it names one alone
pub record AreAlikeWhereNamed (tree : Tree) (t u : Target) : Type 0 where
  pub id : t.id ≡ u.id
  pub name : names_names tree ≡ true → t.name ≡ u.name
  pub tags : names_tags tree ≡ true → tags_like (only_tag tree) t.tags ≡ tags_like (only_tag tree) u.tags
  pub attributes : names_attributes tree ≡ true → t.attributes ≡ u.attributes

-- ---- how an id begins

abbrev pub start_if_equal : Operator → List ℕ → List ℕ
start_if_equal Equal start = start
start_if_equal NotEqual start = []

-- a comparison of ids by `==` says how an id begins
abbrev pub compared_start : Field → Operator → List ℕ → List ℕ
compared_start Id operator start = start_if_equal operator start
compared_start Name operator start = []
compared_start Tag operator start = []
compared_start (Attribute key) operator start = []

-- how the id of each target begins that matches, as far as comparisons say it that `;` joins
abbrev pub id_start : Tree → List ℕ
id_start (Or left right) = []
id_start (And left right) = first_told (id_start left) (id_start right)
id_start (Group tree) = id_start tree
id_start (Comparison field operator value) = compared_start field operator (before_star (pattern_of value))

abbrev pub BeginsWith : List ℕ → List ℕ → Type 0
BeginsWith start text = (rest : List ℕ) × (text ≡ start ++ rest)
