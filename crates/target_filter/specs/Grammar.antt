-- The texts of filters, apart from any reader: a text is a filter if it is the spelling of some tree of the grammar
--     or = and ("," and)*      and = atom (";" atom)*      atom = "(" or ")" | field operator value
-- A text is the list of its bytes in UTF-8. Every byte that the grammar names is a character of its own there.
use Rattle.std.specs.Prelude.{◌≡◌, ℕ, ◌+◌, ◌≤◌, ◌<◌, List, [], ◌∷◌, ◌++◌, length, take, max, Bool, true, false, not, nat_le, ◌==◌, ◌&&◌, ◌||◌, codes}
use Rattle.std.specs.List.{list_all}
use Rattle.std.specs.Str.{IsUtf8, IsCharBoundary}
use Rattle.rollout_model.specs.Rules.{is_word_letter, is_word}

-- ---- the trees, which keep parentheses and quotes

pub data Field : Type 0 where
  Id : Field
  Name : Field
  Tag : Field
  Attribute : (key : List ℕ) → Field

pub data Operator : Type 0 where
  Equal : Operator
  NotEqual : Operator

-- a value is a pattern, in which each `*` stands for any text
pub data Value : Type 0 where
  Bare : (pattern : List ℕ) → Value
  Quoted : (pattern : List ℕ) → Value

pub data Tree : Type 0 where
  Or : Tree → Tree → Tree
  And : Tree → Tree → Tree
  Group : Tree → Tree
  Comparison : Field → Operator → Value → Tree

-- ---- how a tree is spelled

abbrev pub field_text : Field → List ℕ
field_text Id = codes "controllerid"
field_text Name = codes "name"
field_text Tag = codes "tag"
field_text (Attribute key) = codes "attribute." ++ key

-- the first byte of `==` and `!=`
abbrev pub operator_byte : Operator → ℕ
operator_byte Equal = 61
operator_byte NotEqual = 33

-- 34 is `"`
abbrev pub value_text : Value → List ℕ
value_text (Bare pattern) = pattern
value_text (Quoted pattern) = 34 ∷ (pattern ++ 34 ∷ [])

-- 44 is `,`, 59 is `;`, 40 and 41 are the parentheses, 61 is `=`
abbrev pub spelling : Tree → List ℕ
spelling (Or left right) = spelling left ++ 44 ∷ spelling right
spelling (And left right) = spelling left ++ 59 ∷ spelling right
spelling (Group tree) = 40 ∷ (spelling tree ++ 41 ∷ [])
spelling (Comparison field operator value) = field_text field ++ operator_byte operator ∷ 61 ∷ value_text value

-- ---- which trees are the grammar's

-- what a value without quotes is made of: the letters of words, and `*`
abbrev pub is_bare_byte : ℕ → Bool
is_bare_byte b = is_word_letter b || b == 42

-- what may stand in quotes: anything but `"` and the control characters U+0000 to U+001F and U+007F
abbrev pub is_quotable_byte : ℕ → Bool
is_quotable_byte b = nat_le 32 b && not (b == 34) && not (b == 127)

abbrev pub is_nonempty : List ℕ → Bool
is_nonempty [] = false
is_nonempty (b ∷ bs) = true

abbrev pub is_field : Field → Bool
is_field Id = true
is_field Name = true
is_field Tag = true
is_field (Attribute key) = is_word key

abbrev pub is_filter_value : Value → Bool
is_filter_value (Bare pattern) = is_nonempty pattern && list_all is_bare_byte pattern
is_filter_value (Quoted pattern) = list_all is_quotable_byte pattern

-- the three rules of the grammar
pub data Level : Type 0 where
  OrLevel : Level
  AndLevel : Level
  AtomLevel : Level

abbrev pub allows_or : Level → Bool
allows_or OrLevel = true
allows_or AndLevel = false
allows_or AtomLevel = false

abbrev pub allows_and : Level → Bool
allows_and OrLevel = true
allows_and AndLevel = true
allows_and AtomLevel = false

-- the rule makes the tree; `a,b,c` is the tree of `a,b` and `c`
abbrev pub is_at : Level → Tree → Bool
is_at l (Or left right) = allows_or l && is_at OrLevel left && is_at AndLevel right
is_at l (And left right) = allows_and l && is_at AndLevel left && is_at AtomLevel right
is_at l (Group tree) = is_at OrLevel tree
is_at l (Comparison field operator value) = is_field field && is_filter_value value

-- how deep its parentheses nest
abbrev pub nesting : Tree → ℕ
nesting (Or left right) = max (nesting left) (nesting right)
nesting (And left right) = max (nesting left) (nesting right)
nesting (Group tree) = nesting tree + 1
nesting (Comparison field operator value) = 0

-- ---- filters, without limits

-- the text is a filter, and this is its tree
pub record IsFilter (text : List ℕ) (tree : Tree) : Type 0 where
  pub level : is_at OrLevel tree ≡ true
  pub spells : text ≡ spelling tree

abbrev pub IsInGrammar : List ℕ → Type 0
IsInGrammar text = (tree : Tree) × IsFilter text tree

-- some continuation makes a filter of it
abbrev pub CanContinue : List ℕ → Type 0
CanContinue beginning = (more : List ℕ) × (IsUtf8 more × IsInGrammar (beginning ++ more))

-- so many bytes are the longest beginning, in whole characters, that some continuation makes a filter
pub record IsLongestBeginning (text : List ℕ) (n : ℕ) : Type 0 where
  pub whole : IsCharBoundary text n
  pub continues : CanContinue (take n text)
  pub longest : (m : ℕ) → n < m → m ≤ length text → CanContinue (take m text) → ⊥
