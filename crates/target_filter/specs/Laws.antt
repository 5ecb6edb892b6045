-- What the definitions imply, each the contract of a function of src/laws.rt.
use Rattle.std.specs.Prelude.{◌≡◌, ◌↔◌, ℕ, List, ◌∷◌, ◌++◌, Bool, true, not, ◌&&◌, ◌||◌, Some, None}
use Rattle.rollout_model.specs.declared.target.Target.{Target}
use Rattle.target_filter.specs.Grammar.{Field, Value, Tree, Comparison, Equal, NotEqual, OrLevel, AndLevel, AtomLevel, is_at, spelling, IsFilter, IsInGrammar}
use Rattle.target_filter.specs.Patterns.{Matches, matches}
use Rattle.target_filter.specs.Meaning.{holds}
use Rattle.target_filter.specs.Names.{AreAlikeWhereNamed, BeginsWith, id_start}
use Rattle.target_filter.specs.Profile.{IsProfileFilter, IsInProfile, filter_of}

abbrev pub HasOneTree : Type 0
HasOneTree = (text : List ℕ) (t u : Tree) → IsFilter text t → IsFilter text u → t ≡ u

-- the test is the relation
abbrev pub MatchesByTest : Type 0
MatchesByTest = (pattern text : List ℕ) → (matches pattern text ≡ true) ↔ Matches pattern text

-- what is computed is the tree of a text of the profile
abbrev pub ComputesFilters : Type 0
ComputesFilters = (text : List ℕ) (tree : Tree) → (filter_of text ≡ Some tree) ↔ IsProfileFilter text tree

abbrev pub ComputesNothingElse : Type 0
ComputesNothingElse = (text : List ℕ) → (filter_of text ≡ None) ↔ (IsInProfile text → ⊥)

-- `!=` is the negation of `==`
abbrev pub NegatesEqual : Type 0
NegatesEqual = (field : Field) (value : Value) (target : Target)
    → holds (Comparison field NotEqual value) target ≡ not (holds (Comparison field Equal value) target)

-- what a filter doesn't name, it doesn't depend on
abbrev pub DependsOnNamedAlone : Type 0
DependsOnNamedAlone = (tree : Tree) (t u : Target) → AreAlikeWhereNamed tree t u → holds tree t ≡ holds tree u

-- the id of a target that matches begins as the filter says
abbrev pub TellsIdStart : Type 0
TellsIdStart = (tree : Tree) (target : Target) → holds tree target ≡ true → BeginsWith (id_start tree) target.id

-- the text is a filter, and each tree of it has this meaning
abbrev pub HasMeaning : List ℕ → (Target → Bool) → Type 0
HasMeaning text meaning = IsInGrammar text × ((tree : Tree) (target : Target) → IsFilter text tree → holds tree target ≡ meaning target)

-- `a,b;c` is `a,(b;c)`: 44 is `,` and 59 is `;`
abbrev pub BindsAndOnTheRight : Type 0
BindsAndOnTheRight = (a b c : Tree) → is_at OrLevel a ≡ true → is_at AndLevel b ≡ true → is_at AtomLevel c ≡ true
    → HasMeaning (spelling a ++ 44 ∷ (spelling b ++ 59 ∷ spelling c)) (λ target. holds a target || (holds b target && holds c target))

-- `a;b,c` is `(a;b),c`
abbrev pub BindsAndOnTheLeft : Type 0
BindsAndOnTheLeft = (a b c : Tree) → is_at AndLevel a ≡ true → is_at AtomLevel b ≡ true → is_at AndLevel c ≡ true
    → HasMeaning ((spelling a ++ 59 ∷ spelling b) ++ 44 ∷ spelling c) (λ target. (holds a target && holds b target) || holds c target)
