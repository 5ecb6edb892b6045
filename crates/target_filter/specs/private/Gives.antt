-- What a reader of a part answers: want of memory aside, what the definition gives.
use Rattle.std.specs.Prelude.{◌≡◌, ◌⊎◌, ℕ, List, Option, Some, None, Result}
use Rattle.std.specs.Borrow.{Bor}
use Rattle.std.specs.Result.{MatchResult}
use Rattle.target_filter.specs.Grammar as grammar
use Rattle.target_filter.specs.Views.{tree_of}
use Rattle.target_filter.specs.declared.tree.Tree.{Tree}
use Rattle.target_filter.specs.declared.comparison.ParseFault.{ParseFault}
use Rattle.target_filter.specs.declared.comparison.ParseFault.TheVariants.{Memory, Missing}

-- as the value is seen
abbrev pub GivesAs : {A B : Type 0} → (A → B) → Option B → Result A ParseFault → Type 0
GivesAs see expected result = MatchResult result (λ v. expected ≡ Some (see v)) (λ e. (e ≡ Memory) ⊎ ((e ≡ Missing) × (expected ≡ None)))

abbrev pub seen : Tree × Bor (List ℕ) → grammar.Tree × List ℕ
seen x = (tree_of x.0, x.1.now)

-- a part of a filter, with the text that is left
abbrev pub Gives : Option (grammar.Tree × List ℕ) → Result (Tree × Bor (List ℕ)) ParseFault → Type 0
Gives = GivesAs seen
