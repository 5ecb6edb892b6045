-- When a text is refused, and why.
use Rattle.std.specs.Prelude.{ℕ, ◌≤◌, ◌<◌, List, length}
use Rattle.rollout_model.specs.Limits.{limits}
use Rattle.target_filter.specs.Grammar.{Tree, IsFilter, IsInGrammar, IsLongestBeginning, nesting}
use Rattle.target_filter.specs.Profile.{IsInProfile}
use Rattle.target_filter.specs.declared.fault.FilterFault.{FilterFault}
use Rattle.target_filter.specs.declared.fault.FilterFault.TheVariants.{TooLong, Syntax, TooDeep, Memory}

abbrev pub IsRefused : List ℕ → FilterFault → Type 0
IsRefused text TooLong = limits.filter_length < length text
IsRefused text (Syntax at) = (length text ≤ limits.filter_length) × (IsInGrammar text → ⊥) × IsLongestBeginning text at
IsRefused text TooDeep = (length text ≤ limits.filter_length) × (tree : Tree) × (IsFilter text tree × (limits.filter_depth < nesting tree))
IsRefused text Memory = IsInProfile text
