-- Rows by the values in some of their columns.
use Rattle.std.specs.Prelude.{◌≡◌, ℕ, false, List}
use Rattle.std.specs.List.{AllByRecursion}
use Rattle.std.specs.declared.cmp.Ordering.{Ordering}
use Rattle.std.specs.declared.cmp.Ordering.TheVariants.{Less}
use Rattle.sqlite_value.specs.Order.{Row, column, value_cmp}
use Rattle.sqlite_value.specs.Keys.{plain}
use Rattle.sqlite_trees.specs.Tree.{IsAscending}
use Rattle.sqlite_schema.specs.Rules.{clashes}

-- no two rows have the same values in these columns
abbrev pub HaveKeysApart : List ℕ → List Row → Type 0
HaveKeysApart key rows = AllByRecursion (λ row. clashes plain key rows row ≡ false) rows

-- contents by one column
abbrev pub by_column : ℕ → Row → Row → Ordering
by_column c x y = value_cmp (column x c) (column y c)

-- contents that rise in one column
abbrev pub Rise : ℕ → List Row → Type 0
Rise c = IsAscending (λ x y. by_column c x y ≡ Less)
