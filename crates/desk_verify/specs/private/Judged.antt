-- The rows of a table that are of the rollouts from the first on, judged and counted.
use Rattle.std.specs.Prelude.{◌≡◌, ◌||◌, ℕ, zero, suc, Bool, true, false, List, length, filter}
use Rattle.sqlite_value.specs.Order.{Row}
use Rattle.sqlite_rules.specs.Lists.{Has}
use Rattle.desk_records.specs.Listings.{has_at}

-- the column at this place has a number from 1 to n
abbrev pub within : ℕ → ℕ → Row → Bool
within place zero row = false
within place (suc n) row = within place n row || has_at place (suc n) row

-- all rows that pass the test are so, and they are so many
pub record AreJudged (rows : List Row) (Is : Row → Type 0) (test : Row → Bool) (count : ℕ) : Type 0 where
  pub each : (row : Row) → Has rows row → test row ≡ true → Is row
  pub all : count ≡ length (filter test rows)
