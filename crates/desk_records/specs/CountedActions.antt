-- The actions of a rollout as a count takes them, in the table of actions, whatever rows it has.
use Rattle.std.specs.Prelude.{◌≡◌, ◌&&◌, ℕ, Bool, false, List, length, filter, Option, Some, None}
use Rattle.sqlite_value.specs.Order.{Row, column}
use Rattle.desk_records.specs.CheckedRows.{counted_in}
use Rattle.desk_records.specs.Listings.{has_at}
use Rattle.desk_records.specs.declared.checked_rows.CountedAction.{CountedAction}

abbrev pub passes_if_there : (CountedAction → Bool) → Option CountedAction → Bool
passes_if_there test None = false
passes_if_there test (Some action) = test action

-- The row is an action of the rollout that passes the test. One that breaks the rule of rollout, place or outcome passes none.
abbrev pub is_counted : ℕ → (CountedAction → Bool) → Row → Bool
is_counted rollout test row = has_at 2 rollout row && passes_if_there test (counted_in (column row 3) (column row 6))

-- by each test as many of them pass as rows do
pub record CountsAgree (rows : List Row) (rollout : ℕ) (found : List CountedAction) : Type 0 where
  pub by : (test : CountedAction → Bool) → length (filter test found) ≡ length (filter (is_counted rollout test) rows)
