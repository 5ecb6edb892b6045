-- How much work a call adds.
use Rattle.std.specs.Prelude.{◌≤◌, ℕ, ◌+◌}
use Rattle.sql_calls.specs.declared.calls.Calls.{Calls}
use Rattle.sql_calls.specs.declared.calls.Work.{Work}

-- at most so many statements, and at most so many rows
pub record Adds (statements rows : ℕ) (old new : Work) : Type 0 where
  pub run : new.statements ≤ old.statements + statements
  pub taken : new.rows ≤ old.rows + rows

-- the same, of the calls of a connection
abbrev pub AddsIn : {S : Type 0} → ℕ → ℕ → Calls S → Calls S → Type 0
AddsIn statements rows old new = Adds statements rows old.work new.work

-- at most so many statements, and any number of rows
abbrev pub RunsIn : {S : Type 0} → ℕ → Calls S → Calls S → Type 0
RunsIn statements old new = new.work.statements ≤ old.work.statements + statements
