-- What one call leaves of the connection, and what it adds to the work.
use Rattle.std.specs.Prelude.{◌≡◌, ◌≤◌, ◌<◌, ℕ, zero, suc, ◌+◌, ◌-◌, ◌^◌, min, cond, nat_le, List, length, Vec, Option, Some, None, Result, Ok, Err}
use Rattle.std.specs.declared.alloc.Global.{Global}
use Rattle.sqlite.specs.Order.{Row}
use Rattle.sqlite.specs.declared.error.Error.{Error}
use Rattle.sqlite.specs.declared.error.Error.TheVariants.{QueryReturnedNoRows}
use Rattle.sqlite.specs.State.{State, HasCleanDisk, Survives, Shown, Executes, FailsToQuery, QueriesRow, CommitsShowing, CommitsBy}
use Rattle.sql_calls.specs.declared.calls.Work.{Work}
use Rattle.sql_calls.specs.declared.calls.Calls.{Calls}
use Rattle.sql_calls.specs.declared.fault.Fault.{Fault}
use Rattle.sql_calls.specs.declared.fault.Fault.TheVariants.{Broken, Memory, Store}
use Rattle.sql_calls.specs.Faults.{fault_named, fault_asked}

-- ---- the work

abbrev pub no_work : Work
no_work = record { statements = 0; rows = 0 }

-- a number that stays at the greatest that it can be
abbrev pub capped : ℕ → ℕ
capped n = min n (2 ^ 64 - 1)

-- one statement more, and so many rows
abbrev pub counts : Work → ℕ → Work
counts w rows = record { statements = capped (w.statements + 1); rows = capped (w.rows + rows) }

-- what a count has more than an earlier one
abbrev pub since : Work → Work → Work
since w earlier = record { statements = w.statements - earlier.statements; rows = w.rows - earlier.rows }

abbrev pub rows_in : Result (Vec Row Global) Fault → ℕ
rows_in (Ok rows) = length rows.items
rows_in (Err fault) = 0

abbrev pub few_in : Result (Option (Vec Row Global)) Fault → ℕ
few_in (Ok (Some rows)) = length rows.items
few_in (Ok None) = 0
few_in (Err fault) = 0

abbrev pub row_in : Result (Option Row) Fault → ℕ
row_in (Ok (Some row)) = 1
row_in (Ok None) = 0
row_in (Err fault) = 0

-- ---- the failures

-- so many more, if there are any
abbrev pub fails : ℕ → ℕ → ℕ
fails zero failures = failures
fails (suc more) failures = capped (failures + suc more)

abbrev pub failures_of : Fault → ℕ
failures_of Store = 1
failures_of Memory = 0
failures_of Broken = 0

abbrev pub failures_in : {A : Type 0} → Result A Fault → ℕ
failures_in (Ok a) = 0
failures_in (Err fault) = failures_of fault

-- one, whatever the error
abbrev pub errors_in : {A : Type 0} → Result A Fault → ℕ
errors_in (Ok a) = 0
errors_in (Err fault) = 1

-- no count falls, and so many calls failed: each is counted, up to the greatest number
pub record Grows {S : Type 0} (more : ℕ) (old new : Calls S) : Type 0 where
  pub statements : old.work.statements ≤ new.work.statements
  pub rows : old.work.rows ≤ new.work.rows
  pub failures : old.failures ≤ new.failures
  pub few : new.failures ≤ old.failures + more
  pub counted : new.failures < 2 ^ 64 - 1 → old.failures + more ≤ new.failures

-- ---- the connection

abbrev pub RunsTo : State → State → List ℕ → Row → Result (Unit {0}) Fault → Type 0
RunsTo old new sql params (Ok _) = (count : ℕ) × Executes sql params old new (Ok count)
RunsTo old new sql params (Err fault) = (error : Error) × (fault ≡ fault_named error) × Executes sql params old new (Err error)

-- a statement that is no query
pub record RunsText (old new : State) (sql : List ℕ) (params : Row) (result : Result (Unit {0}) Fault) : Type 0 where
  pub runs : HasCleanDisk new → RunsTo old new sql params result
  pub survives : Survives old new (CommitsBy sql params old)

abbrev pub AsksTo : State → State → List ℕ → Row → Result (Vec Row Global) Fault → Type 0
AsksTo old new sql params (Ok rows) = Shown sql params old new rows.items
AsksTo old new sql params (Err fault) = (error : Error) × (fault ≡ fault_asked error) × FailsToQuery sql params old new error

-- a query, and all its rows
pub record AsksText (old new : State) (sql : List ℕ) (params : Row) (result : Result (Vec Row Global) Fault) : Type 0 where
  pub answers : HasCleanDisk new → AsksTo old new sql params result
  pub survives : Survives old new (CommitsShowing sql params old)

-- the rows where they are at most so many
abbrev pub few_of : ℕ → Result (Vec Row Global) Fault → Result (Option (Vec Row Global)) Fault
few_of most (Ok rows) = Ok (cond (nat_le (length rows.items) most) (Some rows) None)
few_of most (Err fault) = Err fault

-- a query, and all its rows where they are at most so many
pub record AsksFew (old new : State) (sql : List ℕ) (params : Row) (most : ℕ) (result : Result (Option (Vec Row Global)) Fault) : Type 0 where
  pub answer : Result (Vec Row Global) Fault
  pub asks : AsksText old new sql params answer
  pub few : result ≡ few_of most answer

abbrev pub TakesTo : State → State → List ℕ → Row → Result (Option Row) Fault → Type 0
TakesTo old new sql params (Ok (Some row)) = QueriesRow sql params old new (Ok row)
TakesTo old new sql params (Ok None) = QueriesRow sql params old new (Err QueryReturnedNoRows)
TakesTo old new sql params (Err fault) = (error : Error) × (fault ≡ fault_asked error) × QueriesRow sql params old new (Err error)

-- a query, and its first row
pub record TakesFirst (old new : State) (sql : List ℕ) (params : Row) (result : Result (Option Row) Fault) : Type 0 where
  pub answers : HasCleanDisk new → TakesTo old new sql params result
  pub survives : Survives old new (CommitsShowing sql params old)
