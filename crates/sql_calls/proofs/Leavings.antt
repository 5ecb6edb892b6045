-- What a statement leaves, whatever the database holds.
use Rattle.sql_calls.proofs.Common.{◌≡◌, ◌⊎◌, inl, inr, ℕ, Bool, true, false, List, [], ◌∷◌, Option, Some, None, Ok, Err, IsTrue, refl, sym, ap, subst, ◌∙◌}
use Rattle.sql_calls.proofs.Common.{slice_get, cases_Bool, both_ways, Row, Trees, Command, Begin, Commit, Rollback, Release, Database}
use Rattle.sql_calls.proofs.Common.{RefusesToRead, State, HasCleanDisk, IsUnchanged, IsRolledBack, Survives, Executes, RunsCommand, Runs, FailsToShow}
use Rattle.sql_calls.proofs.Common.{store_error, EndsIn, command_of, statement_of, runs_as, reads_as, begins_shown, Means, Takes, length, arith}
use Rattle.sqlite.specs.Listing.{understood}
use Rattle.sqlite.specs.declared.error.Error.{Error}
use Rattle.sqlite.specs.declared.error.Error.TheVariants.{QueryReturnedNoRows}
use Rattle.sqlite_trees.specs.declared.error.StoreError.{StoreError}
use Rattle.sqlite_syntax.specs.declared.statement.Parsed.{Parsed}
use Rattle.sqlite_resolve.specs.Compile.{compiled, first, planned}
use Rattle.sqlite_resolve.specs.declared.compiled.Compiled.{Compiled}
use Rattle.sqlite_schema.specs.declared.command.Returning.{Returning}
use Rattle.sqlite.specs.Effect.{Reads as Shows, is_query}
use Rattle.sql_calls.specs.Faults.{fault_asked}
use Rattle.sql_calls.specs.declared.fault.Fault.TheVariants.{Broken}
use Rattle.sqlite.specs.State.{ExecutesIn, IsNotRun, FailsToQuery, Shown, Begins, QueriesRow, CommitsShowing, CommitsBy}

-- nothing changed, or the transaction is undone
abbrev pub Leaves : State → State → Type 0
Leaves old new = IsUnchanged old new ⊎ IsRolledBack old new

-- ---- a failed statement

stopped : (old new : State) (sql : List ℕ) (c : Compiled) (params : Row) (e : Error) → RunsCommand old new sql c params (Err e) → Leaves old new
stopped old new sql c params e h6 = grind arith

pub not_run : (old new : State) (sql : List ℕ) (params : Row) (e : Error) → IsNotRun old new sql params e → Leaves old new
unfolding IsNotRun
not_run old new sql params e h5 = grind arith

pub refused : (sql : List ℕ) (params : Row) (old new : State) (e : Error) → Executes sql params old new (Err e) → Leaves old new
unfolding ExecutesIn
refused sql params old new e h5 = grind (arith, not_run, cases_Bool, stopped)

unshown : (old new : State) (sql : List ℕ) (c : Compiled) (params : Row) (e : Error) (o : Option Returning) → FailsToShow old new sql c params e o
    → Leaves old new
unshown old new sql c params e o h = grind (arith, stopped)

pub unanswered : (sql : List ℕ) (params : Row) (old new : State) (e : Error) → FailsToQuery sql params old new e → Leaves old new
unfolding FailsToQuery
unanswered sql params old new e h5 = grind (arith, not_run, unshown)

-- ---- what a statement may commit

-- a command that commits nothing inside a transaction
abbrev pub stays_inside : Command → Bool
stays_inside Commit = false
stays_inside (Release name) = false
stays_inside _ = true

-- a command that writes nothing
abbrev pub is_idle : Command → Bool
is_idle Begin = true
is_idle Rollback = true
is_idle _ = false

pub never_shows_inside : (sql : List ℕ) (params : Row) (s : State) (db : Trees) → s.in_transaction ≡ true → ¬ CommitsShowing sql params s db
unfolding CommitsShowing
never_shows_inside sql params s db inside h = both_ways _ h.3.0 inside

-- a crash leaves what it left before
pub crash_kept : (old new : State) (P : Trees → Type 0) → HasCleanDisk new → ((db : Trees) → ¬ P db) → Survives old new P → (db : Trees) → new.may_leave db
    → old.may_leave db
crash_kept old new P clean never s db h = elim (s.crash clean db h) [ inl was ↦ was | inr made ↦ absurd (never db made) ]

-- A law of each store: while it is open, a crash leaves the last commit.
abbrev pub IsSettled : State → Type 0
IsSettled s = (db : Trees) → IsTrue s.is_open → s.may_leave db → db ≡ s.committed.trees

-- ---- a text that the schema understands

module _ (sql : List ℕ) (command : Command) (params : Row) (old new : State) (means : Means old.now.schema sql command) where
  pub never_commits_inside : (db : Trees) → old.in_transaction ≡ true → stays_inside command ≡ true → ¬ CommitsBy sql params old db
  unfolding CommitsBy
  never_commits_inside db inside stays h = grind arith

  pub unchanged_by : (rows : List Row) → Shown sql params old new rows → IsUnchanged old new
  unfolding Shown
  unchanged_by rows h = grind arith

  pub shows_as : (rows : List Row) → Shown sql params old new rows → Shows command old.now params rows
  shows_as rows h = reads_as sql params old new old.now.schema refl command means.is means.plain means.unlisted rows h

  pub runs_plain : (count : ℕ) → Executes sql params old new (Ok count) → Runs old new None command (statement_of sql (understood old.now.schema sql)) params
      count
  runs_plain count h = runs_as sql params old new old.now.schema refl command means.is means.plain count h

  -- ---- the first row

  pub first_unchanged : (row : Row) → QueriesRow sql params old new (Ok row) → IsUnchanged old new
  unfolding QueriesRow
  first_unchanged row h1 = grind (arith, unchanged_by)

  -- a query with no WITH RECURSIVE can be read to its end
  module _ (ends : (db : Database) (given : Row) → EndsIn command db given) where
    begun_shown : (row : Row) → Begins sql params old (row ∷ []) → IsUnchanged old new → (tail : List Row) × Shown sql params old new (row ∷ tail)
    begun_shown row begins same = begins_shown sql params old new (row ∷ []) begins same (λ c db it from.
        let is : command ≡ c.command = sym means.is ∙ ap command_of it.is in subst (λ k. EndsIn k db (Rattle.sqlite.specs.Clock.timed params c.formats it.now))
        is (ends db _))

    from_front : (rows : List Row) (row : Row) → slice_get rows 0 ≡ Some row → Shown sql params old new rows → (tail : List Row)
        × Shown sql params old new (row ∷ tail)
    from_front [] row first h = absurd (cc)
    from_front (r ∷ rows) row first h = let same : r ≡ row = cc in (rows, subst (λ x. Shown sql params old new (x ∷ rows)) same h)

    pub first_shown : (row : Row) → QueriesRow sql params old new (Ok row) → (tail : List Row) × Shown sql params old new (row ∷ tail)
    unfolding QueriesRow
    first_shown row h1 = grind (arith, begun_shown, from_front)

  -- ---- no row

  is_named : (cause : StoreError) → ¬ (QueryReturnedNoRows ≡ store_error cause)
  is_named cause e = grind arith

  is_run : ¬ IsNotRun old new sql params QueryReturnedNoRows
  unfolding IsNotRun
  is_run h0 = grind (arith, is_named)

  is_read : (limit : Option ℕ) (k : Command) (db : Database) (given : Row) → ¬ RefusesToRead limit k db given QueryReturnedNoRows
  is_read limit k db given h = grind arith

  answered : ¬ FailsToQuery sql params old new QueryReturnedNoRows
  unfolding FailsToQuery
  answered h0 = grind (arith, is_run, is_read)

  pub none_shown : QueriesRow sql params old new (Err QueryReturnedNoRows) → Shown sql params old new []
  unfolding QueriesRow
  none_shown h0 = grind (arith, answered)

  -- a query of so many parameters that the schema understands fails for no reason of its text
  parsed_as : (p : Parsed) (c : Compiled) → first sql ≡ Ok p → understood old.now.schema sql ≡ Ok c → (c.names ≡ p.names) × (c.tail ≡ p.tail)
  unfolding understood compiled
  parsed_as p c read is = elim (planned old.now.schema p) as (λ v. planned old.now.schema p ≡ v → (c.names ≡ p.names) × (c.tail ≡ p.tail)) [
    | Ok plan ↦ λ e. grind arith
    | Err fault ↦ λ e. grind arith
  ] refl

  pub asked_well : is_query command ≡ true → Takes sql (length params) → (e : Error) → FailsToQuery sql params old new e → ¬ (fault_asked e ≡ Broken)
  unfolding FailsToQuery IsNotRun
  asked_well asks takes e h broken = grind (arith, parsed_as, is_named)

  pub first_asked_well : is_query command ≡ true → Takes sql (length params) → (e : Error) → QueriesRow sql params old new (Err e)
      → ¬ (fault_asked e ≡ Broken)
  unfolding QueriesRow
  first_asked_well asks takes e h broken = grind (arith, asked_well)

  -- a query that failed for another reason
  pub first_fails : (e : Error) → QueriesRow sql params old new (Err e) → Leaves old new
  unfolding QueriesRow
  first_fails e h1 = grind (arith, unanswered, unchanged_by)

module _ (sql : List ℕ) (command : Command) (old new : State) (means : Means old.now.schema sql command) where
  pub never_commits_idle : (db : Trees) → is_idle command ≡ true → ¬ CommitsBy sql [] old db
  unfolding CommitsBy
  never_commits_idle db idle h = grind arith
