-- What one statement leaves of the transaction.
use Rattle.sql_calls.proofs.Common.{◌≡◌, ℕ, true, List, [], Vec, Option, Some, None, Result, Ok, Err, sym, ap, subst, ◌∙◌, arith, Global, both_ways, Row, Trees}
use Rattle.sql_calls.proofs.Common.{Schema, Command, Database, understood, State, HasCleanDisk, IsUnchanged, Survives, Runs, Writes, CommitsShowing, CommitsBy}
use Rattle.sql_calls.proofs.Common.{statement_of, Fault, RunsText, AsksText, AsksFew, TakesFirst, TakesTo, few_of, Means, Known, Knows, KnowsWrite, writes_rows}
use Rattle.sql_calls.proofs.Common.{IsInside, IsSpoiled, Opens, Spoiled, FrameTo, IsAtRest, IsRolledBack}
use Rattle.sql_calls.specs.Standing.{Wears}
use Rattle.sql_calls.proofs.Inserts.{same_value}
use Rattle.sql_calls.proofs.Leavings.{Leaves, refused, unanswered, stays_inside, never_shows_inside, never_commits_inside, crash_kept, unchanged_by}
use Rattle.sql_calls.proofs.Leavings.{first_unchanged, first_fails, none_shown, runs_plain}

-- ---- rows alone

pub inside : (command : Command) → writes_rows command ≡ true → stays_inside command ≡ true
inside command rows = grind arith

-- a command that writes rows writes, and the schema stays
pub wrote_rows : (old new : State) (command : Command) (text : List ℕ) (params : Row) (count : ℕ) → writes_rows command ≡ true
    → Runs old new None command text params count → Writes old new None command text params count × (new.now.schema ≡ old.now.schema)
wrote_rows old new command text params count rows w = grind (arith, same_value)

pub is_written : (old new : State) (command : Command) (text : List ℕ) (params : Row) (count : ℕ) → writes_rows command ≡ true
    → Runs old new None command text params count → Writes old new None command text params count
is_written old new command text params count rows ran = (wrote_rows old new command text params count rows ran).0

-- ---- what is left

abbrev pub schema_of : Database → Schema
schema_of d = d.schema

module _ {R : Type 0} (Holds : Database → R → Type 0) where
  still_kept : (old new : State) (kept : R) → IsInside old → IsSpoiled Holds old kept → ((db : Trees) → new.may_leave db → old.may_leave db)
      → new.in_transaction ≡ true → new.committed ≡ old.committed → IsSpoiled Holds new kept
  still_kept old new kept was held crash mode committed = grind (arith, both_ways)

  -- what is undone is at rest
  pub undone : (old new : State) (kept : R) → IsSpoiled Holds old kept → ((db : Trees) → new.may_leave db → old.may_leave db) → IsRolledBack old new
      → IsAtRest Holds new kept
  undone old new kept held crash back = grind arith

  spoiled_by : (old new : State) (kept : R) → IsInside old → IsSpoiled Holds old kept → ((db : Trees) → new.may_leave db → old.may_leave db) → Leaves old new
      → IsSpoiled Holds new kept
  spoiled_by old new kept was held crash h6 = grind (arith, still_kept, undone)

  -- nothing was run, or what was read is of no use
  pub vain : {A B F : Type 0} (E : Type 0) (old new : State) (x : A) → FrameTo Holds {E = E} old new (Ok x) → (out : Result B F) → FrameTo Holds old new out
  vain h0 old new x h out = grind arith

  -- what is known of a change that was open, while the disk is clean
  module _ (old new : State) (wears : Wears old new) (kept : R) (opens : Opens Holds old kept) where
    abbrev After : Type 0 → Type 0
    After X = IsInside old → IsSpoiled Holds old kept → HasCleanDisk new → X

    breaks_off : After (IsSpoiled Holds new kept) → Spoiled Holds new kept
    breaks_off leaves = grind arith

    goes_on : After (IsSpoiled Holds new kept × IsInside new) → Opens Holds new kept
    goes_on leaves = grind (arith, breaks_off, inside)

  module _ (sql : List ℕ) (params : Row) (old new : State) (knows : Knows Holds sql) where
    abbrev known : (kept : R) → IsInside old → IsSpoiled Holds old kept → Known old.now.schema sql
    known kept was held = let k = knows old.committed kept (held.kept_holds was.is_open) in
        record { command = k.command; means = subst (λ s. Means s sql k.command) (sym was.fits) k.means }

    shown_kept : HasCleanDisk new → Survives old new (CommitsShowing sql params old) → IsInside old → (db : Trees) → new.may_leave db → old.may_leave db
    shown_kept clean survives was = crash_kept old new _ clean (λ db. never_shows_inside sql params old db was.mode) survives

    reads_on : (kept : R) → Opens Holds old kept → (survives : Survives old new (CommitsShowing sql params old))
        → (Known old.now.schema sql → HasCleanDisk new → IsUnchanged old new) → Opens Holds new kept
    reads_on kept opens survives same = grind (arith, goes_on, still_kept, shown_kept)

    reads_off : (kept : R) → Opens Holds old kept → (survives : Survives old new (CommitsShowing sql params old))
        → (Known old.now.schema sql → HasCleanDisk new → Leaves old new) → Spoiled Holds new kept
    reads_off kept opens survives leaves = breaks_off old new survives.clean kept opens
        (λ was held clean. spoiled_by old new kept was held (shown_kept clean survives was) (leaves (known kept was held) clean))

    pub ask_frames : (out : Result (Vec Row Global) Fault) → AsksText old new sql params out → FrameTo Holds old new out
    ask_frames (Ok rows) h = λ kept opens. reads_on kept opens h.survives
        (λ k clean. unchanged_by sql k.command params old new k.means rows.items (h.answers clean))
    ask_frames (Err fault) h = λ kept opens. reads_off kept opens h.survives
        (λ k clean. let failed = h.answers clean in unanswered sql params old new failed.0 failed.2)

    pub few_frames : (most : ℕ) (out : Result (Option (Vec Row Global)) Fault) → AsksFew old new sql params most out → FrameTo Holds old new out
    few_frames most out h = subst (λ it. FrameTo Holds old new it) (sym h.few) (go h.answer (ask_frames h.answer h.asks))
      where
        go : (answer : Result (Vec Row Global) Fault) → FrameTo Holds old new answer → FrameTo Holds old new (few_of most answer)
        go (Err fault) frame = frame
        go (Ok rows) frame = frame

    pub took : (row : Option Row) (k : Known old.now.schema sql) → TakesTo old new sql params (Ok row) → IsUnchanged old new
    took (Some row) k h = first_unchanged sql k.command params old new k.means row h
    took None k h = unchanged_by sql k.command params old new k.means [] (none_shown sql k.command params old new k.means h)

    pub first_frames : (out : Result (Option Row) Fault) → TakesFirst old new sql params out → FrameTo Holds old new out
    first_frames (Ok row) h = λ kept opens. reads_on kept opens h.survives (λ k clean. took row k (h.answers clean))
    first_frames (Err fault) h = λ kept opens. reads_off kept opens h.survives
        (λ k clean. let failed = h.answers clean in first_fails sql k.command params old new k.means failed.0 failed.2)

  module _ (sql : List ℕ) (params : Row) (old new : State) (write : KnowsWrite Holds sql) where
    run_kept : (kept : R) → HasCleanDisk new → Survives old new (CommitsBy sql params old) → (was : IsInside old) → IsSpoiled Holds old kept → (db : Trees)
        → new.may_leave db → old.may_leave db
    run_kept kept clean survives was held =
        let k = known sql params old new write.knows kept was held in
        crash_kept old new _ clean (λ db. never_commits_inside sql k.command params old new k.means db was.mode
        (inside k.command (write.rows old.committed kept (held.kept_holds was.is_open)))) survives

    pub run_frames : (out : Result (Unit {0}) Fault) → RunsText old new sql params out → FrameTo Holds old new out
    run_frames (Ok _) h = λ kept opens. goes_on old new h.survives.clean kept opens (λ was held clean.
        let k = known sql params old new write.knows kept was held in
        let done = h.runs clean in
        let it = wrote_rows old new k.command (statement_of sql (understood old.now.schema sql)) params done.0
        (write.rows old.committed kept (held.kept_holds was.is_open)) (runs_plain sql k.command params old new k.means done.0 done.1) in
        let mode : new.in_transaction ≡ true = it.0.shown.mode ∙ was.mode in
        let committed : new.committed ≡ old.committed = rw was.mode at it.0.shown.committed_is in (
          still_kept old new kept was held (run_kept kept clean h.survives was held) mode committed,
          record { mode = mode; is_open = it.0.shown.is_open; fits = it.1 ∙ was.fits ∙ sym (ap schema_of committed) },
        ))
    run_frames (Err fault) h = λ kept opens. breaks_off old new h.survives.clean kept opens (λ was held clean.
        let failed = h.runs clean in
        spoiled_by old new kept was held (run_kept kept clean h.survives was held) (refused sql params old new failed.0 failed.2))
