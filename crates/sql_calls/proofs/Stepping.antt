-- What a change comes to, step by step.
use Rattle.sql_calls.proofs.Common.{◌≡◌, ℕ, true, List, None, Result, Ok, Err, ◌∙◌, arith, Row, Trees, Database, understood, State, HasCleanDisk}
use Rattle.sql_calls.proofs.Common.{Runs, Writes, statement_of, Fault, RunsText, Known, Sees}
use Rattle.std.specs.Prelude.{IsErr}
use Rattle.sql_calls.specs.Standing.{Advances}
use Rattle.sql_calls.proofs.Leavings.{stays_inside, never_commits_inside, crash_kept, runs_plain}

module _ {R : Type 0} {Holds : Database → R → Type 0} where
  pub no_step : {E : Type 0} (now : R) (s : State) → Advances Holds {A = Unit {0}} {E = E} now now s s (Ok tt)
  no_step now s = record { wears = omega arith; sees = λ seen. seen; crash = λ seen clean db left. left }

  pub steps_then : {A B E F : Type 0} {a b c : State} {now mid next : R} {x : A} → Advances Holds {E = E} now mid a b (Ok x) → (out : Result B F)
      → Advances Holds mid next b c out → Advances Holds now next a c out
  steps_then first out second = grind arith

  -- after an error nothing more is known
  pub steps_err : {A B E F : Type 0} {a b : State} {now next other : R} {e : E} → Advances Holds {A = A} now next a b (Err e) → (out : Result B F) → IsErr out
      → Advances Holds now other a b out
  steps_err h out bad = grind arith

-- a statement that is no query
module _ {R : Type 0} (Holds : Database → R → Type 0) (sql : List ℕ) (params : Row) (old new : State) (now next : R)
    (knows : Holds old.now now → Known old.now.schema sql) (stays : (holds : Holds old.now now) → stays_inside (knows holds).command ≡ true)
    (effect : (holds : Holds old.now now) (count : ℕ) → Runs old new None (knows holds).command (statement_of sql (understood old.now.schema sql)) params count
    → (w : Writes old new None (knows holds).command (statement_of sql (understood old.now.schema sql)) params count) × Holds new.now next) where
  left : {out : Result (Unit {0}) Fault} → RunsText old new sql params out → Sees Holds old now → HasCleanDisk new → (db : Trees) → new.may_leave db
      → old.may_leave db
  left h seen clean =
      let it = seen.sees (omega (arith, clean, h.survives.clean)) in
      let known = knows it.now_holds in
      crash_kept old new _ clean (λ db. never_commits_inside sql known.command params old new known.means db it.mode (stays it.now_holds)) h.survives

  pub ran : (out : Result (Unit {0}) Fault) → RunsText old new sql params out → Advances Holds now next old new out
  ran (Err fault) h = record { wears = h.survives.clean; sees = tt; crash = left h }
  ran (Ok _) h = record {
    wears = h.survives.clean;
    crash = left h;
    sees = λ seen. record {
      sees = λ clean.
          let it = seen.sees (omega (arith, clean, h.survives.clean)) in
          let known = knows it.now_holds in
          let done = h.runs clean in
          let made = effect it.now_holds done.0 (runs_plain sql known.command params old new known.means done.0 done.1) in
          record { mode = made.0.shown.mode ∙ it.mode; is_open = made.0.shown.is_open; now_holds = made.1 };
    };
  }
