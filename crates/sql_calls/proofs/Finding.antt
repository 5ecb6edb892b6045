-- What one statement of a change answers, and what it makes of what the change sees.
use Rattle.sql_calls.proofs.Common.{ℕ, List, [], ◌∷◌, Vec, Option, Some, None, Result, Ok, Err, IfOk, ◌∙◌, arith, Global, Row, Command, Database}
use Rattle.sql_calls.proofs.Common.{understood, State, IsUnchanged, Runs, Writes, EndsIn, statement_of, Fault, RunsText, AsksText, TakesFirst, TakesTo}
use Rattle.sql_calls.proofs.Common.{Known, Knows, Finds, Makes, HasCleanDisk}
use Rattle.sql_calls.specs.Standing.{Wears}
use Rattle.sqlite.specs.Effect.{Reads as Shows}
use Rattle.sql_calls.proofs.Framing.{took}
use Rattle.sql_calls.proofs.Leavings.{unchanged_by, first_shown, none_shown, shows_as, runs_plain}

-- a first row, and that there are more or not, or no row
abbrev pub ShowsFirst : Command → Database → Row → Option Row → Type 0
ShowsFirst command db params (Some row) = (tail : List Row) × Shows command db params (row ∷ tail)
ShowsFirst command db params None = Shows command db params []

took_row : (sql : List ℕ) (params : Row) (old new : State) (row : Option Row) (k : Known old.now.schema sql)
    → ((db : Database) (given : Row) → EndsIn k.command db given) → TakesTo old new sql params (Ok row) → ShowsFirst k.command old.now params row
took_row sql params old new (Some row) k last h =
    let shown = first_shown sql k.command params old new k.means last row h in
    (shown.0, shows_as sql k.command params old new k.means (row ∷ shown.0) shown.1)
took_row sql params old new None k last h = shows_as sql k.command params old new k.means [] (none_shown sql k.command params old new k.means h)

module _ {R Q : Type 0} (Holds : Database → R → Type 0) (of : Q → R) (sql : List ℕ) (params : Row) (old new : State) where
  module _ {A E : Type 0} (Answer : Q → A → Type 0) (knows : Knows Holds sql) where
    -- what is unchanged, and answers by what was held
    found_by : (wears : Wears old new) (out : Result A E)
        → IfOk out (λ a. (now : Q) (holds : Holds old.now (of now)) → HasCleanDisk new → IsUnchanged old new × Answer now a) → Finds Holds of old new out Answer
    found_by wears out each = grind arith

    pub ask_finds : (rows : Vec Row Global) → AsksText old new sql params (Ok rows) → (out : Result A E)
        → IfOk out (λ a. (db : Database) (now : Q) (holds : Holds db (of now)) → Shows (knows db (of now) holds).command db params rows.items → Answer now a)
        → Finds Holds of old new out Answer
    ask_finds rows h (Err e) answers = found_by h.survives.clean (Err e) tt
    ask_finds rows h (Ok a) answers = found_by h.survives.clean (Ok a) (λ now holds clean.
        let k = knows old.now (of now) holds in (
          unchanged_by sql k.command params old new k.means rows.items (h.answers clean),
          answers old.now now holds (shows_as sql k.command params old new k.means rows.items (h.answers clean)),
        ))

    pub first_finds : ((db : Database) (r : R) (holds : Holds db r) (at : Database) (given : Row) → EndsIn (knows db r holds).command at given)
        → (row : Option Row) → TakesFirst old new sql params (Ok row) → (out : Result A E)
        → IfOk out (λ a. (db : Database) (now : Q) (holds : Holds db (of now)) → ShowsFirst (knows db (of now) holds).command db params row → Answer now a)
        → Finds Holds of old new out Answer
    first_finds ends row h (Err e) answers = found_by h.survives.clean (Err e) tt
    first_finds ends row h (Ok a) answers = found_by h.survives.clean (Ok a) (λ now holds clean.
        let k = knows old.now (of now) holds in (
          took Holds sql params old new knows row k (h.answers clean),
          answers old.now now holds (took_row sql params old new row k (ends old.now (of now) holds) (h.answers clean)),
        ))

  -- what a command that writes does to what is held
  abbrev pub Effect : Knows Holds sql → Q → Q → Type 0
  Effect knows now next = (holds : Holds old.now (of now)) (count : ℕ)
      → Runs old new None (knows old.now (of now) holds).command (statement_of sql (understood old.now.schema sql)) params count
      → (w : Writes old new None (knows old.now (of now) holds).command (statement_of sql (understood old.now.schema sql)) params count)
      × Holds new.now (of next)

  pub run_makes : (Change : Q → Q → Type 0) (knows : Knows Holds sql) (out : Result (Unit {0}) Fault) → RunsText old new sql params out
      → ((now next : Q) → Change now next → Effect knows now next) → Makes Holds of old new out Change
  run_makes Change knows (Err e) h effect = record { wears = h.survives.clean; makes = tt }
  run_makes Change knows (Ok _) h effect = record {
    wears = h.survives.clean;
    makes = λ now next was is. record {
      sees = λ clean.
          let first = was.sees (omega (arith, clean, h.survives.clean)) in
          let k = knows old.now (of now) first.now_holds in
          let done = h.runs clean in
          let ran = effect now next (is clean) first.now_holds done.0 (runs_plain sql k.command params old new k.means done.0 done.1) in
          record { mode = ran.0.shown.mode ∙ first.mode; is_open = ran.0.shown.is_open; now_holds = ran.1 };
    };
  }
