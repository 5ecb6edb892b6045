-- A query that its tables understand tells no broken rows.
use Rattle.desk_store.proofs.Common.{◌≡◌, ℕ, List, Option, Result, Ok, Vec, length, Global, Row, Database, Ghosts, Fault, Calls, AsksFew, AsksText, TakesFirst}
use Rattle.desk_store.proofs.Common.{arith}
use Rattle.desk_store.proofs.Common.{HoldsLedger, HoldsTables, KnowsQuery, Ledger, seen_in}
use Rattle.std.specs.Prelude.{Err}
use Rattle.std.specs.Result.{IsErrAnd}
use Rattle.sql_calls.proofs.Asking.{ask_is_sound, few_is_sound, first_is_sound}
use Rattle.desk_store.specs.Blaming.{HoldsReading}
use Rattle.desk_store.specs.Breaking.{BreaksFirst, BreaksOnly}
use Rattle.desk_store.specs.Failing.{NeverFails, nothing}
use Rattle.desk_store.proofs.ReadLemmas.{ask_sees, few_sees, first_sees}

-- where tables are held that are read
pub asked_in_readings : {sql : List ℕ} {count : ℕ} → KnowsQuery HoldsTables sql count → KnowsQuery HoldsReading sql count
asked_in_readings query = record {
  knows = λ db reading holds. query.knows db reading.tables holds;
  takes = query.takes;
  asks = λ db reading holds. query.asks db reading.tables holds;
}

module _ {S R : Type 0} {g : Ghosts S} {Holds : Database → R → Type 0} {Given Why : R → Type 0} {sql : List ℕ} {params : Row} {old new : Calls S}
    (query : KnowsQuery Holds sql (length params)) where
  pub first_is_told : (out : Result (Option Row) Fault) → TakesFirst (seen_in g old) (seen_in g new) sql params out → BreaksOnly g Holds Given Why old new out
  first_is_told (Ok row) h = record { to = first_sees Holds params _ _ query.knows row h }
  first_is_told (Err fault) h =
      record { to = λ r sees given. record { reason = λ broken clean. absurd (first_is_sound query r sees clean fault h broken) } }

  pub ask_is_told : (out : Result (Vec Row Global) Fault) → AsksText (seen_in g old) (seen_in g new) sql params out → BreaksOnly g Holds Given Why old new out
  ask_is_told (Ok rows) h = record { to = ask_sees Holds params _ _ query.knows rows h }
  ask_is_told (Err fault) h =
      record { to = λ r sees given. record { reason = λ broken clean. absurd (ask_is_sound query r sees clean fault h broken) } }

  pub few_is_told : (most : ℕ) (out : Result (Option (Vec Row Global)) Fault) → AsksFew (seen_in g old) (seen_in g new) sql params most out
      → BreaksOnly g Holds Given Why old new out
  few_is_told most (Ok found) h = record { to = few_sees Holds params _ _ query.knows most found h }
  few_is_told most (Err fault) h =
      record { to = λ r sees given. record { reason = λ broken clean. absurd (few_is_sound query r sees clean most fault h broken) } }

-- at a `?`, whatever is given of the ledger
module _ {S A B : Type 0} {g : Ghosts S} {Given : Ledger → Type 0} {old new : Calls S} {fault : Fault} (never : NeverFails g {A = A} old new (Err fault))
    (out : Result B Fault) (same : IsErrAnd out (λ e. e ≡ fault)) where
  pub never_breaks : BreaksOnly g HoldsLedger Given nothing old new out
  never_breaks = grind arith

  pub never_breaks_first : BreaksFirst g HoldsLedger Given nothing old new out
  never_breaks_first = grind arith
