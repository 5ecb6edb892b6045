-- What a text writes: where it makes a step of the rows that are held, it makes it of the ledger.
use Rattle.std.specs.Prelude.{None}
use Rattle.sqlite.proofs.Callers.{statement_of}
use Rattle.sqlite.specs.Listing.{understood}
use Rattle.sqlite.specs.Source.{Source}
use Rattle.sqlite.specs.State.{Runs}
use Rattle.sql_calls.proofs.Framing.{is_written}
use Rattle.desk_records.proofs.MeaningWords.{Changes, Drops, Puts, changed_at, dropped_at, put_at}
use Rattle.desk_store.proofs.Common.{ℕ, List, Row, Result, refl, subst, ◌≡◌, State, Fault, RunsText, Makes, KnowsWrite, run_makes, HoldsLedger, Ledger, Place}
use Rattle.desk_store.proofs.Common.{Query}
use Rattle.desk_store.proofs.Known.{ledger_writes}

-- ---- a text that adds rows, one that changes some, and one that drops some

module _ {p : Place} {sql : List ℕ} where
  abbrev pub puts : {source : Source} → Puts p sql source → KnowsWrite HoldsLedger sql
  puts text = ledger_writes (put_at text) (λ at tree. refl)

  abbrev pub changes : {query : ℕ → Query} → Changes p sql query → KnowsWrite HoldsLedger sql
  changes text = ledger_writes (changed_at text) (λ at tree. refl)

  abbrev pub drops : {query : ℕ → Query} → Drops p sql query → KnowsWrite HoldsLedger sql
  drops text = ledger_writes (dropped_at text) (λ at tree. refl)

-- ---- what it makes of the ledger

module _ {Q : Type 0} {of : Q → Ledger} {sql : List ℕ} {params : Row} {old new : State} {Step : Q → Q → Type 0} (text : KnowsWrite HoldsLedger sql) where
  -- where what was given comes to these parameters
  pub writes : ((count : ℕ) (now next : Q) (holds : HoldsLedger old.now (of now)) → Step now next
      → Runs old new None (text.knows old.now (of now) holds).command (statement_of sql (understood old.now.schema sql)) params count
      → HoldsLedger new.now (of next)) → {out : Result (Unit {0}) Fault} {given : Row} → RunsText old new sql given out → given ≡ params
      → Makes HoldsLedger of old new out Step
  writes step {out} h same = run_makes HoldsLedger of sql params old new Step text.knows out (subst (λ its. RunsText old new sql its out) same h)
      (λ now next change holds count runs.
      (is_written old new _ _ params count (text.rows old.now (of now) holds) runs, step count now next holds change runs))
