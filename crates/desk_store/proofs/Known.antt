-- What a text on one table means where tables are held, whatever rows they have, and so where a ledger is.
use Rattle.desk_store.proofs.Common.{◌≡◌, ℕ, true, List, [], refl, subst, Null, Row, Database, Command, Query, simple, by, Knows, KnowsQuery, KnowsWrite}
use Rattle.desk_store.proofs.Common.{Takes, writes_rows}
use Rattle.desk_store.proofs.Common.{Place, HoldsLedger, HoldsTables, Tables, rows_of, Asks, Counts, counted_at}
use Rattle.sqlite.specs.Effect.{Reads as Shows, is_query}
use Rattle.sqlite.specs.Program.{overlay}
use Rattle.sqlite.specs.Query.{IsAnswer}
use Rattle.desk_records.proofs.MeaningWords.{MeansAt, asked_at}

-- where a ledger is held, tables are
abbrev pub in_ledgers : {sql : List ℕ} → Knows HoldsTables sql → Knows HoldsLedger sql
in_ledgers knows db l holds = knows db (rows_of db l holds) (record { sound = holds.sound; spot = holds.spot; stands = holds.stands; rows = λ p. refl })

-- .. and so they answer the same queries
abbrev pub asked_in_ledgers : {sql : List ℕ} {count : ℕ} → KnowsQuery HoldsTables sql count → KnowsQuery HoldsLedger sql count
asked_in_ledgers query = record {
  knows = in_ledgers query.knows;
  takes = query.takes;
  asks = λ db l holds. query.asks db (rows_of db l holds) (record { sound = holds.sound; spot = holds.spot; stands = holds.stands; rows = λ p. refl });
}

module _ {p : Place} {sql : List ℕ} {command : ℕ → ℕ → Command} (means : MeansAt p sql command) where
  -- wherever the table stands
  abbrev pub tables_know : Knows HoldsTables sql
  tables_know db tables holds =
      record { command = command (holds.spot p).at (holds.spot p).tree; means = means.at db.schema (holds.spot p).at (holds.spot p).tree (holds.stands p) }

  -- .. as a query
  abbrev pub tables_asked : {count : ℕ} → ((at tree : ℕ) → is_query (command at tree) ≡ true) → Takes sql count → KnowsQuery HoldsTables sql count
  tables_asked queries takes = record { knows = tables_know; takes = takes; asks = λ db tables holds. queries (holds.spot p).at (holds.spot p).tree }

  -- .. as a text that writes rows
  abbrev pub ledger_writes : ((at tree : ℕ) → writes_rows (command at tree) ≡ true) → KnowsWrite HoldsLedger sql
  ledger_writes rows = record { knows = in_ledgers tables_know; rows = λ db l holds. rows (holds.spot p).at (holds.spot p).tree }

-- a query over one table, where that stands
abbrev pub over : (ℕ → Query) → ℕ → Query
over query tree = by (simple tree (query 0).filter (query 0).project) (query 0).order (query 0).limit (query 0).offset

abbrev pub counted : {p : Place} {sql : List ℕ} {count : ℕ} → Counts p sql → Takes sql count → KnowsQuery HoldsTables sql count
counted text = tables_asked (counted_at text) (λ at tree. refl)

module _ {p : Place} {sql : List ℕ} {query : ℕ → Query} {names : List (List ℕ)} (text : Asks p sql query names) where
  abbrev pub known : Knows HoldsTables sql
  known = tables_know (asked_at text)

  abbrev pub asked : {count : ℕ} → Takes sql count → KnowsQuery HoldsTables sql count
  asked = tables_asked (asked_at text) (λ at tree. refl)

  -- what it shows is an answer to the query over the rows there
  pub answer_of : {db : Database} {t : Tables} (holds : HoldsTables db t) {params : Row} {shown : List Row} → Shows (known db t holds).command db params shown
      → IsAnswer (over query (holds.spot p).tree) (overlay db.trees []) params shown
  answer_of {db} holds {params} {shown} shows = subst (λ b. IsAnswer b (overlay db.trees []) params shown) (text.shape (holds.spot p).tree) (shows.answer Null)
