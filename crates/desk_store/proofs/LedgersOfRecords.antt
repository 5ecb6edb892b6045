-- Calls on ledgers, said of records: the tables hold the ledger of the records before a command and after it.
use Rattle.desk_store.proofs.Common.{arith, ◌≡◌, Result, State, Finds, Makes, Bytes, HoldsLedger, Ledger, ledger_of}
use Rattle.sql_calls.proofs.Composing.{found_of, made_of}

module _ {A E : Type 0} {old new : State} where
  pub ledger_found : {Answer : Ledger → A → Type 0} → (out : Result A E) → Finds HoldsLedger (λ (l : Ledger). l) old new out Answer
      → Finds HoldsLedger ledger_of old new out (λ r a. Answer (ledger_of r) a)
  ledger_found = found_of ledger_of

  pub ledger_made : {Change : Ledger → Ledger → Type 0} → (out : Result A E) → Makes HoldsLedger (λ (l : Ledger). l) old new out Change
      → Makes HoldsLedger ledger_of old new out (λ r next. Change (ledger_of r) (ledger_of next))
  ledger_made = made_of ledger_of

-- ledgers that offer the same, id by id, are the same
pub same_ledger : (l m : Ledger) → l.records ≡ m.records → l.tallies ≡ m.tallies → ((id : Bytes) → l.offers id ≡ m.offers id) → l.rules ≡ m.rules → l.numbers
    ≡ m.numbers → l ≡ m
same_ledger l m records tallies offers rules numbers = grind arith
