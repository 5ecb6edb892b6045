-- The call on the next offer, whose text names two tables.
use Rattle.desk_store.proofs.Common.{◌≡◌, ℕ, pos, Int, [], ◌∷◌, length, Option, Some, Ok, Result, IfOk, refl, ap, codes, Text, Row, Select, State, Fault}
use Rattle.desk_store.proofs.Common.{TakesFirst, Finds}
use Rattle.desk_store.proofs.Common.{Knows, KnowsQuery, Bytes, Offer, NEXT_OFFER, HoldsLedger, Ledger, IsOfferRow, Actions, Groups, HoldsTables}
use Rattle.desk_store.proofs.Common.{next_offer_query}
use Rattle.desk_store.proofs.Common.{next_offer_is, shown_offer, IsReadAs, next_offer, gets_next_offer}
use Rattle.desk_records.proofs.ActionMeaning.{next_offer_takes}
use Rattle.desk_store.proofs.Known.{in_ledgers}
use Rattle.desk_records.proofs.RowsTold.{one_offer}
use Rattle.desk_store.proofs.ReadLemmas.{first_tells, one_read}

abbrev pub next : Knows HoldsTables NEXT_OFFER.now
next db tables holds = record {
  command = Select (record { lets = []; body = next_offer_query (holds.spot Actions).tree (holds.spot Groups).tree })
      (codes "number" ∷ codes "canceling" ∷ []);
  means = next_offer_is db.schema (holds.spot Actions).at (holds.spot Actions).tree (holds.spot Groups).at (holds.spot Groups).tree
      (holds.stands Actions) (holds.stands Groups);
}

abbrev pub next_asked : KnowsQuery HoldsTables NEXT_OFFER.now 2
next_asked = record { knows = next; takes = next_offer_takes; asks = λ db tables holds. refl }

pub next_offer_read : (id : Bytes) (k : ℕ) {old new : State} {row : Option Row} → TakesFirst old new NEXT_OFFER.now (Text id ∷ Int (pos k) ∷ []) (Ok row)
    → (out : Result (Option Offer) Fault) → IfOk out (λ found. IsReadAs IsOfferRow found row)
    → Finds HoldsLedger (λ (l : Ledger). l) old new out (λ l found. length l.tallies ≡ length l.records.actions → found ≡ next_offer l.records id k)
next_offer_read id k {row = row} = first_tells (in_ledgers next) (λ db l holds at given. tt) (λ db l holds shown found is tallied.
    one_read IsOfferRow shown_offer ◌≡◌ refl (λ a b read. ap Some (one_offer a b read)) found (next_offer l.records id k) row is
    (gets_next_offer db l holds [] id k tallied row shown))
