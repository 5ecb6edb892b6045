-- Why the rows of numbers, of the desk and of the next offer are no failed store by themselves.
use Rattle.desk_store.proofs.FailLemmas.{breaks_first_by, told_alone, broken_so, first_tells_only, never_by, tables_of, tells_as}
use Rattle.desk_store.proofs.Common.{◌≡◌, ◌⊎◌, ◌≤◌, ◌<◌, ◌^◌, ◌+◌, ℕ, suc, min, length, pos, Bool, true, false, List, [], ◌∷◌, Option, Some, None, option_map}
use Rattle.desk_store.proofs.Common.{Ok, Result, IfErr, arith, is_some, Value, Int, Text, Row, column, has_size, Fault, TakesFirst, first_finds, shown_of}
use Rattle.desk_store.proofs.Common.{Ghosts, HoldsLedger, Ledger, IfRowsBroken, HasNoNumber, BreaksRule, broken_offer_column, is_number, seen_in, Calls}
use Rattle.desk_store.proofs.Common.{State, Actions, inr, number_in}
use Rattle.desk_store.proofs.Common.{COUNT_TARGETS, GET_DESK, NEXT_OFFER, Targets, get_desk_is, count_targets_is, counted_at, Place, Query, shown_offer, Broken}
use Rattle.desk_store.proofs.Common.{nat_tests, Offer, Bytes, ActionRecord, next_offer, gets_desk, told_desk, rows_of, gets_next_offer, is_number_in}
use Rattle.desk_store.proofs.Common.{FindsLedger, FailsIn, IsBroken, Asks, BreaksColumn}
use Rattle.rollout_machine.specs.declared.records.RolloutRecord.{RolloutRecord}
use Rattle.rollout_model.specs.Limits.{limits}
use Rattle.desk_records.specs.NextOffers.{next_offer_from}
use Rattle.desk_records.proofs.NumberColumns.{is_in_range, small_is}
use Rattle.desk_store.specs.Breaking.{TellsOnly}
use Rattle.desk_store.specs.Failing.{FailsSeeing, AreActionsNumbered, nothing}
use Rattle.desk_store.specs.Readable.{KeepsColumns}
use Rattle.desk_store.specs.private.Rows.{HasNoApproval}
use Rattle.desk_store.proofs.Known.{in_ledgers, known, tables_know}
use Rattle.desk_store.proofs.NextOfferCalls.{next}
use Rattle.desk_store.proofs.RawCalls.{count_shown}
use Rattle.desk_store.specs.BrokenRows.{HasNoKey}

-- a value that is no number of 32 bits
no_size : (v : Value) → ((n : ℕ) → n < 2 ^ 32 → v ≡ Int (pos n) → ⊥) → has_size v ≡ false
no_size v unread = grind (arith, is_some, small_is, nat_tests)

pub no_key : (row : Row) → HasNoNumber (Some (column row 0 ∷ [])) → HasNoKey row
no_key row unread = no_size (column row 0) (unread (omega arith))

-- a row that tells no number of an action
pub no_action : (row : Row) → number_in (column row 0) ≡ None → BreaksColumn Actions row
no_action row unread = inr (inr (grind (arith, is_some)))

-- as the first row of its text
module _ {p : Place} {sql : List ℕ} {query : ℕ → Query} {names : List (List ℕ)} (text : Asks p sql query names) {params : Row}
    (rule : (row : Row) → HasNoNumber (Some (shown_of (query 0).project params row)) → BreaksColumn p row) where
  pub last_tells_only : {old new : State} {row : Option Row} → TakesFirst old new sql params (Ok row) → (out : Result ℕ Fault)
      → IfErr out (λ fault. IfRowsBroken fault (HasNoNumber row)) → TellsOnly HoldsLedger (KeepsColumns p) nothing old new out
  last_tells_only {row = row} h out broken = first_tells_only text (λ r. HasNoNumber (Some r)) rule h out
      (broken_so {Spoiled = HasNoNumber row} {Why = IsBroken (λ r. HasNoNumber (Some r)) row} (λ is. grind arith) out broken)

  pub last_fails : {S : Type 0} {g : Ghosts S} {old new : Calls S} {row : Option Row} → TakesFirst (seen_in g old) (seen_in g new) sql params (Ok row)
      → (out : Result ℕ Fault) → IfErr out (λ fault. IfRowsBroken fault (HasNoNumber row)) → FailsIn g old new out
  last_fails h out broken = record { to = tells_as (λ l readable. readable.keep p) out (last_tells_only h out broken) }

-- as the row of a count of targets
never_many : (size : ℕ) (row : Option Row) → row ≡ Some (Int (pos (min size 9223372036854775807)) ∷ []) → size < 2 ^ 32 → (row ≡ None) ⊎ HasNoNumber row → ⊥
never_many size row is few why = grind (arith, min)

-- as the row of the desk
never_untold : (b : Bool) (row : Option Row) → row ≡ Some (told_desk b) → HasNoApproval row → ⊥
never_untold b row is why = grind (arith, column)

-- as the row of an offer of an action whose number is within the limit
abbrev action_in : Option Offer → ℕ
action_in None = 0
action_in (Some o) = o.action

next_from : (rollouts : List RolloutRecord) (id : Bytes) (k n : ℕ) (as' : List ActionRecord) (o : Offer) → next_offer_from rollouts id k n as' ≡ Some o
    → (n ≤ o.action) × (o.action < n + length as')
next_from rollouts id k n [] o is = absurd cc
next_from rollouts id k n (a ∷ more) o is = grind (arith, next_from rollouts id k (suc n) more o)

next_in_range : (rollouts : List RolloutRecord) (id : Bytes) (k : ℕ) (as' : List ActionRecord) → length as' ≤ limits.number → (o : Offer)
    → next_offer_from rollouts id k 1 as' ≡ Some o → is_number o.action ≡ true
next_in_range rollouts id k as' few o is = let its = next_from rollouts id k 1 as' o is in is_in_range o.action its.0 (omega (arith, its.1, few))

never_next : (wanted : Option Offer) (row : Option Row) → row ≡ option_map shown_offer wanted → ((o : Offer) → wanted ≡ Some o → is_number o.action ≡ true)
    → IsBroken (λ r. BreaksRule (broken_offer_column r)) row → ⊥
never_next wanted row is good broken = grind (arith, is_number_in, is_some)

module _ {S : Type 0} {g : Ghosts S} {old new : Calls S} {row : Option Row} where
  pub count_fails : TakesFirst (seen_in g old) (seen_in g new) COUNT_TARGETS.now [] (Ok row) → (out : Result ℕ Fault)
      → IfErr out (λ fault. IfRowsBroken fault ((row ≡ None) ⊎ HasNoNumber row)) → FailsIn g old new out
  count_fails h = never_by (first_finds HoldsLedger (λ (l : Ledger). l) COUNT_TARGETS.now [] (seen_in g old) (seen_in g new) _
      (in_ledgers (tables_know (counted_at count_targets_is))) (λ db l holds at given. tt) row h (Ok (tt {0}))
      (λ db l holds shown readable. never_many (length (db.trees (holds.spot Targets).tree)) row
      (count_shown count_targets_is db (rows_of db l holds) (tables_of db l holds) row shown)
      (readable.few (db.trees (holds.spot Targets).tree) (holds.rows Targets))))

  pub approval_fails : TakesFirst (seen_in g old) (seen_in g new) GET_DESK.now [] (Ok row) → (out : Result Bool Fault)
      → IfErr out (λ fault. (fault ≡ Broken) × HasNoApproval row) → FailsIn g old new out
  approval_fails h out broken = never_by (first_finds HoldsLedger (λ (l : Ledger). l) GET_DESK.now [] (seen_in g old) (seen_in g new) _
      (in_ledgers (known get_desk_is)) (λ db l holds at given. tt) row h (Ok (tt {0}))
      (λ db l holds shown readable. never_untold l.records.approval row (gets_desk db l holds [] row shown))) out (told_alone _ out broken)

  -- the next offer
  pub next_fails : (id : Bytes) (k : ℕ) → TakesFirst (seen_in g old) (seen_in g new) NEXT_OFFER.now (Text id ∷ Int (pos k) ∷ []) (Ok row)
      → (out : Result (Option Offer) Fault)
      → IfErr out (λ fault. IfRowsBroken fault (IsBroken (λ r. BreaksRule (broken_offer_column r)) row))
      → FailsSeeing g AreActionsNumbered old new out
  next_fails id k h out broken =
      let found : FindsLedger g {E = Fault} old new (Ok (tt {0})) (λ l u. AreActionsNumbered l → IsBroken (λ r. BreaksRule (broken_offer_column r)) row → ⊥) =
      first_finds HoldsLedger (λ (l : Ledger). l) NEXT_OFFER.now (Text id ∷ Int (pos k) ∷ []) (seen_in g old) (seen_in g new) _ (in_ledgers next)
      (λ db l holds at given. tt) row h (Ok (tt {0})) (λ db l holds shown numbers. never_next (next_offer l.records id k) row
      (gets_next_offer db l holds [] id k numbers.tallied row shown) (λ o is. next_in_range l.records.rollouts id k l.records.actions numbers.few o is)) in
      breaks_first_by found out (broken_so (λ is l never numbers. never numbers is) out broken)
