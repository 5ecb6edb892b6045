-- From the calls of the store to a look at the records.
use Rattle.rollout_desk.proofs.Common.{◌≡◌, ◌⊎◌, inl, inr, Bool, false, None, Ok, Err, Result, sym, ap, subst, ◌∙◌, arith, Trees, State}
use Rattle.rollout_desk.proofs.Common.{HasCleanDisk, Begins}
use Rattle.rollout_desk.proofs.Common.{Doubts, HoldIn, Opens, Rests, Spoiled, Wears, rest_shows, Fault, Broken, HoldsLedger}
use Rattle.rollout_desk.proofs.Common.{HoldsRecords, Ledger, ledger_of, CommandList, Records, records, Refused, Becomes, DeskState, IsInDoubt, StandsFor}
use Rattle.rollout_desk.proofs.Common.{is_store, Refusal, NoMemory, StoreFailed, Looks, EndsLook, refusal_of_fault}
use Rattle.rollout_desk.proofs.Common.{refl, Answer, AppliesAt, Asks, Ask, Query, query_answer}
use Rattle.rollout_desk.proofs.Common.{◌≤◌, Ghosts, IsValid, Calls, Sees, HoldsTables, state}
use Rattle.sql_calls.specs.Calls.{Grows, failures_of}
use Rattle.desk_reads.specs.Counted.{AreCounted}
use Rattle.desk_store.specs.Blaming.{HasFailed}
use Rattle.desk_store.specs.Breaking.{BreaksOnly}
use Rattle.desk_store.specs.Changing.{seen_in}
use Rattle.desk_store.specs.Failing.{nothing}
use Rattle.rollout_desk.specs.Causes.{FailsByCalls}
use Rattle.rollout_desk.specs.Desks.{Known, desk_state_knowing}
use Rattle.rollout_desk.specs.Looks.{FoundIn, Looked, LookedTo}
use Rattle.rollout_desk.proofs.ApplyLemmas.{readable, rests_ledger, rests_records, stands, stood}
use Rattle.rollout_desk.proofs.KnowingLemmas.{knowing}
use Rattle.rollout_desk.proofs.VerifyLemmas.{failed_within}

-- ---- what was found in a change

module _ {S : Type 0} (g : Ghosts S) {A : Type 0} (Finds : Calls S → Calls S → Result A Fault → Type 0) where
  module _ (old : Calls S) (begun read : Calls S) (end : Calls S) (begins : Begins HoldsLedger (state g old.conn) (seen_in g begun))
      (tables : Begins HoldsTables (state g old.conn) (seen_in g begun)) (worn : Wears (seen_in g begun) (seen_in g read))
      (grew : old.failures ≤ begun.failures) where
    abbrev Comes : Result A Refusal → Type 0
    Comes result = LookedTo g Finds old end result

    abbrev HasMore : Type 0
    HasMore = HasFailed read.failures end.failures

    -- what stood stands, or a crash leaves it
    abbrev Rested : Type 0
    Rested = (l : Ledger) → Rests HoldsLedger (state g old.conn) l → Rests HoldsLedger (state g end.conn) l

    abbrev Doubted : Type 0
    Doubted = (l : Ledger) → Rests HoldsLedger (state g old.conn) l → Doubts HoldsLedger (state g end.conn) l l

    rested : Rested → Doubted
    rested rests l was clean = record { crash = λ db left. inl ((rests l was clean).held.crash db left) }

    found_in : (found : Result A Fault) → Finds begun read found → Wears (seen_in g read) (state g end.conn) → FoundIn g Finds old end found
    found_in found finds wears = record { begun = begun; read = read; begins = begins; tables = tables; finds = finds; wears = wears }

    pub found_well : (a : A) (result : Result A Refusal)
        → ((kept : Ledger) → Opens HoldsLedger (seen_in g begun) kept → Opens HoldsLedger (seen_in g read) kept)
        → Finds begun read (Ok a) → begun.failures ≤ read.failures
        → EndsLook (seen_in g read) (state g end.conn) (Ok a) result → (result ≡ Ok a) ⊎ HasMore → Comes result
    found_well a result goes finds rose ends fails = grind (arith, found_in, failed_within)

    pub found_in_vain : (fault : Fault) (refusal : Refusal) (result : Result A Refusal) → refusal ≡ refusal_of_fault fault
        → ((kept : Ledger) → Opens HoldsLedger (seen_in g begun) kept → Spoiled HoldsLedger (seen_in g read) kept) → Finds begun read (Err fault)
        → Grows (failures_of fault) begun read → read.failures ≤ end.failures
        → EndsLook (seen_in g read) (state g end.conn) (Err refusal) result → (result ≡ Err refusal) ⊎ HasMore → Comes result
    found_in_vain fault refusal result named leaves finds grows ended ends fails = grind (arith, failed_within, found_in, rested)

  -- ---- what a look says

  module _ {old new : Calls S} where
    pub looks_at : (Answer : Records → A → Type 0) → ((b c : Calls S) (x : A) → Finds b c (Ok x) → (r : Records)
        → Sees HoldsLedger (seen_in g b) (ledger_of r) → HasCleanDisk (seen_in g c) → Answer r x) → (result : Result A Refusal)
        → Looked g Finds old new result → Looks HoldsRecords (state g old.conn) (state g new.conn) result Answer
    looks_at Answer reads (Ok x) it = record {
      wears = it.wears;
      looks = λ r was.
          let at = it.to.0 in
          let rests = rests_ledger (state g old.conn) r was in (
            rests_records (state g new.conn) r (it.to.1 _ rests),
            λ clean. reads at.begun at.read x at.finds r (at.begins.sees _ (rest_shows HoldsLedger _ _ rests)) (omega (arith, clean, at.wears)),
          );
    }
    looks_at Answer reads (Err refusal) it = record {
      wears = it.wears;
      looks = elim it.to [
        | inl none ↦ inl (none.0, λ r was. rests_records (state g new.conn) r (none.1 _ (rests_ledger (state g old.conn) r was)))
        | inr lost ↦ inr (lost.0, λ r was clean. record { crash = (lost.1 _ (rests_ledger (state g old.conn) r was) clean).crash })
      ];
    }

    -- a failed store is a call that failed, where no rows of a list are broken
    pub fails_at : (Given : Ledger → Type 0) → ((b c : Calls S) → Finds b c (Err Broken) → BreaksOnly g HoldsLedger Given nothing {A = A} b c (Err Broken))
        → ((h : CommandList) → IsValid h → AreCounted (records h) → Given (ledger_of (records h))) → (result : Result A Refusal)
        → Looked g Finds old new result → result ≡ Err StoreFailed → FailsByCalls g old new
    fails_at h0 breaks given result it is h clean counted stands = grind (arith, rest_shows, stood)

-- ---- a look that is refused

module _ {A : Type 0} (known : Known) (was : Bool) (a b : State) (Answer : Records → A → Type 0) where
  -- whatever a look finds, a crash leaves what stood
  left_by : (found : Result A Refusal) → Looks HoldsRecords a b found Answer → (h : CommandList) → HasCleanDisk b
      → StandsFor (desk_state_knowing HoldsRecords known was a) h → (db : Trees) → b.may_leave db → HoldIn HoldsRecords db (records h)
  left_by found look h clean standing db left = grind arith

  -- memory was wanted, or the store failed, and the desk is stopped
  pub interrupted : (found : Result A Refusal) → Looks HoldsRecords a b found Answer → (refusal : Refusal) {Other : Type 0} → (found ≡ Err refusal)
      ⊎ ((refusal ≡ StoreFailed) × Other) → (stopped : Bool) → stopped ≡ is_store refusal → (h : CommandList) → HasCleanDisk b
      → StandsFor (desk_state_knowing HoldsRecords known was a) h → ((refusal ≡ NoMemory) × StandsFor (desk_state_knowing HoldsRecords known stopped b) h)
      ⊎ ((refusal ≡ StoreFailed) × IsInDoubt (desk_state_knowing HoldsRecords known stopped b) h None)
  interrupted found look refusal why stopped is h clean standing = elim why [
    | inl same ↦ elim (subst (λ x. Looks HoldsRecords a b x Answer) same look).looks [
      | inl it ↦ inl (
        it.0,
        subst (λ x. StandsFor (desk_state_knowing HoldsRecords known x b) h) (sym (is ∙ ap is_store it.0))
            (knowing HoldsRecords known false b h (stands b h standing.valid (it.1 (records h) (λ _. standing.shows.0) clean)) standing.shows.1),
      )
      | inr it ↦ inr (in_doubt it.0)
    ]
    | inr other ↦ inr (in_doubt other.0)
  ]
    where
      in_doubt : refusal ≡ StoreFailed → (refusal ≡ StoreFailed) × IsInDoubt (desk_state_knowing HoldsRecords known stopped b) h None
      in_doubt fails = (
        fails,
        record {
          stopped = is ∙ ap is_store fails;
          crash = λ db left. inl (standing.valid, readable db (records h) (left_by found look h clean standing db left));
        },
      )

pub becomes_refused : (s : DeskState Trees) (h : CommandList) (refusal : Refusal) → ((refusal ≡ NoMemory) × StandsFor s h)
    ⊎ ((refusal ≡ StoreFailed) × IsInDoubt s h None) → Becomes s h (Refused refusal) None
becomes_refused s h refusal h3 = grind arith

-- the same, of a query
pub query_refused : (s : DeskState Trees) (h : CommandList) (query : Query) (refusal : Refusal) → ((refusal ≡ NoMemory) × StandsFor s h)
    ⊎ ((refusal ≡ StoreFailed) × IsInDoubt s h None) → AppliesAt h s (Asks (Ask query)) (Refused refusal)
query_refused s h query refusal why = record {
  accepted = None;
  answers = elim why [
    | inl none ↦ inl (ap Refused none.0, refl)
    | inr lost ↦ inr (inl (ap Refused lost.0, sym (ap (λ (x : Answer). x.accepted) (query_answer h query))))
  ];
  becomes = becomes_refused s h refusal why;
}
