-- The calls on rollouts and groups.
use Rattle.desk_store.proofs.ReadLemmas.{all_at, all_tell, first_tells, many_asks, one_read, reads_last, reads_one}
use Rattle.desk_store.proofs.Common.{◌≡◌, ◌<◌, ◌≤◌, ℕ, Bool, pos, take, List, slice_get, arith, [], ◌∷◌, length, map, Option, Some, Ok, Result, IfOk}
use Rattle.desk_store.proofs.Common.{option_map, refl, ap, ◌∙◌, Global, Vec, Int, Row, column, State, slice_get-map, Fault, AsksText, TakesFirst, Finds}
use Rattle.desk_store.proofs.Common.{item_numbered, GroupRecord, GET_DESK, LAST_ROLLOUT, GET_ROLLOUT, GROUP_AND_NEXT, StoredRollout, HoldsLedger, Ledger}
use Rattle.desk_store.proofs.Common.{IsLastRow, IsStoredRolloutRow, IsGroupRow, stored_rollout, groups_of, that_reach, last_rollout_is, get_rollout_is}
use Rattle.desk_store.proofs.Common.{group_and_next_is, lasts_rollout, gets_rollout, shown_group, gets_group_and_next, group_and_next, GroupAndNext, IsApproval}
use Rattle.desk_store.proofs.Common.{IsReadAs, gets_desk, told_desk, get_desk_is, AsksFew, Broken, FailsIn, Ghosts, None, Calls, length-map, seen_in}
use Rattle.std.specs.Prelude.{Err}
use Rattle.std.proofs.lemmas.List.{length-take}
use Rattle.sqlite.proofs.MarkLemmas.{slice_get-take}
use Rattle.desk_records.proofs.KeptColumns.{kept_flag}
use Rattle.desk_records.proofs.RowsTold.{one_group, one_stored_rollout}
use Rattle.desk_records.proofs.WrittenRows.{shown_stored_rollout}
use Rattle.desk_store.proofs.FailLemmas.{never_by}
use Rattle.desk_store.proofs.Known.{in_ledgers, known}
use Rattle.desk_store.proofs.LedgerReads.{both_mapped}

-- ---- the desk

one_approval : (a b : Bool) (row : Option Row) → IsApproval a row → row ≡ Some (told_desk b) → a ≡ b
one_approval a b row h is = grind (arith, kept_flag, column)

pub approval_read : {old new : State} {row : Option Row} → TakesFirst old new GET_DESK.now [] (Ok row) → (out : Result Bool Fault)
    → IfOk out (λ a. IsApproval a row) → Finds HoldsLedger (λ (l : Ledger). l) old new out (λ l a. a ≡ l.records.approval)
approval_read {row = row} = first_tells (in_ledgers (known get_desk_is)) (λ db l holds at given. tt)
    (λ db l holds shown a is. one_approval a l.records.approval row is (gets_desk db l holds [] row shown))

-- ---- rollouts

pub last_read : (old new : State) (row : Option Row) → TakesFirst old new LAST_ROLLOUT.now [] (Ok row) → (out : Result ℕ Fault)
    → IfOk out (λ n. IsLastRow n row) → Finds HoldsLedger (λ (l : Ledger). l) old new out (λ l last. last ≡ length l.records.rollouts)
last_read old new row = reads_last last_rollout_is (λ db l holds. lasts_rollout db l holds [])

pub rollout_read : (number : ℕ) → 1 ≤ number → (old new : State) (row : Option Row) → TakesFirst old new GET_ROLLOUT.now (Int (pos number) ∷ []) (Ok row)
    → (out : Result (Option StoredRollout) Fault) → IfOk out (λ found. IsReadAs IsStoredRolloutRow found row)
    → Finds HoldsLedger (λ (l : Ledger). l) old new out (λ l found. found ≡ option_map stored_rollout (item_numbered l.records.rollouts number))
rollout_read number least old new row h out read = reads_one get_rollout_is _
    (λ db l holds row shown. gets_rollout db l holds [] number least row shown ∙ both_mapped shown_stored_rollout stored_rollout _) h out read
    one_stored_rollout

-- ---- groups

-- the rows are those of the first two groups that reach the place
pub group_and_next_read : (number place : ℕ) → 1 ≤ number → {old new : State} {rows : Vec Row Global}
    → AsksText old new GROUP_AND_NEXT.now (Int (pos number) ∷ Int (pos place) ∷ []) (Ok rows) → (out : Result GroupAndNext Fault)
    → IfOk out (λ both. IsReadAs IsGroupRow both.group (slice_get rows.items 0) × IsReadAs IsGroupRow both.next (slice_get rows.items 1))
    → Finds HoldsLedger (λ (l : Ledger). l) old new out (λ l found. found ≡ group_and_next place (groups_of (item_numbered l.records.rollouts number)))
group_and_next_read number place least {rows = rows} = all_tell (in_ledgers (known group_and_next_is)) (λ db l holds shown both are.
    let all = gets_group_and_next db l holds [] number place least rows.items shown in
    let its = that_reach place (groups_of (item_numbered l.records.rollouts number)) in
    λ i. record { group = at its 0 both.group (omega arith) all are.0 i; next = at its 1 both.next (omega arith) all are.1 i })
  where
    at : (its : List GroupRecord) (i : ℕ) (found : Option GroupRecord) → i < 2 → rows.items ≡ map shown_group (take 2 its)
        → IsReadAs IsGroupRow found (slice_get rows.items i) → found ≡ slice_get its i
    at its i found within shown is =
        one_read IsGroupRow shown_group ◌≡◌ refl (λ a b same. ap Some (one_group a b same)) found (slice_get (take 2 its) i) (slice_get rows.items i) is
        (ap (λ all. slice_get all i) shown ∙ slice_get-map shown_group (take 2 its) i)
        ∙ slice_get-take 2 its i within

-- .. so there are no more than two
pub never_three_groups : (number place : ℕ) → 1 ≤ number → {given : Row} → given ≡ Int (pos number) ∷ Int (pos place) ∷ [] → {S B : Type 0} {g : Ghosts S}
    {old new : Calls S} → AsksFew (seen_in g old) (seen_in g new) GROUP_AND_NEXT.now given 2 (Ok None) → FailsIn g {A = B} old new (Err Broken)
never_three_groups number place least same h =
    let many = many_asks h in
    never_by {Spoiled = Unit {0}} (all_tell (in_ledgers (known group_and_next_is)) {Read = λ u. Unit {0}}
    (λ db l holds shown u is readable spoiled.
    let all = gets_group_and_next db l holds [] number place least many.0.items shown in
    let its = that_reach place (groups_of (item_numbered l.records.rollouts number)) in
    omega (arith, many.2, ap length all, length-map (take 2 its) shown_group, length-take 2 its)) (all_at many.1 same) (Ok (tt {0})) tt) (Err Broken) tt
