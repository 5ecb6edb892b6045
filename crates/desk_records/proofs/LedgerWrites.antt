-- The statements on rollouts, actions and offers that write, in ledgers.
use Rattle.desk_records.proofs.Common.{◌≡◌, ◌≢◌, ◌∷◌, ◌++◌, ℕ, zero, suc, ◌+◌, pos, List, [], Bool, set, slice_get, Option, Some, None, refl, sym, ap}
use Rattle.desk_records.proofs.Common.{Approval, subst, ◌∙◌, arith, zip, Int, Text, Row, Term, col, Insert, Values, Database, State, Writes, Table, cast_all}
use Rattle.desk_records.proofs.Common.{rowid, rows_from, cast_int, cast_null, sets_at, simple, shown_of, updates, Updated, RolloutPlan, Outcome}
use Rattle.desk_records.proofs.Common.{ActionRecord, RolloutRecord, GroupRule, Tally, action_row, entries_of, entry_row, outcome_code, number_rows, HoldsLedger}
use Rattle.desk_records.proofs.Common.{Ledger, Unordered, AddsRollout, SetsRollout, SetsAction, action_turned, bare_rollout}
use Rattle.desk_records.proofs.Common.{turned, with_actions, with_numbers, with_rollouts, with_rules, listed_parts, parts_from, approval_code, flag}
use Rattle.desk_records.proofs.Common.{groups_from, members_from, rollout_row, rules_from, Place, Rollouts, Members, Groups, Actions, Feedbacks, Rules, Numbers}
use Rattle.desk_records.proofs.Common.{action_table, rollout_table, PlacedNumber}
use Rattle.std.proofs.lemmas.Option.{slice_get_within}
use Rattle.desk_records.proofs.ActionMeaning.{action_values}
use Rattle.desk_records.proofs.HoldsAfter.{ChangesOnly, contents_differ, ledger_after, puts_next}
use Rattle.desk_records.proofs.LedgerLists.{actions_stay, actors_of_more, actors_stay, first_of, parts_stay, zip_set}
use Rattle.desk_records.proofs.MeaningWords.{at_key, changes}
use Rattle.desk_records.proofs.NumberedReads.{passes_number}
use Rattle.desk_records.proofs.Parts.{no_parts}
use Rattle.desk_records.proofs.RolloutMeaning.{rollout_terms, rollout_values}

-- ---- what stays

-- other rollouts, where the rows of all tables but one don't tell of it
pub rollouts_differ : (l : Ledger) (ys : List RolloutRecord) (k : Place)
    → (Rollouts ≢ k → rows_from rollout_row 1 ys ≡ rows_from rollout_row 1 l.records.rollouts)
    → (Members ≢ k → members_from 1 ys ≡ members_from 1 l.records.rollouts)
    → (Groups ≢ k → groups_from 1 ys ≡ groups_from 1 l.records.rollouts) → rows_from (action_row ys) 1 (zip l.records.actions l.tallies)
    ≡ rows_from (action_row l.records.rollouts) 1 (zip l.records.actions l.tallies)
    → ChangesOnly k l (with_rollouts l ys)
rollouts_differ l ys k rollouts members groups actors = grind (arith, contents_differ)

-- what is said of groups, and the numbers of actions
pub rules_differ : (l : Ledger) (rules : List (List GroupRule)) (k : Place) → (Rules ≢ k → rules_from rules ≡ rules_from l.rules)
    → ChangesOnly k l (with_rules l rules)
rules_differ l rules k same = contents_differ k l (with_rules l rules) (Rules ∷ []) refl ((λ apart. ap Unordered (same apart)), tt)

pub numbers_differ : (l : Ledger) (numbers : List (List PlacedNumber)) (k : Place) → (Numbers ≢ k → number_rows numbers ≡ number_rows l.numbers)
    → ChangesOnly k l (with_numbers l numbers)
numbers_differ l numbers k same = contents_differ k l (with_numbers l numbers) (Numbers ∷ []) refl ((λ apart. ap Unordered (same apart)), tt)

-- a record is kept as no part yet
none_listed : {Y : Type 0} (f : ℕ → ℕ → Y → Row) (all : List (List Y)) → listed_parts f (all ++ [] ∷ []) ≡ listed_parts f all
none_listed f all = no_parts f (λ its. its) [] refl 1 all

abbrev pub histories_from : ℕ → List ActionRecord → List Row
histories_from n as' = parts_from entry_row entries_of n as'

-- other actions
pub actions_differ : (l : Ledger) (as' : List ActionRecord) (ts : List Tally) (k : Place)
    → (Actions ≢ k → rows_from (action_row l.records.rollouts) 1 (zip as' ts) ≡ rows_from (action_row l.records.rollouts) 1 (zip l.records.actions l.tallies))
    → (Feedbacks ≢ k → histories_from 1 as' ≡ histories_from 1 l.records.actions) → ChangesOnly k l (with_actions l as' ts)
actions_differ l as' ts k actions histories = grind (arith, contents_differ)

-- ---- UPDATE .. WHERE number = ?1, of a row that is there

module _ {X : Type 0} (f : ℕ → X → Row) (ids : (n : ℕ) (x : X) → rowid (f n x) ≡ Int (pos n)) where
  numbered_set : (k : ℕ) (table : Table) (values : List Term) (more : Row) (old new : Database) (xs : List X) (x y : X) → slice_get xs k ≡ Some x
      → ((n : ℕ) → Int (pos n) ∷ cast_all table.columns (shown_of values (Int (pos (suc k)) ∷ more) (f n x)) ≡ f n y) → old.trees table.tree ≡ rows_from f 1 xs
      → Updated old.schema table (record { lets = []; body = simple table.tree (at_key 0 0 ∷ []) (col 1 0 ∷ col 1 0 ∷ values) }) (Int (pos (suc k)) ∷ more) old
      new → new.trees table.tree ≡ rows_from f 1 (set xs k y)
  numbered_set k table values more old new xs x y there becomes was made =
      sets_at f ids old.schema table (at_key 0 0 ∷ []) values (Int (pos (suc k)) ∷ more) old new k xs x y there (slice_get_within xs k x there)
      (λ m z. grind (arith, passes_number f ids (suc k) m z)) (becomes (1 + k)) was made

-- ---- a new rollout

abbrev pub created_params : ℕ → RolloutPlan → Approval → Row
created_params number plan approval = Int (pos number) ∷ Text plan.name ∷ Int (pos plan.set_number) ∷ Text plan.filter_text ∷ Int (pos plan.groups.count)
    ∷ Int (pos plan.success) ∷ Int (pos plan.error) ∷ Int (pos (approval_code approval)) ∷ []

pub adds_rollout : (number : ℕ) (plan : RolloutPlan) (approval : Approval) (old new : State) (text : List ℕ) (count : ℕ) (l next : Ledger)
    (holds : HoldsLedger old.now l) → AddsRollout number plan approval l next
    → (w : Writes old new None (Insert (holds.spot Rollouts).at (Values rollout_terms 11)) text (created_params number plan approval) count)
    → HoldsLedger new.now next
adds_rollout number plan approval old new text count l next holds change w =
    let xs = l.records.rollouts in
    let x = bare_rollout number plan approval in
    let after = with_rollouts l (xs ++ x ∷ []) in
    subst (HoldsLedger new.now) (sym change.next_is)
    (puts_next Rollouts l (with_rules after (l.rules ++ [] ∷ [])) (grind (arith, contents_differ, none_listed, no_parts, actions_stay, actors_of_more))
    holds.sorted rollout_row (λ n x. refl) xs x number change.number_is rollout_terms 11 holds w (λ tree. refl)
    (λ db tree. grind (arith, cast_null, cast_int)) refl refl)

-- ---- a rollout's approval, started and paused

abbrev pub turned_params : ℕ → Approval → Bool → Bool → Row
turned_params number approval started paused = Int (pos number) ∷ Int (pos (approval_code approval)) ∷ Int (pos (flag started)) ∷ Int (pos (flag paused)) ∷ []

pub sets_rollout : (number : ℕ) (approval : Approval) (started paused : Bool) (old new : State) (text : List ℕ) (count : ℕ) (l next : Ledger)
    (holds : HoldsLedger old.now l) → SetsRollout number approval started paused l next
    → (w : Writes old new None (changes (holds.spot Rollouts) (at_key 0 0 ∷ []) rollout_values) text
    (turned_params number approval started paused) count) → HoldsLedger new.now next
sets_rollout zero approval started paused old new text count l next holds change w = absurd (let none = change.is_there in cc)
sets_rollout (suc k) approval started paused old new text count l next holds change w =
    let spot = holds.spot Rollouts in
    let stands = holds.stands Rollouts in
    let xs = l.records.rollouts in
    let x = change.rollout in
    let y = turned approval started paused x in
    let made = updates old.now.schema spot.at (rollout_table spot.tree) _ stands.got stands.keyless old
    new refl text (turned_params (suc k) approval started paused) count w in
    let table : new.now.trees spot.tree ≡ rows_from rollout_row 1 (set xs k y) =
    numbered_set rollout_row (λ n x. refl) k (rollout_table spot.tree) rollout_values _ old.now new.now xs x y change.is_there
    (λ n. grind (arith, cast_null, cast_int)) (holds.rows Rollouts) made in
    subst (HoldsLedger new.now) (sym change.next_is)
    (ledger_after Rollouts l (with_rollouts l (set xs k y)) old.now new.now holds
    (record { schema = made.schema_is; sound = w.sound; others = made.applies.tables }) table
    (grind (arith, rollouts_differ, parts_stay, actions_stay, actors_stay, change.is_there)) holds.sorted)

-- ---- an action's cancel, outcome and numbers

abbrev pub acted_params : ℕ → Bool → Option Outcome → Tally → Row
acted_params number canceling outcome tally = Int (pos number) ∷ Int (pos (flag canceling)) ∷ Int (pos (outcome_code outcome)) ∷ Int (pos tally.notes)
    ∷ Int (pos tally.entries) ∷ []

pub sets_action : (number : ℕ) (canceling : Bool) (outcome : Option Outcome) (tally : Tally) (old new : State) (text : List ℕ) (count : ℕ) (l next : Ledger)
    (holds : HoldsLedger old.now l) → SetsAction number canceling outcome tally l next
    → (w : Writes old new None (changes (holds.spot Actions) (at_key 0 0 ∷ []) action_values) text
    (acted_params number canceling outcome tally) count) → HoldsLedger new.now next
sets_action zero canceling outcome tally old new text count l next holds change w = absurd (let none = change.is_there in cc)
sets_action (suc k) canceling outcome tally old new text count l next holds change w =
    let spot = holds.spot Actions in
    let stands = holds.stands Actions in
    let row = action_row l.records.rollouts in
    let as' = l.records.actions in
    let it = change.action in
    let a = action_turned canceling outcome it.0 in
    let made = updates old.now.schema spot.at (action_table spot.tree) _ stands.got stands.keyless old
    new refl text (acted_params (suc k) canceling outcome tally) count w in
    let table : new.now.trees spot.tree ≡ rows_from row 1 (zip (set as' k a) (set l.tallies k tally)) =
    numbered_set row (λ n x. refl) k (action_table spot.tree) action_values _ old.now new.now (zip as' l.tallies) it (a, tally) change.is_there
    (λ n. grind (arith, cast_null, cast_int)) (holds.rows Actions) made ∙ ap (rows_from row 1) (sym (zip_set as' l.tallies k a tally)) in
    subst (HoldsLedger new.now) (sym change.next_is) (ledger_after Actions l (with_actions l (set as' k a) (set l.tallies k tally)) old.now new.now holds
    (record { schema = made.schema_is; sound = w.sound; others = made.applies.tables }) table
    (grind (arith, actions_differ, parts_stay, first_of as' l.tallies k it change.is_there)) holds.sorted)
