-- What the reads of the tables of offers, actions and groups come to.
use Rattle.desk_verify.proofs.Common.{◌≡◌, ℕ, Bool, true, false, List, is_none, is_some, length, Option, Some, None, refl, ◌∙◌, pos, AllByRecursion, and_from}
use Rattle.desk_verify.proofs.Common.{and_parts, Row, column, has_rowid, Has, all_from, all_has, some_from, some_has, Bytes, Outcome, GroupRecord, same_refl}
use Rattle.desk_verify.proofs.Common.{FindsOne, has_at, has_text_at, Actions, Groups, Offers, Tables, OwnedOffer, ListedAction, StoredAction, number_in_is}
use Rattle.desk_verify.proofs.Common.{number_in_least, ListsRows, SaysAction, SaysGroup, SaysNumbered, SaysOffer, SaysOfferOf, any_row, SettlesWhether, Fits}
use Rattle.desk_verify.proofs.Common.{IsRight, IsRowOffered, IsOfferedIfDue, holds_started, is_due, AgreesOffers, IsDue, IsInStartedGroup, IsOffered}
use Rattle.desk_verify.proofs.Common.{IsRightOffer, JudgesAll, IsThere, columns_of_stored_action, JudgesOne}
use Rattle.std.proofs.lemmas.Bool.Decides.{nat_tests}
use Rattle.std.proofs.Common.{arith}
use Rattle.std.proofs.lemmas.List.Sorted.{IsPermutation-sym, length_permutation}
use Rattle.std.specs.List.Sorted.{IsPermutation}
use Rattle.desk_records.proofs.Membership.{has_permuted}
use Rattle.desk_records.proofs.KeptColumns.{one_in, one_text}
use Rattle.desk_records.specs.Listings.{AreSaid}
use Rattle.desk_verify.specs.OfferChecks.{is_that_rollout}
use Rattle.desk_verify.proofs.Counting.{is_within}
use Rattle.desk_verify.proofs.GroupLemmas.{one_group}
use Rattle.desk_records.proofs.RowsTold.{same_stored_action}
use Rattle.std.specs.Bool.{then_some}
use Rattle.desk_verify.proofs.ActionLemmas.{of_rollout, own_rollout, same_action}
use Rattle.desk_verify.proofs.RolloutLemmas.{settled}

-- ---- what is decided

so_if : {P : Type 0} (b : Bool) → SettlesWhether P b → b ≡ true → P
so_if b so is = grind arith

if_so : {P : Type 0} (b : Bool) → SettlesWhether P b → P → b ≡ true
if_so b so it = grind arith

pub none_ended : (ended : Option Outcome) → is_none ended ≡ true → ended ≡ None
none_ended ended is = grind arith

-- ---- groups

-- it is the rollout whose groups are kept
pub kept_is : (kept : Option ℕ) (r : ℕ) → is_that_rollout kept r ≡ true → kept ≡ Some r
kept_is kept r same = grind (arith, nat_tests)

pub started_tells : (t : Tables) {r : ℕ} {groups : List GroupRecord} (place : ℕ) → ListsRows (t Groups) (has_at 1 r) (SaysGroup r) (Some groups)
    → SettlesWhether (IsInStartedGroup t r place) (holds_started groups place)
started_tells t place listed = grind (arith, settled, some_has, and_parts, number_in_is, some_from, one_group, and_from)

-- ---- one offer

module _ (t : Tables) {owned : OwnedOffer} {action : StoredAction}
    (one : FindsOne (t Actions) (has_rowid (pos owned.offer.action)) SaysNumbered (Some action)) where
  its_action : (it : IsRight t owned) → it.action ≡ action
  its_action it = same_stored_action (columns_of_stored_action it.of.row) it.action action it.of.shows (one.each it.of.row it.of.among it.of.numbered)

  pub other_action : (Fits action owned → ⊥) → IsRight t owned → ⊥
  other_action other it = grind (arith, its_action)

  pub by_group : Fits action owned → (started : Bool) → SettlesWhether (IsInStartedGroup t action.rollout action.position) started
      → SettlesWhether (IsRight t owned) started
  by_group fits started none = grind (arith, its_action)

-- ---- one action

pub no_offer : {t : Tables} {id : Bytes} {number : ℕ} → FindsOne (t Offers) (has_text_at 1 id) (SaysOfferOf id) None → IsOffered t id number → ⊥
no_offer {id = id} none it = none it.row it.among (rw it.is.id_is (same_refl id))

pub if_due : (t : Tables) (groups : List GroupRecord) (listed : ListedAction) → is_due groups listed.action ≡ true → (offered : Bool)
    → SettlesWhether (IsOffered t listed.action.target listed.number) offered → SettlesWhether (IsOfferedIfDue t groups listed) offered
if_due t groups listed due offered is = grind arith

-- ---- the actions of one rollout

module _ (t : Tables) {r : ℕ} {groups : List GroupRecord} (listed : ListsRows (t Groups) (has_at 1 r) (SaysGroup r) (Some groups)) {actions : List ListedAction}
    (acted : ListsRows (t Actions) (has_at 2 r) SaysAction (Some actions)) where
  all_offered : AllByRecursion (IsOfferedIfDue t groups) actions → (row : Row) → Has (t Actions) row → has_at 2 r row ≡ true → IsRowOffered t row
  all_offered none row among of number action due = let one = acted.complete row among of in
      let offered = all_has (IsOfferedIfDue t groups) actions one.one none one.among in
      grind (arith, same_action one.is due.is, own_rollout due.is of, and_from, if_so, started_tells t action.position listed, offered)

  one_not_offered : IsThere t r → (AllByRecursion (IsOfferedIfDue t groups) actions → ⊥) → AgreesOffers t → ⊥
  one_not_offered there some agree = some (all_from (IsOfferedIfDue t groups) actions (λ one among due.
      let said = acted.sound one among in
      let both = and_parts (is_none one.action.outcome) (holds_started groups one.action.position) due in
      let started = so_if _ (started_tells t one.action.position listed) both.1 in
      grind (arith, agree.all said.row one.number one.action, own_rollout said.is said.passes, none_ended, started)))

  pub judged_due : IsThere t r → (offered : Bool) → SettlesWhether (AllByRecursion (IsOfferedIfDue t groups) actions) offered → (count : ℕ)
      → count ≡ length actions → JudgesOne Actions 2 IsRowOffered (λ t r. Unit) AgreesOffers t r (then_some offered count)
  judged_due there offered all count is = grind (arith, all_offered, one_not_offered)

-- ---- all of them

-- what was found, in another order
pub sorted_said : {A : Type 0} {rows : List Row} {test : Row → Bool} {says : Row → A → Type 0} {found sorted : List A} → IsPermutation found sorted
    → AreSaid rows test says found → AreSaid rows test says sorted
sorted_said {A} {rows} {test} {says} {found} {sorted} moved said = record {
  sound = λ a among. said.sound a (has_permuted sorted found a (IsPermutation-sym found sorted moved) among);
  complete = λ row among passes. let it = said.complete row among passes in grind (arith, has_permuted found sorted it.one moved it.among, it.is);
  count = length_permutation found sorted moved ∙ said.count;
}

pub row_broken : (t : Tables) → ListsRows (t Offers) any_row SaysOffer None → SettlesWhether (AgreesOffers t) false
row_broken t broken agree = let it = agree.each broken.row broken.among in broken.breaks (record { id = it.id; offer = it.offer }) it.is

module _ (t : Tables) {offers : List OwnedOffer} (listed : ListsRows (t Offers) any_row SaysOffer (Some offers)) where
  pub one_wrong : SettlesWhether (AllByRecursion (IsRight t) offers) false → SettlesWhether (AgreesOffers t) false
  one_wrong some agree = some (all_from (IsRight t) offers (λ owned among.
      let said = listed.sound owned among in
      let it = agree.each said.row said.among in
      let number = one_in _ _ _ it.is.shows.action said.is.shows.action in
      let canceling = one_in _ _ _ it.is.shows.canceling said.is.shows.canceling in
      grind (arith, one_text _ _ _ it.is.id_is said.is.id_is, it.of)))

  pub agrees : AllByRecursion (IsRight t) offers → (found : Option ℕ) → JudgesAll Actions 2 IsRowOffered (λ t r. Unit) AgreesOffers t found
      → SettlesWhether (AgreesOffers t) (is_some found)
  agrees right None differs = differs
  agrees right (Some count) checked = record { each = each; all = all }
    where
      each : (row : Row) → Has (t Offers) row → IsRightOffer t row
      each row among = let one = listed.complete row among refl in
          grind (arith, all_has (IsRight t) offers one.one right one.among)

      all : (row : Row) (number : ℕ) (action : StoredAction) → IsDue t row number action → IsOffered t action.target number
      all row number action due =
          let low = number_in_least (column row 2) action.rollout due.is.shows.rollout in
          let high = checked.is_last.greatest action.rollout due.there in
          checked.checked.rows.each row due.among (is_within 2 checked.last action.rollout row low high (of_rollout due.is refl)) number action due
