-- What the reads of the tables of actions, members and rollouts come to.
use Rattle.desk_records.proofs.KeptColumns.{one_in, one_text}
use Rattle.desk_verify.proofs.Common.{arith, ◌≡◌, ℕ, true, false, true≢false, List, [], ◌∷◌, length, nat_eq, pos, Some, None, inl, refl, sym, ap, subst, ◌∙◌}
use Rattle.desk_verify.proofs.Common.{AllByRecursion, Int, Row, column, Has, all_from, all_has, Bytes, has_at, Actions, IsAction, Tables, PlacedMember}
use Rattle.desk_verify.proofs.Common.{ListedAction, StoredAction, StoredRollout, is_at, number_in_is, number_in_least, number_is, one_number, AreActionsInTurn}
use Rattle.desk_verify.proofs.Common.{AreMembersInTurn, AreActionsWhole, FitsItsEntries, ListsActions, PassesHistory, are_for, count_none, is_for_member}
use Rattle.desk_verify.proofs.Common.{AgreesActions, HasMember, IsRightAction, IsStarted, PassesActions, Settles}
use Rattle.desk_verify.proofs.Common.{AreAllChecked, HasRollout, IsChecked, JudgesOne, IsThere, Bool}
use Rattle.desk_records.proofs.RowsTold.{same_stored_action}
use Rattle.desk_verify.proofs.RolloutLemmas.{decided}
use Rattle.desk_verify.proofs.TurnLemmas.{AreOrdered, IsFor, following, is_own, one_place, ordered, own_is, paired}
use Rattle.std.specs.Bool.{then_some}
use Rattle.desk_records.proofs.Membership.{zip_left, zip_right}

-- ---- a row is one action

pub record IsSame (j k : ℕ) (a b : StoredAction) : Type 0 where
  pub number : j ≡ k
  pub action : a ≡ b

pub same_action : {row : Row} {j k : ℕ} {a b : StoredAction} → IsAction row j a → IsAction row k b → IsSame j k a b
same_action p q = grind (arith, same_stored_action)

-- it is of this rollout
pub own_rollout : {row : Row} {r j : ℕ} {a : StoredAction} → IsAction row j a → has_at 2 r row ≡ true → a.rollout ≡ r
own_rollout {row} {r} {j} {a} is of = one_number (column row 2) a.rollout r (number_in_is _ _ is.shows.rollout) (number_is (column row 2) r of)

pub of_rollout : {row : Row} {r j : ℕ} {a : StoredAction} → IsAction row j a → a.rollout ≡ r → has_at 2 r row ≡ true
of_rollout {row} {r} {j} {a} is same = is_at row 2 r (number_in_is _ _ is.shows.rollout ∙ ap (λ n. Int (pos n)) same)

-- a row that breaks a rule
pub fails_broken : (t : Tables) (r : ℕ) → ListsActions t r None → AgreesActions t → ⊥
fails_broken t r broken agree = let it = agree.each broken.row broken.among in broken.breaks (record { number = it.number; action = it.action }) it.is

-- ---- one rollout

module _ {t : Tables} {r : ℕ} {rollout : StoredRollout} (there : HasRollout t r rollout) where
  said_started : IsStarted t r → rollout.started ≡ true
  said_started it = one_in _ _ _ (there.is.each it.row it.among it.numbered).started it.says

  is_started : rollout.started ≡ true → IsStarted t r
  is_started started = grind arith

  -- ---- that isn't started

  pub waiting : rollout.started ≡ false → (actions : List ListedAction) → ListsActions t r (Some actions)
      → JudgesOne Actions 2 IsRightAction AreActionsWhole AgreesActions t r (count_none actions)
  waiting waits [] listed = record {
    rows = record { each = λ row among of. absurd (listed.said.complete row among of).among; all = listed.said.count };
    whole = record {
      all = λ started. absurd (true≢false (sym (said_started started) ∙ waits));
      in_order = λ row other j k a b among others is other_is same other_same. absurd (listed.said.complete row among (of_rollout is same)).among;
      numbers = λ row number a among is same. absurd (listed.said.complete row among (of_rollout is same)).among;
    };
  }
  waiting waits (x ∷ actions) listed = λ agree. let said = listed.said.sound x (inl refl) in let it = agree.each said.row said.among in
      true≢false (sym (said_started (subst (IsStarted t) (own_rollout it.is said.passes) it.started)) ∙ waits)

  -- ---- that is started

  module _ (started : rollout.started ≡ true) {actions : List ListedAction} (listed : AreActionsInTurn t r actions) {members : List PlacedMember}
      (placed : AreMembersInTurn t r members) where
    has_member : (m : PlacedMember) → Has members m → HasMember t r m.place m.id
    has_member m among = let it = placed.said.sound m among in record { row = it.row; among = it.among; is = it.is }

    member_has : (place : ℕ) (id : Bytes) → HasMember t r place id → Has members (record { id = id; place = place })
    member_has place id has =
        let it = placed.said.complete has.row has.among (is_at has.row 1 r (number_in_is _ _ has.is.rollout_is)) in
        let at = one_in _ it.one.place place it.is.place_is has.is.place_is in
        let own = one_text _ it.one.id id it.is.id_is has.is.id_is in
        subst (Has members) (λ i. record { id = own i; place = at i }) it.among

    fits : are_for members actions ≡ true → AllByRecursion (PassesHistory t) actions → (many : ℕ) → many ≡ length actions
        → IsChecked Actions 2 IsRightAction AreActionsWhole t r many
    fits are histories many is =
        let pairs = paired members actions are in
        record {
          rows = record {
            each = λ row among of.
                let it = listed.said.complete row among of in
                let m = zip_right IsFor members actions it.one pairs it.among in
                let passes = all_has (PassesHistory t) actions it.one histories it.among in
                grind (arith, is_own m.0 it.one m.2, own_rollout it.is of, is_started started, has_member m.0 m.1);
            all = is ∙ listed.said.count;
          };
          whole = record {
            all = λ begun place id has.
                let a = zip_left IsFor members actions (record { id = id; place = place }) pairs (member_has place id has) in
                let it = listed.said.sound a.0 a.1 in
                grind (arith, it.is, own_rollout it.is it.passes, (is_own _ a.0 a.2).0);
            in_order = λ row other j k a b among others is other_is of other_of.
                let c = listed.said.complete row among (of_rollout is of) in
                let d = listed.said.complete other others (of_rollout other_is other_of) in
                let order = ordered members actions placed.turn listed.turn pairs c.one d.one c.among d.among in
                grind (arith, order, same_action c.is is, same_action d.is other_is);
            numbers = λ row number a among is of. let it = listed.said.complete row among (of_rollout is of) in
                grind (arith, same_action it.is is, all_has (PassesHistory t) actions it.one histories it.among);
          };
        }

    agreeing : AgreesActions t → are_for members actions ≡ true
    agreeing agree = following members actions placed.turn listed.turn all own order
      where
        own : (a : ListedAction) → Has actions a → (m : PlacedMember) × Has members m × (is_for_member m a ≡ true)
        own a among = let said = listed.said.sound a among in let it = agree.each said.row said.among in
            let same = (same_action it.is said.is).action in
            let has : HasMember t r a.action.position a.action.target = grind (arith, it.member, own_rollout said.is said.passes, same) in
            (record { id = a.action.target; place = a.action.position }, member_has a.action.position a.action.target has, own_is _ a refl refl)

        all : (m : PlacedMember) → Has members m → (a : ListedAction) × Has actions a × (is_for_member m a ≡ true)
        all m among =
            let has = agree.all r (is_started started) m.place m.id (has_member m among) in
            let it = listed.said.complete has.row has.among (of_rollout has.is has.rollout_is) in
            let its = own it.one it.among in
            grind (arith, same_action it.is has.is, one_place members placed.turn its.0 m its.1 among, is_own its.0 it.one its.2)

        order : (a b : ListedAction) → Has actions a → Has actions b → AreOrdered a b
        order a b among others =
            let p = listed.said.sound a among in
            let q = listed.said.sound b others in
            let it = agree.in_order p.row q.row a.number b.number a.action b.action p.among q.among p.is q.is
            (own_rollout p.is p.passes ∙ sym (own_rollout q.is q.passes)) in
            (it.apart, it.order)

    pub fails : are_for members actions ≡ false → AgreesActions t → ⊥
    fails other agree = true≢false (sym (agreeing agree) ∙ other)

    pub judged_started : are_for members actions ≡ true → (fit : Bool)
        → Settles (AllByRecursion (PassesHistory t) actions) (AllByRecursion (FitsItsEntries t) actions) fit → (many : ℕ) → many ≡ length actions
        → JudgesOne Actions 2 IsRightAction AreActionsWhole AgreesActions t r (then_some fit many)
    judged_started are true histories many is = fits are histories many is
    judged_started are false other many is = grind (arith, all_from, same_action, other)

-- ---- all of them

is_there : (t : Tables) (r : ℕ) → IsStarted t r → IsThere t r
is_there t r it = record { row = it.row; among = it.among; numbered = it.numbered }

-- the actions of all rollouts that are there, where there are no more
pub agrees : (t : Tables) (listed all : ℕ) → AreAllChecked Actions 2 IsRightAction AreActionsWhole t listed → all ≡ length (t Actions)
    → Settles (PassesActions t) (AgreesActions t) (nat_eq listed all)
agrees t listed all checked is = decided PassesActions AgreesActions listed all checked is
    (λ each whole. (
    let at : (row : Row) (number : ℕ) (action : StoredAction) → Has (t Actions) row → IsAction row number action → AreActionsWhole t action.rollout =
    (λ row number action among says.
    let it = each row among in
    whole action.rollout (number_in_least (column row 2) action.rollout says.shows.rollout) (is_there t action.rollout
    (subst (λ (x : StoredAction). IsStarted t x.rollout) (same_action it.is says).action it.started))) in
    record {
      agrees = record {
        each = each;
        all = λ rollout started place id has. (whole rollout (number_in_least (column has.row 1) rollout has.is.rollout_is) (is_there t rollout started)).all
            started place id has;
        in_order = λ row other j k a b among others says other_says same. (at row j a among says).in_order row other j k a b among others says other_says refl
            (sym same);
      };
      numbers = λ row number action among says. (at row number action among says).numbers row number action among says refl;
    }))
    (λ agree row among. let it = agree.each row among in
    grind (arith, number_in_least (column row 2) it.action.rollout it.is.shows.rollout, is_there t it.action.rollout it.started, of_rollout it.is refl))
