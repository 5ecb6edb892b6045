-- What is offered is an open action of a started group.
use Rattle.rollout_machine.proofs.Common.{◌≡◌, ℕ, suc, ◌+◌, Bool, true, false, cond, ◌&&◌, List, [], ◌∷◌, refl, sym, ◌∙◌, ap, arith, Option, Some, None}
use Rattle.rollout_machine.proofs.Common.{slice_get, is_none, zero, ◌≤◌, ◌<◌, length, option_map, and_parts, ActionPlace, action_places, action_place, outcome}
use Rattle.rollout_machine.proofs.Common.{item_numbered, same_bytes, CommandList, Bytes, HasSoundPlan, IsOfferable, IsLeastOffer, OfferIsLeast, Offer}
use Rattle.rollout_machine.proofs.Common.{first_offer, offer, is_group_started, Records, ActionRecord, action_in, Rollout, is_for, has_started, member_at}
use Rattle.rollout_machine.proofs.Common.{IsValid, unwrap_or, false≢true, ltb-true}
use Rattle.rollout_machine.specs.Records.{records}
use Rattle.rollout_machine.proofs.Actions.{get_map}
use Rattle.rollout_machine.proofs.Valid.{IsPlace, its_group, has_started_is, found_action}
use Rattle.rollout_machine.proofs.Cuts.{group_of}
use Rattle.rollout_machine.proofs.Whole.{rollout_numbered}
use Rattle.rollout_machine.proofs.TargetTies.{same_refl, same_true}
use Rattle.rollout_machine.proofs.Meanings.{is_candidate, is_open as is_open_of, least_offer, none_from}
use Rattle.rollout_machine.proofs.Induction.{invariant_of}

pub record IsOffered (rs : Records) (t : Bytes) (k : ℕ) (actions : List ActionRecord) (o : Offer) : Type 0 where
  pub index : ℕ
  pub action : ActionRecord
  pub there : slice_get actions index ≡ Some action
  pub number : o.action ≡ k + index
  pub is_open : is_none action.outcome ≡ true
  pub device : is_for rs t action ≡ true
  pub started : has_started rs action ≡ true
  pub kind : o.canceling ≡ action.canceling

pub offered_one : (rs : Records) (t : Bytes) (k : ℕ) (actions : List ActionRecord) (o : Offer) → first_offer rs t k actions ≡ Some o
    → IsOffered rs t k actions o
offered_one rs t k [] o e = cc
offered_one rs t k (a ∷ rest) o e = go (is_none a.outcome && (is_for rs t a && has_started rs a)) refl e (offered_one rs t (suc k) rest o)
  where
    go : (b : Bool) → (is_none a.outcome && (is_for rs t a && has_started rs a)) ≡ b → cond b (Some (record { action = k; canceling = a.canceling }))
        (first_offer rs t (suc k) rest) ≡ Some o
        → (first_offer rs t (suc k) rest ≡ Some o → IsOffered rs t (suc k) rest o) → IsOffered rs t k (a ∷ rest) o
    go false d g ih =
        let w : IsOffered rs t (suc k) rest o = ih g in
        record {
          index = suc w.index;
          action = w.action;
          there = w.there;
          number = omega (arith, w.number);
          is_open = w.is_open;
          device = w.device;
          started =
              w.started;
          kind = w.kind;
        }
    go true d g ih =
        let same : record { action = k; canceling = a.canceling } ≡ o = cc in
        let parts : (is_none a.outcome ≡ true) × ((is_for rs t a && has_started rs a) ≡ true) = and_parts _ _ d in
        let more : (is_for rs t a ≡ true) × (has_started rs a ≡ true) = and_parts _ _ parts.1 in
        let n : k ≡ o.action = ap (λ (v : Offer). v.action) same in
        record {
          index = 0;
          action = a;
          there = refl;
          number = omega (arith, n);
          is_open = parts.0;
          device = more.0;
          started = more.1;
          kind = sym (ap (λ (v : Offer). v.canceling) same);
        }

pub some_item : {X : Type 0} (xs : List X) (j : ℕ) → 1 ≤ j → j ≤ length xs → (m : X) × (item_numbered xs j ≡ Some m)
some_item xs zero a b = absurd (omega (arith, a))
some_item [] (suc j) a b = absurd (omega (arith, b))
some_item (x ∷ xs) (suc zero) a b = (x, refl)
some_item (x ∷ xs) (suc (suc j)) a b = some_item xs (suc j) (omega arith) (omega (arith, b))

-- what is for a target is of its member
pub member_is : (h : CommandList) (t : Bytes) (p : ActionPlace) (w : IsPlace h p) → is_for (records h) t (action_in h p) ≡ true
    → item_numbered w.rollout.members p.position ≡ Some t
unfolding records
member_is h t p w e =
    let (m, there) = some_item w.rollout.members p.position w.low w.high in
    let named : same_bytes (unwrap_or (item_numbered w.rollout.members p.position) []) t ≡ true =
    sym (ap (λ o. same_bytes (member_at o p.position) t) (rollout_numbered h p.rollout w.rollout w.there)) ∙ e in
    let same : m ≡ t = same_true m t (sym (ap (λ o. same_bytes (unwrap_or o []) t) there) ∙ named) in
    there ∙ ap (λ (x : Bytes). Some x) same

offerable : (h : CommandList) (t : Bytes) (k : ℕ) (p : ActionPlace) → IsValid h → action_place h k ≡ Some p → is_candidate (records h) t (action_in h p) ≡ true
    → IsOfferable h t k p
offerable h t k p v e d =
    let w : IsPlace h p = (invariant_of h v).placed k p e in
    let x : Rollout = w.rollout in
    let parts : (is_none (outcome h p.rollout p.position) ≡ true) × ((is_for (records h) t (action_in h p) && has_started (records h) (action_in h p)) ≡ true) =
    and_parts _ _ d in
    let more : (is_for (records h) t (action_in h p) ≡ true) × (has_started (records h) (action_in h p) ≡ true) = and_parts _ _ parts.1 in
    record {
      numbered = e;
      rollout = x;
      there = w.there;
      member = member_is h t p w more.0;
      group = group_of x p.position;
      first = (its_group h p w).first;
      within = (its_group h p w).within;
      started = sym (has_started_is h h p x _ w.there w.sound (its_group h p w)) ∙ more.1;
      is_open = is_open_of (outcome h p.rollout p.position) parts.0;
    }

pub within_groups : (x : Rollout) (r g : ℕ) (h : CommandList) → 1 ≤ x.plan.groups.count → is_group_started x r g h ≡ true → g ≤ x.plan.groups.count
within_groups x r zero h s e = omega arith
within_groups x r (suc zero) h s e = s
within_groups x r (suc (suc i)) h s e = let parts : _ = and_parts _ _ e in let less : suc i < x.plan.groups.count = ltb-true _ _ parts.0 in omega (arith, less)

candidate : (h : CommandList) (t : Bytes) (k : ℕ) (p : ActionPlace) → IsValid h → IsOfferable h t k p → is_candidate (records h) t (action_in h p) ≡ true
unfolding records
candidate h t k p v w =
    let x : Rollout = w.rollout in
    let s : HasSoundPlan x = ((invariant_of h v).follows p.rollout x w.there).sound in
    three _ _ _ (ap is_none w.is_open)
    (ap (λ o. same_bytes (member_at o p.position) t) (rollout_numbered h p.rollout x w.there)
    ∙ (ap (λ o. same_bytes (unwrap_or o []) t) w.member ∙ same_refl t))
    (has_started_is h h p x w.group w.there s
    (record { first = w.first; last = within_groups x p.rollout w.group h s.some_groups w.started; within = w.within }) ∙ w.started)
  where
    three : (a b c : Bool) → a ≡ true → b ≡ true → c ≡ true → (a && (b && c)) ≡ true
    three a b c e f g = rw (e, f, g) refl

pub offer_is_least : OfferIsLeast
unfolding records
offer_is_least h t v = (λ o e. one o e, λ e k p w. false≢true (sym (nothing e k p w) ∙ candidate h t k p v w))
  where
    nothing : offer (records h) t ≡ None → (k : ℕ) (p : ActionPlace) → IsOfferable h t k p → is_candidate (records h) t (action_in h p) ≡ false
    nothing e zero p w = absurd (nowhere w.numbered)
      where
        nowhere : action_place h zero ≡ Some p → ⊥
        nowhere d = cc
    nothing e (suc i) p w = none_from (records h) t 1 (records h).actions e i (action_in h p) (found_action h (suc i) (Some p) w.numbered)

    one : (o : Offer) → offer (records h) t ≡ Some o → IsLeastOffer h t o
    one o e = go (slice_get (action_places h) w.index) refl
      where
        w : IsOffered (records h) t 1 (records h).actions o
        w = offered_one (records h) t 1 (records h).actions o e

        go : (p : Option ActionPlace) → slice_get (action_places h) w.index ≡ p → IsLeastOffer h t o
        go None d =
            let both : None ≡ Some w.action = sym (get_map (action_in h) (action_places h) w.index ∙ ap (option_map (action_in h)) d) ∙ w.there in cc
        go (Some p) d =
            let both : Some (action_in h p) ≡ Some w.action = sym (get_map (action_in h) (action_places h) w.index ∙ ap (option_map (action_in h)) d)
            ∙ w.there in
            let same : action_in h p ≡ w.action = cc in
            let n : o.action ≡ suc w.index = omega (arith, w.number) in
            let at : action_place h o.action ≡ Some p = rw n d in
            record {
              place = p;
              offerable = offerable h t o.action p
                  v at (every _ _ _ (ap (λ (a : ActionRecord). is_none a.outcome) same ∙ w.is_open) (ap (is_for (records h) t) same ∙ w.device)
                  (ap (has_started (records h)) same ∙ w.started));
              kind = w.kind ∙ sym (ap (λ (a : ActionRecord). a.canceling) same);
              least = λ k q l f. false≢true (sym (least_offer (records h) t o e k (action_in h q) (found_action h k (Some q) f.numbered) l)
                  ∙ candidate h t k q v f);
            }
          where
            every : (a b c : Bool) → a ≡ true → b ≡ true → c ≡ true → (a && (b && c)) ≡ true
            every a b c e f g = rw (e, f, g) refl
