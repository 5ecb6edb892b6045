-- What a target is offered, looked up among its actions.
use Rattle.desk_commands.proofs.Common.{arith, ◌≡◌, ◌≤◌, ◌+◌, ℕ, suc, zero, Bool, true, cond, ◌&&◌, List, [], ◌∷◌, length, map, set, Option, Some, None}
use Rattle.desk_commands.proofs.Common.{refl, sym, ap, ◌∙◌, slice_get, nat_tests, list_any, is_none, item_numbered, same_bytes, CommandList, ◌▸◌, Bytes}
use Rattle.desk_commands.proofs.Common.{Command, Offer, first_offer, offer, has_started, is_for, is_started_in, Reported, Records, IsValid, ActionRecord}
use Rattle.desk_commands.proofs.Common.{RolloutRecord, acted, actor_of, Ledger, set_numbered, reoffered, in_place_of, any_starts, next_offer, next_offer_from}
use Rattle.desk_commands.proofs.Common.{is_next, starts_at, parts_of, Reoffers, and_assoc, and_comm}
use Rattle.std.proofs.lemmas.Bool.{le-leb}
use Rattle.rollout_machine.proofs.AnyGroup.{started_by_any_then}
use Rattle.desk_commands.proofs.ItemSteps.{same_but_for}

-- ---- as the machine says

-- any started group that holds the place of an action tells as much as the first group that does
abbrev pub AllTell : Records → List ActionRecord → Type 0
AllTell q as' = (j : ℕ) (a : ActionRecord) → slice_get as' j ≡ Some a → any_starts q.rollouts a ≡ has_started q a

-- .. as after a list of accepted commands, before the last starts a group
pub all_tell : (h : CommandList) (c : Command) → IsValid (h ▸ c) → AllTell (acted h c) (acted h c).actions
all_tell h c valid j a at = elim (item_numbered (acted h c).rollouts a.rollout) as (λ o. item_numbered (acted h c).rollouts a.rollout ≡ o
    → list_any (starts_at a.position) (parts_of (λ (x : RolloutRecord). x.groups) o) ≡ is_started_in o a) [
      | None ↦ λ is. refl
      | Some x ↦ λ is. sym (started_by_any_then h c (suc j) a x valid at is) ∙ ap (λ o. is_started_in o a) is
    ] refl

-- an action that can be offered to a target
abbrev pub is_offerable : Records → Bytes → ActionRecord → Bool
is_offerable rs t a = is_none a.outcome && (is_for rs t a && has_started rs a)

next_is : (q : Records) (t : Bytes) (a : ActionRecord) → any_starts q.rollouts a ≡ has_started q a → is_next q.rollouts t a ≡ is_offerable q t a
next_is q t a tells =
    let its = same_bytes (actor_of q.rollouts a) t in
    let starts = any_starts q.rollouts a in
    sym (and_assoc its (is_none a.outcome) starts) ∙ ap (λ b. b && starts) (and_comm its (is_none a.outcome)) ∙ and_assoc (is_none a.outcome) its starts
    ∙ ap (λ b. is_none a.outcome && (is_for q t a && b)) tells

-- where all are numbered k or more
next_from : (q : Records) (t : Bytes) (k n : ℕ) (as' : List ActionRecord) → k ≤ n → AllTell q as' → next_offer_from q.rollouts t k n as' ≡ first_offer q t n as'
next_from q t k n [] low all = refl
next_from q t k n (a ∷ more) low all =
    let whether = ap (λ b. b && is_next q.rollouts t a) (le-leb k n low) ∙ next_is q t a (all 0 a refl) in
    λ i. cond (whether i) (Some (record { action = n; canceling = a.canceling }))
    (next_from q t k (suc n) more (omega (arith, low)) (λ j b at. all (suc j) b at) i)

-- ---- such an action becomes another

module _ (rs : Records) (as' : List ActionRecord) (t : Bytes) (k : ℕ) (b : ActionRecord) where
  abbrev q : Records
  q = record rs { actions = as' }

  first_moves : (n j : ℕ) (xs : List ActionRecord) (a : ActionRecord) → n + j ≡ k → slice_get xs j ≡ Some a → is_offerable rs t a ≡ true
      → AllTell q (set xs j b) → in_place_of k (next_offer_from rs.rollouts t k n (set xs j b)) (first_offer rs t n xs) ≡ first_offer q t n (set xs j b)
  first_moves n j [] a number at is all = cc
  first_moves n zero (x ∷ xs) a number at is all =
      let same : x ≡ a = cc in
      grind (arith, nat_tests, same, next_from q t k n (b ∷ xs) (omega (arith, number)) all)
  first_moves n (suc j) (x ∷ xs) a number at is all =
      grind (arith, nat_tests, first_moves (suc n) j xs a (omega (arith, number)) at is (λ i y there. all (suc i) y there))

abbrev becoming : Records → ℕ → ActionRecord → Records
becoming rs k b = record rs { actions = set_numbered rs.actions k b }

-- if its target is offered the action, then from now on the first from there on, and else what it is offered stays
pub offer_moves : (rs : Records) (t : Bytes) (k : ℕ) (a b : ActionRecord) → item_numbered rs.actions k ≡ Some a → is_offerable rs t a ≡ true
    → AllTell (becoming rs k b) (becoming rs k b).actions → in_place_of k (next_offer (becoming rs k b) t k) (offer rs t) ≡ offer (becoming rs k b) t
offer_moves rs t zero a b at is all = cc
offer_moves rs t (suc j) a b at is all = first_moves rs (set rs.actions j b) t (suc j) b 1 j rs.actions a (omega arith) at is all

-- ---- the offer is written

pub offer_becomes : (id : Bytes) (action : ℕ) (l next : Ledger) → Reoffers id action l next → (o : Option Offer)
    → (length l.tallies ≡ length l.records.actions → o ≡ next_offer l.records id action) → next ≡ reoffered l id action o
offer_becomes id action l next w o is = w.next_is ∙ ap (reoffered l id action) (sym (is w.tallied))

-- ---- an offer that stays

started_alike : (o : Option RolloutRecord) (a : ActionRecord) (hs : List Reported) → is_started_in o (record a { history = hs }) ≡ is_started_in o a
started_alike o a hs = grind arith

-- what offers rest on of an action
abbrev bare : ActionRecord → ActionRecord
bare a = record a { history = [] }

offered_by : (rs : Records) (as' : List ActionRecord) (t : Bytes) (n : ℕ) (xs : List ActionRecord) → first_offer (record rs { actions = as' }) t n xs
    ≡ first_offer rs t n (map bare xs)
offered_by rs as' t n [] = refl
offered_by rs as' t n (x ∷ xs) = grind (arith, offered_by rs as' t (suc n) xs, is_none, started_alike)

-- whatever is told of an action, its target is offered the same
pub offer_stays : (rs : Records) (k : ℕ) (a : ActionRecord) (hs : List Reported) (t : Bytes) → item_numbered rs.actions k ≡ Some a
    → offer (record rs { actions = set_numbered rs.actions k (record a { history = hs }) }) t ≡ offer rs t
offer_stays rs k a hs t at =
    let next = set_numbered rs.actions k (record a { history = hs }) in
    offered_by rs next t 1 next ∙ ap (first_offer rs t 1) (same_but_for bare rs.actions k a (record a { history = hs }) at refl)
    ∙ sym (offered_by rs rs.actions t 1 rs.actions)
