-- No two actions have one place: so the action of a number is the action of its place.
use Rattle.rollout_machine.proofs.Common.{◌≡◌, ℕ, zero, suc, ◌+◌, false, List, [], ◌∷◌, ◌++◌, refl, sym, ◌∙◌, ap, arith, inl, inr, ◌⊎◌, Option, Some, None}
use Rattle.rollout_machine.proofs.Common.{length, slice_get, false≢true, ActionPlace, action_places, new_places, places_of, places_from}
use Rattle.rollout_machine.proofs.Common.{CommandList, Make, ◌▸◌, Command, Start, NumbersDiffer, is_rollout_started, is_paused, records, rollout_in}
use Rattle.rollout_machine.proofs.Common.{approval_of, Rollout, rollout_at, size_of, is_finished, IsValid, verdict, verdict_row, is_ready}
use Rattle.rollout_machine.proofs.Valid.{NoneHolds, none_holds}
use Rattle.rollout_machine.proofs.Induction.{Invariant, invariant_of, word_at, ready_not_begun}

-- where an item of xs ++ ys stands
split_at : {X : Type 0} (xs ys : List X) (i : ℕ) (x : X) → slice_get (xs ++ ys) i ≡ Some x → (slice_get xs i ≡ Some x)
    ⊎ ((j : ℕ) × (slice_get ys j ≡ Some x) × (i ≡ length xs + j))
split_at [] ys i x e = inr (i, e, omega arith)
split_at (y ∷ xs) ys zero x e = inl e
split_at (y ∷ xs) ys (suc i) x e = later (split_at xs ys i x e)
  where
    later : (slice_get xs i ≡ Some x) ⊎ ((j : ℕ) × (slice_get ys j ≡ Some x) × (i ≡ length xs + j)) → (slice_get xs i ≡ Some x)
        ⊎ ((j : ℕ) × (slice_get ys j ≡ Some x) × (suc i ≡ suc (length xs) + j))
    later (inl a) = inl a
    later (inr (j, b, d)) = inr (j, b, omega arith)

pub position_at : (r a n i : ℕ) (p : ActionPlace) → slice_get (places_from r a n) i ≡ Some p → (p.rollout ≡ r) × (p.position ≡ a + i)
position_at r a zero i p e = cc
position_at r a (suc n) zero p e = grind arith
position_at r a (suc n) (suc i) p e = let t : (p.rollout ≡ r) × (p.position ≡ suc a + i) = position_at r (suc a) n i p e in (t.0, omega (arith, t.1))

-- a new place is of a rollout that had not begun, and at the position that its index says
pub new_at : (h : CommandList) (c : Command) (j : ℕ) (p : ActionPlace) → verdict h c ≡ None → slice_get (new_places h c) j ≡ Some p
    → (is_rollout_started p.rollout h ≡ false) × (p.position ≡ 1 + j)
new_at h (Start r) j p e g = go (rollout_at h r) refl g
  where
    row : NoneHolds (verdict_row (records h) (Start r))
    row = none_holds (verdict_row (records h) (Start r)) e

    go : (o : Option Rollout) → rollout_at h r ≡ o → slice_get (places_of r o) j ≡ Some p → (is_rollout_started p.rollout h ≡ false) × (p.position ≡ 1 + j)
    go None d g = cc
    go (Some x) d g =
        let t : (p.rollout ≡ r) × (p.position ≡ 1 + j) = position_at r 1 (size_of x) j p g in
        let b : is_rollout_started r h ≡ false = ready_not_begun (approval_of r h) (is_rollout_started r h) (is_finished (rollout_in h r x)) (is_paused x r h)
        (word_at h r is_ready x d row.1.0) in
        (ap (λ k. is_rollout_started k h) t.0 ∙ b, t.1)
new_at h _ j p e g = cc

same_index : (h : CommandList) → IsValid h → (a b : ℕ) (p : ActionPlace) → slice_get (action_places h) a ≡ Some p → slice_get (action_places h) b ≡ Some p
    → a ≡ b
same_index (Make approval) v a b p d e = cc
same_index (h ▸ c) v a b p d e = go (split_at (action_places h) (new_places h c) a p d) (split_at (action_places h) (new_places h c) b p e)
    (same_index h v.0 a b p)
  where
    w : Invariant h
    w = invariant_of h v.0

    go : (slice_get (action_places h) a ≡ Some p) ⊎ ((j : ℕ) × (slice_get (new_places h c) j ≡ Some p) × (a ≡ length (action_places h) + j))
        → (slice_get (action_places h) b ≡ Some p) ⊎ ((j : ℕ) × (slice_get (new_places h c) j ≡ Some p) × (b ≡ length (action_places h) + j))
        → (slice_get (action_places h) a ≡ Some p → slice_get (action_places h) b ≡ Some p → a ≡ b) → a ≡ b
    go (inl x) (inl y) ih = ih x y
    go (inl x) (inr (j, y, n)) ih = absurd (false≢true (sym (new_at h c j p v.2 y).0 ∙ w.acted (suc a) p x))
    go (inr (i, x, m)) (inl y) ih = absurd (false≢true (sym (new_at h c i p v.2 x).0 ∙ w.acted (suc b) p y))
    go (inr (i, x, m)) (inr (j, y, n)) ih = omega (arith, (new_at h c i p v.2 x).1, (new_at h c j p v.2 y).1)

-- no two numbers have one place
pub one_number : NumbersDiffer
one_number h h1 b p v d e = grind (arith, same_index)
