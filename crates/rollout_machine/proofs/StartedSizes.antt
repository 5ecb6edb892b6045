-- No more actions than the members of all rollouts: each rollout is started once.
use Rattle.rollout_machine.proofs.Common.{◌≡◌, ℕ, zero, suc, ◌+◌, ◌*◌, ◌≤◌, Bool, true, false, cond, List, [], ◌∷◌, ◌++◌, length, refl, ap, arith, Some}
use Rattle.rollout_machine.proofs.Common.{None, slice_get, eq-eqb, action_places, CommandList, Make, ◌▸◌, Command, Start, size_at, started_by, started_sizes}
use Rattle.rollout_machine.proofs.Common.{is_rollout_started, Rollout, created, rollout_at, rollouts, size_of, IsValid, verdict}
use Rattle.rollout_machine.proofs.Meanings.{length_places}
use Rattle.rollout_machine.proofs.Recounts.{starts_fresh}

-- the members of those of these rollouts, of which the first has number a, that pass the test
abbrev members_where : (ℕ → Bool) → ℕ → List Rollout → ℕ
members_where p a [] = 0
members_where p a (x ∷ xs) = members_where p (suc a) xs + cond (p a) (size_of x) 0

-- where q takes what p takes, it takes no fewer
abbrev IsWider : (ℕ → Bool) → (ℕ → Bool) → Type 0
IsWider p q = (r : ℕ) → p r ≡ true → q r ≡ true

part_grows : (b d : Bool) (n : ℕ) → (b ≡ true → d ≡ true) → cond b n 0 ≤ cond d n 0
part_grows true d n w = let e : d ≡ true = w refl in rw e (omega arith)
part_grows false d n w = omega arith

grows : (p q : ℕ → Bool) → IsWider p q → (a : ℕ) (xs ys : List Rollout) → members_where p a xs ≤ members_where q a (xs ++ ys)
grows p q wider a [] ys = omega arith
grows p q wider a (x ∷ xs) ys = let rest = grows p q wider (suc a) xs ys in let own = part_grows (p a) (q a) (size_of x) (wider a) in omega (arith, rest, own)

-- and where it takes one more, it gains this one's members
gains : (p q : ℕ → Bool) → IsWider p q → (a i r : ℕ) (xs ys : List Rollout) (x : Rollout) → slice_get xs i ≡ Some x → a + i ≡ r → p r ≡ false → q r ≡ true
    → members_where p a xs + size_of x ≤ members_where q a (xs ++ ys)
gains p q wider a i r [] ys x e at without with' = cc
gains p q wider a zero r (y ∷ xs) ys x e at without with' = grind (arith, grows)
gains p q wider a (suc i) r (y ∷ xs) ys x e at without with' =
    grind (arith, gains p q wider (suc a) i r xs ys x e (omega (arith, at)) without with', part_grows)

abbrev begun_at : CommandList → ℕ → Bool
begun_at h r = is_rollout_started r h

sizes_few : (h : CommandList) → IsValid h → started_sizes h ≤ members_where (begun_at h) 1 (rollouts h)
sizes_few (Make approval) valid = omega arith
sizes_few (h ▸ c) valid = go c valid.2 (sizes_few h valid.0)
  where
    wider : (c : Command) → IsWider (begun_at h) (begun_at (h ▸ c))
    wider c r e = rw e refl

    calm : (c : Command) → started_by h c ≡ 0 → started_sizes h ≤ members_where (begun_at h) 1 (rollouts h)
        → started_sizes h + started_by h c ≤ members_where (begun_at (h ▸ c)) 1 (rollouts h ++ created h c)
    calm c none ih = omega (arith, ih, none, grows (begun_at h) (begun_at (h ▸ c)) (wider c) 1 (rollouts h) (created h c))

    begins : (q : ℕ) (x : Rollout) → rollout_at h q ≡ Some x → is_rollout_started q h ≡ false → started_sizes h ≤ members_where (begun_at h) 1 (rollouts h)
        → started_sizes h + started_by h (Start q) ≤ members_where (begun_at (h ▸ Start q)) 1 (rollouts h ++ [])
    begins zero x there fresh ih = cc
    begins (suc i) x there fresh ih =
        let size : started_by h (Start (suc i)) ≡ size_of x = ap size_at there in
        let now : begun_at (h ▸ Start (suc i)) (suc i) ≡ true = rw (fresh, eq-eqb (suc i) (suc i) refl) refl in
        let more = gains (begun_at h) (begun_at (h ▸ Start (suc i))) (wider (Start (suc i))) 1 i (suc i) (rollouts h) [] x there (omega arith) fresh now in
        omega (arith, ih, size, more)

    go : (c : Command) → verdict h c ≡ None → started_sizes h ≤ members_where (begun_at h) 1 (rollouts h)
        → started_sizes h + started_by h c ≤ members_where (begun_at (h ▸ c)) 1 (rollouts h ++ created h c)
    go (Start q) e ih = let (x, there, fresh) = starts_fresh h q e in begins q x there fresh ih
    go c e ih = calm c refl ih

at_most : (p : ℕ → Bool) (limit a : ℕ) (xs : List Rollout) → ((i : ℕ) (x : Rollout) → slice_get xs i ≡ Some x → size_of x ≤ limit)
    → members_where p a xs ≤ length xs * limit
at_most p limit a [] small = omega arith
at_most p limit a (x ∷ xs) small =
    let rest = at_most p limit (suc a) xs (λ i y e. small (suc i) y e) in
    let own = part (p a) (size_of x) (small 0 x refl) in
    let product : suc (length xs) * limit ≡ length xs * limit + limit = omega arith in
    omega (arith, rest, own, product)
  where
    part : (b : Bool) (n : ℕ) → n ≤ limit → cond b n 0 ≤ limit
    part true n few = few
    part false n few = omega arith

-- where no rollout has more members than this, there are no more actions than so many for each
pub few_actions : (h : CommandList) (limit : ℕ) → IsValid h → ((i : ℕ) (x : Rollout) → slice_get (rollouts h) i ≡ Some x → size_of x ≤ limit)
    → length (action_places h) ≤ length (rollouts h) * limit
few_actions h limit valid small = omega (arith, length_places h, sizes_few h valid, at_most (begun_at h) limit 1 (rollouts h) small)
