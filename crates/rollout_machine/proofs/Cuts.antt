-- Groups follow one another, none is empty, and each member is in one of them and in no two.
use Rattle.rollout_machine.proofs.Common.{◌≡◌, ℕ, zero, suc, ◌+◌, ◌-◌, ◌*◌, ◌/◌, ◌<◌, ◌≤◌, Bool, true, false, cond, nat_le, inl, inr, refl, sym, subst, arith}
use Rattle.rollout_machine.proofs.Common.{le-div, and_parts, cases_order, le-leb, leb-false, leb-true, div-mul-le_self, div-lt_iff_lt-mul, HasSoundPlan}
use Rattle.rollout_machine.proofs.Common.{IsInGroup, IsCut, holds_position, last_position, Rollout, bounds_in, last_of, size_in, size_of}

-- The cut into even groups is one. Nothing else need know how it is computed.
pub even_is_cut : (m n : ℕ) → 1 ≤ n → n ≤ m → IsCut (last_position m n) m n
even_is_cut m n some enough = record {
  begins = (let top : 0 * m / n < 1 = (div-lt_iff_lt-mul {x = 0 * m} {y = 1} some).1 (omega arith) in omega arith);
  rises = λ i k less. le-div (i * m / n) (k * m) n some (omega (arith, div-mul-le_self (i * m) n, scaled i k m less));
  grows = λ i less. le-div (i * m / n + 1) ((i + 1) * m) n some (omega (arith, div-mul-le_self (i * m) n));
  whole =
      let low : m ≤ n * m / n = le-div m (n * m) n some (omega arith) in
      let top : n * m / n < m + 1 = (div-lt_iff_lt-mul {x = n * m} {y = m + 1} some).1 (omega arith) in
      omega arith;
}
  where
    scaled : (i k m : ℕ) → i ≤ k → i * m ≤ k * m
    scaled i k m less = grind arith

-- ---- a group holds what is between its bounds

up_to : (first last j : ℕ) → first ≤ j → j < first + ((last + 1) - first) → j ≤ last
up_to first last j low high = omega arith

below : (first last j : ℕ) → first ≤ j → j ≤ last → j < first + ((last + 1) - first)
below first last j low high = omega arith

pub held : (x : Rollout) (i j : ℕ) → IsInGroup x i j → holds_position j (bounds_in x i) ≡ true
held x i j w = rw (le-leb _ _ w.low, le-leb _ _ (up_to _ _ _ w.low w.high)) refl

pub in_bounds : (x : Rollout) (i j : ℕ) → holds_position j (bounds_in x i) ≡ true → IsInGroup x i j
in_bounds x i j e = grind (arith, and_parts, leb-true, below)

-- ---- each group has a member

pub size_positive : (x : Rollout) (i : ℕ) → HasSoundPlan x → 1 ≤ i → i ≤ x.plan.groups.count → 1 ≤ size_in x i
size_positive x i sound a b = grind arith

-- ---- each member is in one

-- the first group, up to number n, that ends at the position or behind it
abbrev pub group_up_to : (ℕ → ℕ) → ℕ → ℕ → ℕ
group_up_to last j zero = 0
group_up_to last j (suc n) = cond (nat_le j (last n)) (group_up_to last j n) (suc n)

abbrev pub group_of : Rollout → ℕ → ℕ
group_of x j = group_up_to (last_of x) j x.plan.groups.count

-- g is one of the first n groups, and holds member j
pub record IsAmong (x : Rollout) (n g j : ℕ) : Type 0 where
  pub first : 1 ≤ g
  pub last : g ≤ n
  pub within : IsInGroup x g j

abbrev pub IsOwnGroup : Rollout → ℕ → ℕ → Type 0
IsOwnGroup x g j = IsAmong x x.plan.groups.count g j

among : (x : Rollout) (n j : ℕ) → last_of x 0 ≡ 0 → 1 ≤ j → j ≤ last_of x n → IsAmong x n (group_up_to (last_of x) j n) j
among x zero j begins low high = absurd (omega arith)
among x (suc n) j begins low high = go (nat_le j (last_of x n)) refl (among x n j begins low)
  where
    back : suc n - 1 ≡ n
    back = omega arith

    go : (b : Bool) → nat_le j (last_of x n) ≡ b → (j ≤ last_of x n → IsAmong x n (group_up_to (last_of x) j n) j)
        → IsAmong x (suc n) (cond b (group_up_to (last_of x) j n) (suc n)) j
    go true is before = let w = before (leb-true _ _ is) in record { first = w.first; last = omega (arith, w.last); within = w.within }
    go false is before =
        let past : last_of x (suc n - 1) + 1 ≤ j = rw back (omega (arith, leb-false _ _ is)) in
        record { first = omega arith; last = omega arith; within = record { low = past; high = below _ _ _ past high } }

pub in_its_group : (x : Rollout) (j : ℕ) → HasSoundPlan x → 1 ≤ j → j ≤ size_of x → IsOwnGroup x (group_of x j) j
in_its_group x j sound low high = among x x.plan.groups.count j sound.cut.begins low (subst (λ m. j ≤ m) (sym sound.cut.whole) high)

-- and in no two
pub one_group : (x : Rollout) (g i j : ℕ) → HasSoundPlan x → 1 ≤ g → 1 ≤ i → IsInGroup x g j → IsInGroup x i j → i ≡ g
one_group x g i j sound a b w v = elim (cases_order i g) [
  | inl same ↦ same
  | inr (inl less) ↦ absurd (omega (arith, sound.cut.rises i (g - 1) (omega arith)))
  | inr (inr more) ↦ absurd (omega (arith, sound.cut.rises g (i - 1) (omega arith)))
]
