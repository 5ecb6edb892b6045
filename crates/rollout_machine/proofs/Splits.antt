-- A split that leaves no group empty is a cut.
use Rattle.rollout_machine.proofs.Common.{◌≡◌, ◌≤◌, ◌<◌, ℕ, zero, suc, ◌+◌, ◌-◌, ◌*◌, Bool, true, false, cond, List, [], ◌∷◌, ◌++◌, nat_eq, length}
use Rattle.rollout_machine.proofs.Common.{slice_get, take, drop, Some, None, refl, sym, ap, subst, ◌∙◌, arith, AllByRecursion, nat_tests, le-div}
use Rattle.rollout_machine.proofs.Common.{div-lt_iff_lt-mul, FirstEmptyTells, SplitCovers, first_empty_from, left_by, share, split_bounds_of, split_last}
use Rattle.rollout_machine.proofs.Common.{Bounds}

some_share : (rest p : ℕ) → 1 ≤ rest → 1 ≤ p → 1 ≤ share rest p
some_share rest p a b = le-div 1 (rest * p + 99) 100 (omega arith) (omega (arith, product rest p a b))
  where
    product : (rest p : ℕ) → 1 ≤ rest → 1 ≤ p → 1 ≤ rest * p
    product zero p a b = absurd (omega arith)
    product (suc k) p a b = omega arith

-- 100 percent are all
all_of : (rest : ℕ) → share rest 100 ≡ rest
all_of rest = grind (arith, le-div, div-lt_iff_lt-mul)

no_more : (m : ℕ) (ps : List ℕ) → left_by m ps ≤ m
no_more m [] = omega arith
no_more m (p ∷ ps) = let rest = no_more (m - share m p) ps in omega (arith, rest)

less_left : (m : ℕ) (ps : List ℕ) (i k : ℕ) → i ≤ k → left_by m (take k ps) ≤ left_by m (take i ps)
less_left m ps zero k h = no_more m (take k ps)
less_left m ps (suc i) zero h = absurd (omega (arith, h))
less_left m [] (suc i) (suc k) h = omega arith
less_left m (p ∷ ps) (suc i) (suc k) h = less_left (m - share m p) ps i k (omega (arith, h))

-- one group more
one_less : (m : ℕ) (ps : List ℕ) (i : ℕ) → AllByRecursion (λ p. 1 ≤ p) ps → i < length ps → 1 ≤ left_by m (take i ps)
    → left_by m (take (suc i) ps) + 1 ≤ left_by m (take i ps)
one_less m [] i all low some = absurd (omega (arith, low))
one_less m (p ∷ ps) zero all low some = let taken = some_share m p some all.0 in omega (arith, taken)
one_less m (p ∷ ps) (suc i) all low some = one_less (m - share m p) ps i all.1 (omega (arith, low)) some

nothing_left : (m : ℕ) (ps : List ℕ) → left_by m (ps ++ 100 ∷ []) ≡ 0
nothing_left m [] = let all = all_of m in omega (arith, all)
nothing_left m (p ∷ ps) = nothing_left (m - share m p) ps

take_whole : (ps : List ℕ) → take (length ps) ps ≡ ps
take_whole [] = refl
take_whole (p ∷ ps) = ap (λ l. p ∷ l) (take_whole ps)

and_all : (ps : List ℕ) → AllByRecursion (λ p. 1 ≤ p) ps → AllByRecursion (λ p. 1 ≤ p) (ps ++ 100 ∷ [])
and_all [] all = (omega arith, tt)
and_all (p ∷ ps) all = (all.0, and_all ps all.1)

pub split_is_cut : SplitCovers
split_is_cut m ps all some =
    let qs = ps ++ 100 ∷ [] in
    record {
      begins = omega arith;
      rises = λ i k h. let less = less_left m qs i k h in omega (arith, less);
      grows = λ i low.
          let here = some i low in
          let less = one_less m qs i (and_all ps all) low here in
          let within = no_more m (take i qs) in
          let same : i + 1 ≡ suc i = omega arith in
          subst (λ n. split_last m qs i + 1 ≤ split_last m qs n) (sym same) (omega (arith, less, within, here));
      whole = let none : left_by m (take (length qs) qs) ≡ 0 = ap (left_by m) (take_whole qs) ∙ nothing_left m ps in omega (arith, none);
    }

-- none is empty where no group is the first that is
none_empty : (k m : ℕ) (ps : List ℕ) → first_empty_from k m ps ≡ None → (i : ℕ) → i < length ps → 1 ≤ left_by m (take i ps)
none_empty k m [] none i low = absurd (omega (arith, low))
none_empty k m (p ∷ ps) none i low = go (nat_eq m 0) refl none i low (none_empty (k + 1) (m - share m p) ps)
  where
    go : (b : Bool) → nat_eq m 0 ≡ b → cond b (Some k) (first_empty_from (k + 1) (m - share m p) ps) ≡ None → (i : ℕ) → i < length (p ∷ ps)
        → (first_empty_from (k + 1) (m - share m p) ps ≡ None → (i : ℕ) → i < length ps → 1 ≤ left_by (m - share m p) (take i ps))
        → 1 ≤ left_by m (take i (p ∷ ps))
    go true is none i low rest = absurd cc
    go false is none zero low rest = grind (arith, nat_tests)
    go false is none (suc i) low rest = rest none i (omega (arith, low))

pub first_empty_tells : FirstEmptyTells
first_empty_tells m ps none i low = none_empty 1 m ps none i low

-- ---- one group more

-- what a group leaves of what those before it leave
left_after : (m : ℕ) (ps : List ℕ) (i p : ℕ) → slice_get ps i ≡ Some p → left_by m (take (suc i) ps) ≡ left_by m (take i ps) - share (left_by m (take i ps)) p
left_after m [] i p got = absurd cc
left_after m (q ∷ ps) zero p got = let same : q ≡ p = cc in ap (λ n. m - share m n) same
left_after m (q ∷ ps) (suc i) p got = left_after (m - share m q) ps i p got

-- the last position of one group more, by that of those so far
pub one_further : (m : ℕ) (ps : List ℕ) (i p last taken : ℕ) → slice_get ps i ≡ Some p → last ≡ split_last m ps i → taken ≡ share (m - last) p
    → taken ≤ m - last → last + taken ≡ split_last m ps (i + 1)
one_further m ps i p last taken got is takes few =
    let within = no_more m (take i ps) in
    let rest : m - last ≡ left_by m (take i ps) = omega (arith, within, is) in
    let on : suc i ≡ i + 1 = omega arith in
    let after : left_by m (take (i + 1) ps) ≡ left_by m (take i ps) - share (left_by m (take i ps)) p =
    subst (λ k. left_by m (take k ps) ≡ left_by m (take i ps) - share (left_by m (take i ps)) p) on (left_after m ps i p got) in
    let same : taken ≡ share (left_by m (take i ps)) p = takes ∙ ap (λ k. share k p) rest in
    omega (arith, after, few, within, same, is, rest)

from_here : (ps : List ℕ) (i p : ℕ) → slice_get ps i ≡ Some p → drop i ps ≡ p ∷ drop (suc i) ps
from_here [] i p got = absurd cc
from_here (q ∷ ps) zero p got = let same : q ≡ p = cc in ap (λ n. n ∷ ps) same
from_here (q ∷ ps) (suc i) p got = from_here ps i p got

-- a group before which something is left isn't the first empty one
pub none_here : (m : ℕ) (ps : List ℕ) (i p last taken : ℕ) → slice_get ps i ≡ Some p → last < m → taken ≡ share (m - last) p → (k : ℕ)
    → first_empty_from k (m - last) (drop i ps) ≡ first_empty_from (k + 1) (m - (last + taken)) (drop (i + 1) ps)
none_here m ps i p last taken got low takes k =
    let some : nat_eq (m - last) 0 ≡ false = grind (arith, nat_tests) in
    let less : m - (last + taken) ≡ m - last - share (m - last) p = omega (arith, takes) in
    let on : i + 1 ≡ suc i = omega arith in
    rw (from_here ps i p got, some, less, on) refl

-- the bounds of one group more
abbrev pub bounds_from : ℕ → ℕ → Bounds
bounds_from last next = record { first = last + 1; last = next }

pub one_more_bounds : (m : ℕ) (ps : List ℕ) (i last next : ℕ) → last ≡ split_last m ps i → next ≡ split_last m ps (i + 1) → bounds_from last next
    ≡ split_bounds_of m ps (i + 1)
one_more_bounds m ps i last next is on =
    let back : i + 1 - 1 ≡ i = omega arith in
    λ j. record { first = (ap (λ n. n + 1) is ∙ ap (λ k. split_last m ps k + 1) (sym back)) j; last = on j }
