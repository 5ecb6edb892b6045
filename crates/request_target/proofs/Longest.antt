-- The suffix that a parameter leaves: a slash or nothing.
use Rattle.request_target.proofs.Common.{◌≡◌, ℕ, suc, ◌-◌, ◌<◌, List, [], ◌∷◌, length, drop, Bool, true, false, cond, ◌&&◌, ◌||◌, ◌==◌, ltb, nat_eq, refl}
use Rattle.request_target.proofs.Common.{◌∙◌, arith, false≢true, eqb-true, nat_tests, RowsOf, segment, has_slash, cuts, longest_from}
use Rattle.std.specs.Cmp.Lexicographic.{pointwise}
use Rattle.request_target.proofs.Meets.{segment_len, all_open, some_goes_on}

pub both : (a b : Bool) → (a && b) ≡ true → (a ≡ true) × (b ≡ true)
both a b h = grind arith

abbrev pub slash_if : Bool → List ℕ
slash_if true = 47 ∷ []
slash_if false = []

or_self : (c d : Bool) → (c || (c && d)) ≡ c
or_self c d = grind arith

no_more : (c : Bool) → (c && false) ≡ false
no_more c = grind arith

and_true : (c : Bool) → (c && true) ≡ c
and_true c = grind arith

if_slash : (c : Bool) → cond c (47 ∷ []) [] ≡ slash_if c
if_slash c = grind arith

pub longest_is : {K : Type 0} (seg : List ℕ) (v : Bool) (rs : RowsOf K) → all_open rs ≡ true → longest_from seg (slash_if v) rs
    ≡ slash_if (v || (cuts seg (47 ∷ []) && some_goes_on rs))
longest_is seg true [] opened = refl
longest_is seg false [] opened = rw no_more refl
longest_is seg v (([], k) ∷ rest) opened = grind (arith, longest_is seg v rest opened)
longest_is seg true ((x ∷ t, k) ∷ rest) opened = grind (arith, longest_is seg true rest, both, eqb-true)
longest_is seg false ((x ∷ t, k) ∷ rest) opened =
    let parts = both (x == 47) (all_open rest) opened in
    let is : x ≡ 47 = eqb-true x 47 parts.0 in
    rw (is, if_slash) (longest_is seg (cuts seg (47 ∷ [])) rest parts.1 ∙ rw (or_self (cuts seg (47 ∷ [])) (some_goes_on rest), and_true) refl)

lone_byte : (b : ℕ) → pointwise nat_eq (47 ∷ []) (b ∷ []) ≡ (b == 47)
lone_byte b = and_true (nat_eq 47 b) ∙ grind (arith, nat_tests)

pub segment_some : (c : ℕ) (p : List ℕ) → 0 < length (segment (c ∷ p))
segment_some c p = elim (c == 47) as (λ v. 0 < length (cond v (c ∷ []) (c ∷ segment p))) [ true ↦ omega arith | false ↦ omega arith ]

drop_last : (b : ℕ) (xs : List ℕ) → 0 < length xs → drop (length (b ∷ xs) - 1) (b ∷ xs) ≡ drop (length xs - 1) xs
drop_last b xs some = grind arith

-- the last byte of a segment
pub last_is : (b : ℕ) (p : List ℕ) → pointwise nat_eq (47 ∷ []) (drop (length (segment (b ∷ p)) - 1) (segment (b ∷ p))) ≡ has_slash (b ∷ p)
last_is b [] = grind (arith, lone_byte)
last_is b (c ∷ p) = by (b == 47) refl (last_is c p)
  where
    by : (v : Bool) → (b == 47) ≡ v → pointwise nat_eq (47 ∷ []) (drop (length (segment (c ∷ p)) - 1) (segment (c ∷ p))) ≡ has_slash (c ∷ p)
        → pointwise nat_eq (47 ∷ []) (drop (length (cond v (b ∷ []) (b ∷ segment (c ∷ p))) - 1) (cond v (b ∷ []) (b ∷ segment (c ∷ p))))
        ≡ cond v true (has_slash (c ∷ p))
    by true e later = lone_byte b ∙ e
    by false e later = rw (drop_last b (segment (c ∷ p)) (segment_some c p)) later

-- how long a segment is
pub segment_with_slash : (p : List ℕ) → has_slash p ≡ true → length (segment p) ≡ suc (segment_len p)
segment_with_slash [] e = absurd (false≢true e)
segment_with_slash (b ∷ p) e = grind (arith, segment_with_slash p)

pub segment_with_none : (p : List ℕ) → has_slash p ≡ false → (segment p ≡ p) × (segment_len p ≡ length p)
segment_with_none [] e = (refl, refl)
segment_with_none (b ∷ p) e = grind (arith, segment_with_none p)

one_more : (n : ℕ) → ltb 1 (suc n) ≡ ltb 0 n
one_more n = grind (arith, nat_tests)

-- a parameter leaves the slash where one follows and the segment has a byte before it
pub cuts_with_slash : (b : ℕ) (p : List ℕ) → has_slash (b ∷ p) ≡ true → cuts (segment (b ∷ p)) (47 ∷ []) ≡ ltb 0 (segment_len (b ∷ p))
cuts_with_slash b p e = grind (arith, last_is, and_true, segment_with_slash, one_more)

pub cuts_with_none : (b : ℕ) (p : List ℕ) → has_slash (b ∷ p) ≡ false → cuts (segment (b ∷ p)) (47 ∷ []) ≡ false
cuts_with_none b p e = rw (last_is b p, e) (no_more _)
