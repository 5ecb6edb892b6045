-- The step over a parameter.
use Rattle.request_target.proofs.Common.{◌≡◌, ℕ, zero, suc, ◌-◌, List, [], ◌∷◌, length, drop, Bool, true, false, cond, ◌&&◌, ltb, None, refl, arith, RowsOf}
use Rattle.request_target.proofs.Common.{segment, has_slash, with_suffix}
use Rattle.matchit.specs.Seek.{param_step, seek}
use Rattle.request_target.proofs.Meets.{segment_len, all_open, some_goes_on}
use Rattle.request_target.proofs.Longest.{slash_if, longest_is, cuts_with_none, cuts_with_slash, segment_with_slash}

pub param_none : {K : Type 0} (rs : RowsOf K) (b : ℕ) (p : List ℕ) → all_open rs ≡ true → has_slash (b ∷ p) ≡ false → param_step rs (b ∷ p)
    ≡ (length (b ∷ p), rs)
unfolding param_step
param_none rs b p opened e = rw (longest_is (segment (b ∷ p)) false rs opened, cuts_with_none b p e, e) refl

chosen : {K : Type 0} (w : Bool) (rs : RowsOf K) (len n : ℕ) → len ≡ suc n
    → ◌≡◌ {A = ℕ × RowsOf K} (cond (ltb 0 (length (slash_if w))) (len - length (slash_if w), with_suffix (slash_if w) rs) (0, []))
    (cond w (n, with_suffix (47 ∷ []) rs) (0, []))
chosen w rs len n e = grind arith

pub param_slash : {K : Type 0} (rs : RowsOf K) (b : ℕ) (p : List ℕ) → all_open rs ≡ true → has_slash (b ∷ p) ≡ true → param_step rs (b ∷ p)
    ≡ cond (ltb 0 (segment_len (b ∷ p)) && some_goes_on rs) (segment_len (b ∷ p), with_suffix (47 ∷ []) rs) (0, [])
unfolding param_step
param_slash rs b p opened e =
    rw (longest_is (segment (b ∷ p)) false rs opened, cuts_with_slash b p e, e)
    (chosen (ltb 0 (segment_len (b ∷ p)) && some_goes_on rs) rs (length (segment (b ∷ p))) (segment_len (b ∷ p)) (segment_with_slash (b ∷ p) e))

step_of_none : {K : Type 0} (p : List ℕ) → (param_step {K = K} [] p).1 ≡ []
unfolding param_step
step_of_none {K} p = elim (has_slash p) as (λ v. (cond {A = ℕ × RowsOf K} v (0, []) (length p, [])).1 ≡ []) [ true ↦ refl | false ↦ refl ]

pub seek_of_none : {K : Type 0} (k : ℕ) (p : List ℕ) → seek {K = K} k [] p ≡ None
unfolding seek
seek_of_none k [] = refl
seek_of_none (suc k) (b ∷ p) = seek_of_none k p
seek_of_none {K} zero (b ∷ p) = simp (seek_of_none {K = K} 0 p, step_of_none {K = K} (b ∷ p), seek_of_none {K = K} (((param_step {K = K} [] (b ∷ p)).0) - 1) p)

pub seek_drop : {K : Type 0} (k : ℕ) (rs : RowsOf K) (p : List ℕ) → seek k rs p ≡ seek 0 rs (drop k p)
unfolding seek
seek_drop zero rs p = refl
seek_drop (suc k) rs [] = refl
seek_drop (suc k) rs (b ∷ p) = seek_drop k rs p
