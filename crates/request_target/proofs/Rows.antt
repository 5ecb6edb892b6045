-- Rows after a token.
use Rattle.request_target.proofs.Common.{◌≡◌, ◌⊎◌, inl, inr, ℕ, List, [], ◌∷◌, Bool, true, false, cond, ◌==◌, Some, None, refl, arith, eqb-true}
use Rattle.request_target.proofs.Common.{nat_tests, RowsOf, own, step}
use Rattle.request_target.proofs.Meets.{In}

same : (x : ℕ) → (x == x) ≡ true
same x = grind (arith, nat_tests)

in_cond : {K : Type 0} (v : Bool) (t u : List ℕ) (k l : K) (rs : RowsOf K) → v ≡ true → (t ≡ u) × (k ≡ l) → In t k (cond v ((u, l) ∷ rs) rs)
in_cond v t u k l rs e h = grind arith

in_rest : {K : Type 0} (v : Bool) (t u : List ℕ) (k l : K) (rs : RowsOf K) → In t k rs → In t k (cond v ((u, l) ∷ rs) rs)
in_rest v t u k l rs h = grind arith

-- a row that begins with the token is there after it
pub in_step : {K : Type 0} (b : ℕ) (t : List ℕ) (k : K) (rs : RowsOf K) → In (b ∷ t) k rs → In t k (step b rs)
in_step b t k [] h = h
in_step b t k (([], l) ∷ rest) h = elim h [ inl e ↦ absurd (cc e.0) | inr later ↦ in_step b t k rest later ]
in_step b t k ((x ∷ u, l) ∷ rest) h = elim h [
  | inl e ↦
      let bx : b ≡ x = cc e.0 in
      let tu : t ≡ u = cc e.0 in
      rw (← bx) (in_cond (b == b) t u k l (step b rest) (same b) (tu, e.1))
  | inr later ↦ in_rest (x == b) t u k l (step b rest) (in_step b t k rest later)
]

from_cond : {K : Type 0} (v : Bool) (t u : List ℕ) (k l : K) (rs : RowsOf K) → In t k (cond v ((u, l) ∷ rs) rs) → ((v ≡ true) × (t ≡ u) × (k ≡ l)) ⊎ In t k rs
from_cond true t u k l rs (inl e) = inl (refl, e.0, e.1)
from_cond true t u k l rs (inr h) = inr h
from_cond false t u k l rs h = inr h

-- and the other way round
pub in_stepped : {K : Type 0} (b : ℕ) (t : List ℕ) (k : K) (rs : RowsOf K) → In t k (step b rs) → In (b ∷ t) k rs
in_stepped b t k [] h = h
in_stepped b t k (([], l) ∷ rest) h = inr (in_stepped b t k rest h)
in_stepped b t k ((x ∷ u, l) ∷ rest) h = elim (from_cond (x == b) t u k l (step b rest) h) [
  | inl e ↦
      let xb : x ≡ b = eqb-true x b e.0 in
      let tu : t ≡ u = e.1 in
      inl (cc (xb, tu), e.2)
  | inr later ↦ inr (in_stepped b t k rest later)
]

pub in_own : {K : Type 0} (k : K) (rs : RowsOf K) → own rs ≡ Some k → In [] k rs
in_own k [] e = absurd (cc)
in_own k (([], l) ∷ rest) e = inl (refl, cc)
in_own k ((x ∷ t, l) ∷ rest) e = inr (in_own k rest e)

pub not_own : {K : Type 0} (k : K) (rs : RowsOf K) → own rs ≡ None → In [] k rs → ⊥
not_own k [] e h = h
not_own k (([], l) ∷ rest) e h = absurd (cc)
not_own k ((x ∷ t, l) ∷ rest) e h = elim h [ inl q ↦ absurd (cc q.0) | inr later ↦ not_own k rest e later ]
