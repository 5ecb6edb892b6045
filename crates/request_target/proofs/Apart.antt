-- A path meets one route at most.
use Rattle.request_target.proofs.Common.{◌≡◌, ◌⊎◌, inl, inr, ℕ, List, [], ◌∷◌, drop, Bool, true, false, not, cond, ◌&&◌, ◌==◌, Some, None, refl, sym}
use Rattle.request_target.proofs.Common.{◌∙◌, ap, arith, false≢true, eqb-true, nat_tests, RowsOf, first, apart, apart_from, all_apart, all_plain}
use Rattle.request_target.proofs.Meets.{segment_len, is_empty, begins, meets, met_row, all_bytes, In}
use Rattle.request_target.proofs.Longest.{both}
use Rattle.request_target.proofs.Found.{first_found}

-- a pattern with a token meets no empty path
not_empty : (x : ℕ) (t path : List ℕ) → is_empty path ≡ true → meets (x ∷ t) path ≡ true → ⊥
not_empty x t path e m = grind arith

begins_one : (x y : ℕ) (path : List ℕ) → begins x path ≡ true → begins y path ≡ true → x ≡ y
begins_one x y path p q = grind (arith, eqb-true)

pub not_both : (t u path : List ℕ) → apart t u ≡ true → meets t path ≡ true → meets u path ≡ true → ⊥
not_both [] [] path h m n = false≢true h
not_both [] (y ∷ u) path h m n = not_empty y u path m n
not_both (x ∷ t) [] path h m n = not_empty x t path n m
not_both (x ∷ t) (y ∷ u) path h m n = by (x == y) refl h (not_both t u (drop (segment_len path) path)) (not_both t u (drop 1 path))
  where
    by : (v : Bool) → (x == y) ≡ v → cond v (apart t u) (not (x == 256) && not (y == 256)) ≡ true
        → (apart t u ≡ true → meets t (drop (segment_len path) path) ≡ true → meets u (drop (segment_len path) path) ≡ true → ⊥)
        → (apart t u ≡ true → meets t (drop 1 path) ≡ true → meets u (drop 1 path) ≡ true → ⊥) → ⊥
    by true e h after next = same (x == 256) refl
      where
        is : x ≡ y
        is = eqb-true x y e

        same : (v : Bool) → (x == 256) ≡ v → ⊥
        same true q =
            let q' : (y == 256) ≡ true = rw is at q in
            after h (both _ _ (rw q at m)).1 (both _ _ (rw q' at n)).1
        same false q =
            let q' : (y == 256) ≡ false = rw is at q in
            next h (both _ _ (rw q at m)).1 (both _ _ (rw q' at n)).1
    by false e h after next =
        let parts = both (not (x == 256)) (not (y == 256)) h in
        let xn : (x == 256) ≡ false = not_true (x == 256) parts.0 in
        let yn : (y == 256) ≡ false = not_true (y == 256) parts.1 in
        let one = (both _ _ (rw xn at m)).0 in
        let other = (both _ _ (rw yn at n)).0 in
        let is : x ≡ y = begins_one x y path one other in
        let bad : (y == y) ≡ false = rw is at e in
        let itself : (y == y) ≡ true = grind (arith, nat_tests) in
        false≢true (sym bad ∙ itself)
      where
        not_true : (v : Bool) → not v ≡ true → v ≡ false
        not_true true q = absurd (false≢true q)
        not_true false q = refl

apart_in : {K : Type 0} (t u : List ℕ) (l : K) (rs : RowsOf K) → apart_from t rs ≡ true → In u l rs → apart t u ≡ true
apart_in t u l [] h at = absurd at
apart_in t u l ((w, k) ∷ rest) h at =
    let parts = both (apart t w) (apart_from t rest) h in
    elim at [ inl e ↦ rw e.0 parts.0 | inr later ↦ apart_in t u l rest parts.1 later ]

-- the row that is found is the one that is met
met_is : {K : Type 0} (rs : RowsOf K) (path t : List ℕ) (k : K) → all_apart rs ≡ true → In t k rs → meets t path ≡ true → Some k ≡ met_row rs path
met_is [] path t k h at m = absurd at
met_is {K} ((u, l) ∷ rest) path t k h at m =
    by (meets u path) refl at (λ (later : In t k rest). met_is rest path t k (both (apart_from u rest) (all_apart rest) h).1 later m)
  where
    parts : (apart_from u rest ≡ true) × (all_apart rest ≡ true)
    parts = both (apart_from u rest) (all_apart rest) h

    by : (v : Bool) → meets u path ≡ v → ((t ≡ u) × (k ≡ l)) ⊎ In t k rest → (In t k rest → Some k ≡ met_row rest path) → Some k
        ≡ cond v (Some l) (met_row rest path)
    by true e (inl one) next = ap (λ (x : K). Some x) one.1
    by true e (inr later) next = absurd (not_both u t path (apart_in u t k rest parts.0 later) e m)
    by false e (inl one) next = absurd (false≢true (sym e ∙ (rw one.0 at m)))
    by false e (inr later) next = next later

none_is : {K : Type 0} (rs : RowsOf K) (path : List ℕ) → ((t : List ℕ) (k : K) → In t k rs → meets t path ≡ true → ⊥) → None ≡ met_row rs path
none_is [] path none = refl
none_is {K} ((u, l) ∷ rest) path none = by (meets u path) refl (none_is rest path (λ t k at m. none t k (inr at) m))
  where
    by : (v : Bool) → meets u path ≡ v → None ≡ met_row rest path → None ≡ cond v (Some l) (met_row rest path)
    by true e later = absurd (none u l (inl (refl, refl)) e)
    by false e later = later

-- a router's answer, by the patterns alone
pub first_is : {K : Type 0} (rs : RowsOf K) (path : List ℕ) → all_bytes path ≡ true → all_plain rs ≡ true → all_apart rs ≡ true → first rs path
    ≡ met_row rs path
first_is rs path bytes plain apart = grind (arith, met_is, none_is, first_found)
