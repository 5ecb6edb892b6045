-- What a walk finds is a row that the path meets.
use Rattle.request_target.proofs.Common.{◌≡◌, ◌<◌, ◌≤◌, inl, inr, ℕ, zero, suc, ◌-◌, List, [], ◌∷◌, length, drop, Bool, true, false, cond, ◌&&◌, ◌==◌, ltb}
use Rattle.request_target.proofs.Common.{Option, Some, None, refl, sym, ◌∙◌, ap, arith, get_or, false≢true, eqb-true, ltb-true, lt-ltb, nat_tests}
use Rattle.request_target.proofs.Common.{RowsOf, own, step, or_else, has_slash, with_suffix, param_step, first, is_plain, all_plain}
use Rattle.matchit.specs.Seek.{seek}
use Rattle.request_target.proofs.Meets.{all_bytes, segment_len, meets, all_open, some_goes_on, In}
use Rattle.std.proofs.Math.Seq.{drop-length}
use Rattle.std.proofs.lemmas.List.{length-drop}
use Rattle.request_target.proofs.Longest.{both, segment_with_none}
use Rattle.request_target.proofs.Rows.{in_step, in_stepped, in_own, not_own}
use Rattle.request_target.proofs.Param.{param_none, param_slash, seek_of_none, seek_drop}

both_true : (a b : Bool) → a ≡ true → b ≡ true → (a && b) ≡ true
both_true a b p q = grind arith

-- the answer is a row that the path meets, or none does
abbrev pub Found : {K : Type 0} → (List ℕ → Bool) → RowsOf K → Option K → Type 0
Found {K} met rs (Some k) = (t : List ℕ) × In t k rs × (met t ≡ true)
Found {K} met rs None = (t : List ℕ) (k : K) → In t k rs → met t ≡ true → ⊥

none_own : {K : Type 0} (rs : RowsOf K) → own rs ≡ None → (t : List ℕ) (k : K) → In t k rs → meets t [] ≡ true → ⊥
none_own rs e [] k h m = not_own k rs e h
none_own rs e (x ∷ u) k h m = grind arith

none_byte : {K : Type 0} (rs : RowsOf K) (b : ℕ) (p : List ℕ) → Found (λ t. meets t p) (step b rs) None
    → Found (λ t. meets (256 ∷ t) (b ∷ p)) (step 256 rs) None → (t : List ℕ) (k : K) → In t k rs → meets t (b ∷ p) ≡ true → ⊥
none_byte rs b p none after [] k h m = false≢true m
none_byte {K} rs b p none after (x ∷ u) k h m = by (x == 256) refl
  where
    by : (v : Bool) → (x == 256) ≡ v → ⊥
    by true e =
        let is : x ≡ 256 = eqb-true x 256 e in
        after u k (in_step 256 u k rs (rw is at h)) (rw is at m)
    by false e =
        let parts = both (x == b) (meets u p) (rw e at m) in
        let is : x ≡ b = eqb-true x b parts.0 in
        none u k (in_step b u k rs (rw is at h)) parts.1

pub found_own : {K : Type 0} (rs : RowsOf K) (o : Option K) → own rs ≡ o → Found (λ t. meets t []) rs o
found_own rs o e = grind (arith, in_own, none_own)

-- three ways on from a byte
pub found_byte : {K : Type 0} (rs : RowsOf K) (b : ℕ) (p : List ℕ) (bytes later : Option K) → b < 256
    → Found (λ t. meets t p) (step b rs) bytes → Found (λ t. meets (256 ∷ t) (b ∷ p)) (step 256 rs) later
    → Found (λ t. meets t (b ∷ p)) rs (or_else bytes later)
found_byte rs b p (Some k) later byte (t, at, met) after = (
  b ∷ t,
  in_stepped b t k rs at,
  (
      let other : (b == 256) ≡ false = grind (arith, nat_tests) in
      let same : (b == b) ≡ true = grind (arith, nat_tests) in
      rw (other, same) met),
)
found_byte rs b p None (Some k) byte none (t, at, met) = (256 ∷ t, in_stepped 256 t k rs at, met)
found_byte rs b p None None byte none after = none_byte rs b p none after

-- after a parameter, where a slash follows
starts_slash : (p : List ℕ) → has_slash p ≡ true → (q : List ℕ) × (drop (segment_len p) p ≡ 47 ∷ q)
starts_slash [] e = absurd (false≢true e)
starts_slash (b ∷ p) e = by (b == 47) refl e (starts_slash p)
  where
    by : (v : Bool) → (b == 47) ≡ v → cond v true (has_slash p) ≡ true → (has_slash p ≡ true → (q : List ℕ) × (drop (segment_len p) p ≡ 47 ∷ q)) → (q : List ℕ)
        × (drop (cond v 0 (suc (segment_len p))) (b ∷ p) ≡ 47 ∷ q)
    by true is e later = let same : b ≡ 47 = eqb-true b 47 is in (p, ap (λ x. x ∷ p) same)
    by false is e later = later e

-- the rows that go on with a slash
in_suffix : {K : Type 0} (x : ℕ) (t : List ℕ) (k : K) (rs : RowsOf K) → all_open rs ≡ true → In (x ∷ t) k rs → In (x ∷ t) k (with_suffix (47 ∷ []) rs)
in_suffix x t k [] opened h = h
in_suffix x t k (([], l) ∷ rest) opened h = elim h [ inl e ↦ absurd (cc e.0) | inr later ↦ in_suffix x t k rest opened later ]
in_suffix x t k ((y ∷ u, l) ∷ rest) opened h =
    let parts = both (y == 47) (all_open rest) opened in
    let is : y ≡ 47 = eqb-true y 47 parts.0 in
    rw (parts.0, parts.0) (elim h [ inl e ↦ inl e | inr later ↦ inr (in_suffix x t k rest parts.1 later) ])

suffix_in : {K : Type 0} (t : List ℕ) (k : K) (rs : RowsOf K) → all_open rs ≡ true → In t k (with_suffix (47 ∷ []) rs) → In t k rs
suffix_in t k [] opened h = h
suffix_in t k (([], l) ∷ rest) opened h = inr (suffix_in t k rest opened h)
suffix_in t k ((y ∷ u, l) ∷ rest) opened h =
    let parts = both (y == 47) (all_open rest) opened in
    let found = rw (parts.0, parts.0) at h in
    elim found [ inl e ↦ inl e | inr later ↦ inr (suffix_in t k rest parts.1 later) ]

pub found_same : {K : Type 0} (m n : List ℕ → Bool) → ((t : List ℕ) → m t ≡ n t) → (rs : RowsOf K) (o : Option K) → Found m rs o → Found n rs o
found_same m n is rs o none = grind arith

-- a parameter that takes the rest of the path
pub found_last : {K : Type 0} (rs : RowsOf K) (b : ℕ) (p : List ℕ) → all_open rs ≡ true → has_slash (b ∷ p) ≡ false
    → Found (λ t. meets (256 ∷ t) (b ∷ p)) rs (seek ((param_step rs (b ∷ p)).0 - 1) (param_step rs (b ∷ p)).1 p)
unfolding seek
found_last rs b p opened e =
    let one : length (b ∷ p) - 1 ≡ length p = omega arith in
    let some : ltb 0 (length (b ∷ p)) ≡ true = grind (arith, nat_tests) in
    let all : segment_len (b ∷ p) ≡ length (b ∷ p) = (segment_with_none (b ∷ p) e).1 in
    rw (param_none rs b p opened e, one, seek_drop (length p) rs p, drop-length p)
    (found_same (λ t. meets t []) (λ t. meets (256 ∷ t) (b ∷ p)) (λ t. rw (all, some, drop-length) refl) rs (own rs) (found_own rs (own rs) refl))

from_suffix : {K : Type 0} (rs : RowsOf K) (p q : List ℕ) → all_open rs ≡ true → p ≡ 47 ∷ q → (o : Option K)
    → Found (λ t. meets t p) (with_suffix (47 ∷ []) rs) o → Found (λ t. meets t p) rs o
from_suffix rs p q opened is (Some k) (t, at, met) = (t, suffix_in t k rs opened at, met)
from_suffix {K} rs p q opened is None none = by
  where
    by : (t : List ℕ) (k : K) → In t k rs → meets t p ≡ true → ⊥
    by [] k h m = false≢true (rw is at m)
    by (x ∷ u) k h m = none (x ∷ u) k (in_suffix x u k rs opened h) m

none_goes_on : {K : Type 0} (rs : RowsOf K) → some_goes_on rs ≡ false → (x : ℕ) (t : List ℕ) (k : K) → In (x ∷ t) k rs → ⊥
none_goes_on [] e x t k h = h
none_goes_on (([], l) ∷ rest) e x t k h = elim h [ inl q ↦ absurd (cc q.0) | inr later ↦ none_goes_on rest e x t k later ]
none_goes_on ((y ∷ u, l) ∷ rest) e x t k h = false≢true (sym e)

drop_on : (n b : ℕ) (p : List ℕ) → ltb 0 n ≡ true → drop (n - 1) p ≡ drop n (b ∷ p)
drop_on n b p e = grind arith

plain_suffix : {K : Type 0} (rs : RowsOf K) → all_open rs ≡ true → all_plain rs ≡ true → all_plain (with_suffix (47 ∷ []) rs) ≡ true
plain_suffix [] opened plain = refl
plain_suffix (([], l) ∷ rest) opened plain = plain_suffix rest opened plain
plain_suffix ((y ∷ u, l) ∷ rest) opened plain =
    let parts = both (y == 47) (all_open rest) opened in
    let plains = both (is_plain (y ∷ u)) (all_plain rest) plain in
    rw (parts.0, parts.0) (both_true (is_plain (y ∷ u)) _ plains.0 (plain_suffix rest parts.1 plains.1))

-- a parameter that takes one segment of several
pub found_going : {K : Type 0} (rs : RowsOf K) (b : ℕ) (p : List ℕ) → all_open rs ≡ true → all_plain rs ≡ true → has_slash (b ∷ p) ≡ true
    → ((S : RowsOf K) (i : ℕ) → all_plain S ≡ true → Found (λ t. meets t (drop i p)) S (seek 0 S (drop i p)))
    → Found (λ t. meets (256 ∷ t) (b ∷ p)) rs (seek ((param_step rs (b ∷ p)).0 - 1) (param_step rs (b ∷ p)).1 p)
found_going {K} rs b p opened plain e shorter = rw (param_slash rs b p opened e) (by (ltb 0 (segment_len (b ∷ p))) (some_goes_on rs) refl refl)
  where
    rest_is : (q : List ℕ) × (drop (segment_len (b ∷ p)) (b ∷ p) ≡ 47 ∷ q)
    rest_is = starts_slash (b ∷ p) e

    by : (v g : Bool) → ltb 0 (segment_len (b ∷ p)) ≡ v → some_goes_on rs ≡ g
        → Found (λ t. meets (256 ∷ t) (b ∷ p)) rs
        (seek ((cond {A = ℕ × RowsOf K} (v && g) (segment_len (b ∷ p), with_suffix (47 ∷ []) rs) (0, [])).0 - 1)
        (cond {A = ℕ × RowsOf K} (v && g) (segment_len (b ∷ p), with_suffix (47 ∷ []) rs) (0, [])).1 p)
    by false g ev eg = rw (seek_of_none {K = K} (0 - 1) p) (λ t k h m. false≢true (sym ev ∙ (both _ _ m).0))
    by true false ev eg = rw (seek_of_none {K = K} (0 - 1) p) (λ t k h m. no_row t k h (both _ _ m).1)
      where
        no_row : (t : List ℕ) (k : K) → In t k rs → meets t (drop (segment_len (b ∷ p)) (b ∷ p)) ≡ true → ⊥
        no_row [] k h m = false≢true (rw rest_is.1 at m)
        no_row (x ∷ u) k h m = none_goes_on rs eg x u k h
    by true true ev eg =
        let W = with_suffix (47 ∷ []) rs in
        let n = segment_len (b ∷ p) in
        let on : drop (n - 1) p ≡ drop n (b ∷ p) = drop_on n b p ev in
        let q_is : drop (n - 1) p ≡ 47 ∷ rest_is.0 = on ∙ rest_is.1 in
        let below = shorter W (n - 1) (plain_suffix rs opened plain) in
        rw (seek_drop (n - 1) W p)
        (found_same (λ t. meets t (drop (n - 1) p)) (λ t. meets (256 ∷ t) (b ∷ p)) (λ t. rw (on, ev) refl) rs _
        (from_suffix rs (drop (n - 1) p) rest_is.0 opened q_is _ below))

found_param : {K : Type 0} (rs : RowsOf K) (b : ℕ) (p : List ℕ) → all_open rs ≡ true → all_plain rs ≡ true
    → ((S : RowsOf K) (i : ℕ) → all_plain S ≡ true → Found (λ t. meets t (drop i p)) S (seek 0 S (drop i p)))
    → Found (λ t. meets (256 ∷ t) (b ∷ p)) rs (seek ((param_step rs (b ∷ p)).0 - 1) (param_step rs (b ∷ p)).1 p)
found_param {K} rs b p opened plain shorter = by (has_slash (b ∷ p)) refl
  where
    by : (v : Bool) → has_slash (b ∷ p) ≡ v → Found (λ t. meets (256 ∷ t) (b ∷ p)) rs (seek ((param_step rs (b ∷ p)).0 - 1) (param_step rs (b ∷ p)).1 p)
    by true e = found_going rs b p opened plain e shorter
    by false e = found_last rs b p opened e

plain_step : {K : Type 0} (b : ℕ) (rs : RowsOf K) → all_plain rs ≡ true → all_plain (step b rs) ≡ true
plain_step b [] plain = refl
plain_step b (([], k) ∷ rest) plain = plain_step b rest plain
plain_step b ((x ∷ t, k) ∷ rest) plain = grind (arith, plain_step b rest, both, both_true)

open_step : {K : Type 0} (rs : RowsOf K) → all_plain rs ≡ true → all_open (step 256 rs) ≡ true
open_step [] plain = refl
open_step (([], k) ∷ rest) plain = open_step rest plain
open_step {K} ((x ∷ t, k) ∷ rest) plain = grind (arith, nat_tests, open_step rest (both (is_plain (x ∷ t)) (all_plain rest) plain).1, both_true)

-- no plain pattern takes the rest of a path
no_rest : {K : Type 0} (rs : RowsOf K) → all_plain rs ≡ true → own (step 257 rs) ≡ None
no_rest [] plain = refl
no_rest (([], k) ∷ rest) plain = no_rest rest plain
no_rest {K} ((x ∷ t, k) ∷ rest) plain = by (x == 257) refl (both (is_plain (x ∷ t)) (all_plain rest) plain).0
    (no_rest rest (both (is_plain (x ∷ t)) (all_plain rest) plain).1)
  where
    by : (v : Bool) → (x == 257) ≡ v → is_plain (x ∷ t) ≡ true → own (step 257 rest) ≡ None → own (cond v ((t, k) ∷ step 257 rest) (step 257 rest)) ≡ None
    by true e h later =
        let is : x ≡ 257 = eqb-true x 257 e in
        let bad : false ≡ true = rw is at h in absurd (false≢true bad)
    by false e h later = later

or_else_none : {K : Type 0} (o : Option K) → or_else o None ≡ o
or_else_none o = grind arith

bytes_drop : (i : ℕ) (p : List ℕ) → all_bytes p ≡ true → all_bytes (drop i p) ≡ true
bytes_drop zero p h = h
bytes_drop (suc i) [] h = h
bytes_drop (suc i) (b ∷ p) h = bytes_drop i p (both (ltb b 256) (all_bytes p) h).1

walk_found : {K : Type 0} (n : ℕ) (rs : RowsOf K) (path : List ℕ) → length path ≤ n → all_bytes path ≡ true → all_plain rs ≡ true
    → Found (λ t. meets t path) rs (seek 0 rs path)
unfolding seek
walk_found n rs [] short bytes plain = found_own rs (own rs) refl
walk_found zero rs (b ∷ p) short bytes plain = absurd (omega arith)
walk_found {K} (suc n) rs (b ∷ p) short bytes plain =
    let parts = both (ltb b 256) (all_bytes p) bytes in
    let byte : b < 256 = ltb-true b 256 parts.0 in
    rw (no_rest rs plain, or_else_none) (found_byte rs b p _ _ byte (walk_found n (step b rs) p (omega arith) parts.1 (plain_step b rs plain))
    (found_param (step 256 rs) b p (open_step rs plain) (plain_step 256 rs plain)
    (λ (S : RowsOf K) (i : ℕ) (h : all_plain S ≡ true). walk_found n S (drop i p) (omega (arith, length-drop i p)) (bytes_drop i p parts.1) h)))

-- the route of a path is one that the path meets, and there is none only where no route does
pub first_found : {K : Type 0} (rs : RowsOf K) (path : List ℕ) → all_bytes path ≡ true → all_plain rs ≡ true → Found (λ t. meets t path) rs (first rs path)
first_found rs path bytes plain = walk_found (length path) rs path (omega arith) bytes plain

pub all_bytes_from : (p : List ℕ) → ((i : ℕ) → get_or p i 0 < 256) → all_bytes p ≡ true
all_bytes_from [] h = refl
all_bytes_from (b ∷ p) h =
    let below : b < 256 = h 0 in
    both_true (ltb b 256) (all_bytes p) (lt-ltb b 256 below) (all_bytes_from p (λ i. h (suc i)))
