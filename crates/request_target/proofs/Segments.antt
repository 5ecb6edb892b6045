-- A path meets a route's tokens where the route's segments stand for its own.
use Rattle.request_target.proofs.Common.{◌≡◌, ℕ, suc, List, [], ◌∷◌, ◌++◌, length, take, drop, Bool, true, false, not, cond, ◌&&◌, ◌==◌, nat_lt, nat_eq, refl}
use Rattle.request_target.proofs.Common.{pointwise}
use Rattle.request_target.proofs.Common.{sym, ◌∙◌, ap, arith, append-nil, bytes_eq, list_all, nat_tests, segments, stands_for}
use Rattle.request_target.proofs.Common.{part_tokens, tokens, is_part}
use Rattle.request_target.proofs.Meets.{segment_len, meets}
use Rattle.request_target.proofs.Longest.{both}

-- the segments behind the first slash of this rest of a path
abbrev pub later : List ℕ → List (List ℕ)
later [] = []
later (b ∷ rest) = segments rest

-- the first segment, and those after it
pub segments_split : (path : List ℕ) → segments path ≡ take (segment_len path) path ∷ later (drop (segment_len path) path)
segments_split [] = refl
segments_split (b ∷ path) = grind (arith, segments_split path)

-- what is left behind a segment is empty or begins with a slash
abbrev IsRest : List ℕ → Type 0
IsRest [] = Unit {0}
IsRest (b ∷ rest) = (b == 47) ≡ true

rest_is : (path : List ℕ) → IsRest (drop (segment_len path) path)
rest_is [] = tt
rest_is (b ∷ path) = grind (arith, rest_is path)

-- tokens that end, or go on with a slash
abbrev IsTail : List ℕ → Type 0
IsTail [] = Unit {0}
IsTail (x ∷ t) = x ≡ 47

and_assoc : (a b c : Bool) → (a && (b && c)) ≡ ((a && b) && c)
and_assoc a b c = grind arith

-- the bytes of a word, and then a tail
pub meets_word : (word t path : List ℕ) → list_all (λ b. nat_lt b 256 && not (b == 47)) word ≡ true → IsTail t
    → meets (word ++ t) path ≡ (bytes_eq word (take (segment_len path) path) && meets t (drop (segment_len path) path))
meets_word [] t [] ok tail = refl
meets_word [] t (b ∷ path) ok tail = grind arith
meets_word (x ∷ word) t path ok tail =
    by (λ (rest : List ℕ). meets_word word t rest (both (nat_lt x 256 && not (x == 47)) (list_all (λ b. nat_lt b 256 && not (b == 47)) word) ok).1 tail) path
  where
    parts : ((nat_lt x 256 && not (x == 47)) ≡ true) × (list_all (λ b. nat_lt b 256 && not (b == 47)) word ≡ true)
    parts = both (nat_lt x 256 && not (x == 47)) (list_all (λ b. nat_lt b 256 && not (b == 47)) word) ok

    byte : (x == 256) ≡ false
    byte = grind (arith, nat_tests, parts.0)

    no_slash : (x == 47) ≡ false
    no_slash = grind (arith, nat_tests, parts.0)

    same_test : (b : ℕ) → (x == b) ≡ nat_eq x b
    same_test b = grind (arith, nat_tests)

    by : ((rest : List ℕ) → meets (word ++ t) rest ≡ (bytes_eq word (take (segment_len rest) rest) && meets t (drop (segment_len rest) rest)))
        → (path : List ℕ) → meets (x ∷ (word ++ t)) path ≡ (bytes_eq (x ∷ word) (take (segment_len path) path) && meets t (drop (segment_len path) path))
    by shorter [] = rw byte refl
    by shorter (b ∷ path) = rw (byte, same_test b) (at (b == 47) refl (shorter path))
      where
        at : (v : Bool) → (b == 47) ≡ v → meets (word ++ t) path ≡ (bytes_eq word (take (segment_len path) path) && meets t (drop (segment_len path) path))
            → (nat_eq x b && meets (word ++ t) path)
            ≡ (bytes_eq (x ∷ word) (take (cond v 0 (suc (segment_len path))) (b ∷ path)) && meets t (drop (cond v 0 (suc (segment_len path))) (b ∷ path)))
        at true is next = let other : nat_eq x b ≡ false = grind (arith, nat_tests) in rw other refl
        at false is next = rw next (and_assoc (nat_eq x b) (bytes_eq word (take (segment_len path) path)) (meets t (drop (segment_len path) path)))

-- the first segment's length
length_first : (path : List ℕ) → nat_lt 0 (length (take (segment_len path) path)) ≡ nat_lt 0 (segment_len path)
length_first path = grind arith

-- nothing is left, or there is one more segment
at_end : (q : List ℕ) → meets [] q ≡ pointwise stands_for [] (later q)
at_end q = grind (arith, segments_split)

-- a part and a tail
meets_part : (part t path : List ℕ) → is_part part ≡ true → IsTail t
    → meets (part_tokens part ++ t) path ≡ (stands_for part (take (segment_len path) path) && meets t (drop (segment_len path) path))
meets_part part t path ok tail = grind (arith, length_first, meets_word)

-- the tokens of a route's parts
pub meets_tokens : (part : List ℕ) (parts : List (List ℕ)) (path : List ℕ) → list_all is_part (part ∷ parts) ≡ true
    → meets (tokens (part ∷ parts)) path ≡ pointwise stands_for (part ∷ parts) (segments path)
meets_tokens part [] path ok = rw (segments_split path) (alone (both (is_part part) true ok).0)
  where
    alone : is_part part ≡ true → meets (part_tokens part) path
        ≡ (stands_for part (take (segment_len path) path) && pointwise stands_for [] (later (drop (segment_len path) path)))
    alone one = sym (ap (λ t. meets t path) (append-nil (part_tokens part))) ∙ meets_part part [] path one tt
        ∙ ap (λ v. stands_for part (take (segment_len path) path) && v) (at_end (drop (segment_len path) path))
meets_tokens part (next ∷ rest) path ok =
    let parts_ok = both (is_part part) (list_all is_part (next ∷ rest)) ok in
    rw (segments_split path) (meets_part part (47 ∷ tokens (next ∷ rest)) path parts_ok.0 refl
    ∙ ap (λ v. stands_for part (take (segment_len path) path) && v)
    (goes_on (drop (segment_len path) path) (rest_is path) (λ (p : List ℕ). meets_tokens next rest p parts_ok.1)))
  where
    goes_on : (q : List ℕ) → IsRest q → ((p : List ℕ) → meets (tokens (next ∷ rest)) p ≡ pointwise stands_for (next ∷ rest) (segments p))
        → meets (47 ∷ tokens (next ∷ rest)) q
        ≡ pointwise stands_for (next ∷ rest) (later q)
    goes_on [] slash shorter = refl
    goes_on (b ∷ q) slash shorter = let is : (47 == b) ≡ true = grind (arith, nat_tests) in rw is (shorter q)
