-- Words in byte order: how they lie to each other, as they are compared, and in lists.
use Rattle.desk_reads.proofs.Common.{◌≡◌, ◌&&◌, ℕ, zero, suc, Bool, true, false, List, [], ◌∷◌, take, drop, refl, sym, ◌∙◌, arith, and_parts, and_from}
use Rattle.desk_reads.proofs.Common.{list_all, in_byte_order, same_bytes, Bytes}
use Rattle.std.specs.Prelude.{◌++◌}
use Rattle.std.specs.Cmp.Lexicographic.{slice_cmp}
use Rattle.std.specs.Ordering.{nat_cmp}
use Rattle.std.specs.declared.cmp.Ordering.TheVariants.{Equal, Greater, Less}
use Rattle.std.proofs.lemmas.Bool.Decides.{nat_tests}
use Rattle.rollout_machine.specs.ByteStrings.{bytes_below}

-- ---- two words

pub below_itself : (a : Bytes) → bytes_below a a ≡ false
below_itself [] = refl
below_itself (x ∷ xs) = grind (arith, nat_tests, below_itself xs)

pub not_back : (a b : Bytes) → bytes_below a b ≡ true → bytes_below b a ≡ false
not_back a [] below = absurd cc
not_back [] (y ∷ ys) below = refl
not_back (x ∷ xs) (y ∷ ys) below = grind (arith, nat_tests, not_back xs ys)

-- what is above a word is above each word up to it, and what comes up to a word is below what is above that
pub below_through : (a b c : Bytes) → bytes_below a b ≡ true → bytes_below c b ≡ false → bytes_below a c ≡ true
below_through a [] c above not_below = absurd cc
below_through [] (y ∷ ys) [] above not_below = absurd cc
below_through [] (y ∷ ys) (z ∷ zs) above not_below = refl
below_through (x ∷ xs) (y ∷ ys) [] above not_below = absurd cc
below_through (x ∷ xs) (y ∷ ys) (z ∷ zs) above not_below = grind (arith, nat_tests, below_through xs ys zs)

pub below_under : (a b c : Bytes) → bytes_below a b ≡ true → bytes_below a c ≡ false → bytes_below c b ≡ true
below_under a [] c above not_above = absurd cc
below_under [] (y ∷ ys) [] above not_above = refl
below_under [] (y ∷ ys) (z ∷ zs) above not_above = absurd cc
below_under (x ∷ xs) (y ∷ ys) [] above not_above = refl
below_under (x ∷ xs) (y ∷ ys) (z ∷ zs) above not_above = grind (arith, nat_tests, below_under xs ys zs)

pub below_other : (a b : Bytes) → bytes_below a b ≡ true → same_bytes a b ≡ false
below_other a [] below = absurd cc
below_other [] (y ∷ ys) below = refl
below_other (x ∷ xs) (y ∷ ys) below = grind (arith, nat_tests, below_other xs ys)

pub below_another : (a b : Bytes) → bytes_below a b ≡ true → same_bytes b a ≡ false
below_another a [] below = absurd cc
below_another [] (y ∷ ys) below = refl
below_another (x ∷ xs) (y ∷ ys) below = grind (arith, nat_tests, below_another xs ys)

-- as they are compared
pub compared_less : (a b : Bytes) → slice_cmp nat_cmp a b ≡ Less → (bytes_below b a ≡ false) × (same_bytes a b ≡ false)
compared_less a b is = (go a b is, other a b is)
  where
    go : (a b : Bytes) → slice_cmp nat_cmp a b ≡ Less → bytes_below b a ≡ false
    go [] [] is = absurd cc
    go [] (y ∷ ys) is = refl
    go (x ∷ xs) [] is = absurd cc
    go (x ∷ xs) (y ∷ ys) is = grind (arith, nat_tests, go xs ys)

    other : (a b : Bytes) → slice_cmp nat_cmp a b ≡ Less → same_bytes a b ≡ false
    other [] [] is = absurd cc
    other [] (y ∷ ys) is = refl
    other (x ∷ xs) [] is = absurd cc
    other (x ∷ xs) (y ∷ ys) is = grind (arith, nat_tests, other xs ys)

pub compared_equal : (a b : Bytes) → slice_cmp nat_cmp a b ≡ Equal → (bytes_below b a ≡ false) × (same_bytes a b ≡ true)
compared_equal a b is = (go a b is, same a b is)
  where
    go : (a b : Bytes) → slice_cmp nat_cmp a b ≡ Equal → bytes_below b a ≡ false
    go [] [] is = refl
    go [] (y ∷ ys) is = absurd cc
    go (x ∷ xs) [] is = absurd cc
    go (x ∷ xs) (y ∷ ys) is = grind (arith, nat_tests, go xs ys)

    same : (a b : Bytes) → slice_cmp nat_cmp a b ≡ Equal → same_bytes a b ≡ true
    same [] [] is = refl
    same [] (y ∷ ys) is = absurd cc
    same (x ∷ xs) [] is = absurd cc
    same (x ∷ xs) (y ∷ ys) is = grind (arith, nat_tests, same xs ys)

pub compared_greater : (a b : Bytes) → slice_cmp nat_cmp a b ≡ Greater → bytes_below b a ≡ true
compared_greater [] [] is = absurd cc
compared_greater [] (y ∷ ys) is = absurd cc
compared_greater (x ∷ xs) [] is = refl
compared_greater (x ∷ xs) (y ∷ ys) is = grind (arith, nat_tests, compared_greater xs ys)

-- ---- lists

pub list_all_more : {X : Type 0} (p : X → Bool) (xs : List X) (x : X) → list_all p (xs ++ x ∷ []) ≡ (list_all p xs && p x)
list_all_more p [] x = grind arith
list_all_more p (y ∷ xs) x = grind (arith, list_all_more p xs x)

-- one more in byte order is above those before it
pub order_more : (ws : List Bytes) (w : Bytes) → in_byte_order (ws ++ w ∷ []) ≡ true
    → (in_byte_order ws ≡ true) × (list_all (λ v. bytes_below v w) ws ≡ true)
order_more [] w ordered = (refl, refl)
order_more (v ∷ ws) w ordered =
    let both = and_parts (list_all (bytes_below v) (ws ++ w ∷ [])) (in_byte_order (ws ++ w ∷ [])) ordered in
    let first = and_parts (list_all (bytes_below v) ws) (bytes_below v w) (sym (list_all_more (bytes_below v) ws w) ∙ both.0) in
    let rest = order_more ws w both.1 in (rw (first.0) rest.0, rw (first.1) rest.1)

list_all_taken : {X : Type 0} (p : X → Bool) (n : ℕ) (xs : List X) → list_all p xs ≡ true → list_all p (take n xs) ≡ true
list_all_taken p zero xs all = refl
list_all_taken p (suc n) [] all = refl
list_all_taken p (suc n) (x ∷ xs) all = grind (arith, list_all_taken p n xs, and_parts, and_from)

pub order_taken : (n : ℕ) (ws : List Bytes) → in_byte_order ws ≡ true → in_byte_order (take n ws) ≡ true
order_taken zero ws ordered = refl
order_taken (suc n) [] ordered = refl
order_taken (suc n) (w ∷ ws) ordered = grind (arith, order_taken n ws, list_all_taken, and_parts, and_from)

pub order_dropped : (n : ℕ) (ws : List Bytes) → in_byte_order ws ≡ true → in_byte_order (drop n ws) ≡ true
order_dropped zero ws ordered = ordered
order_dropped (suc n) [] ordered = refl
order_dropped (suc n) (w ∷ ws) ordered = grind (arith, order_dropped n ws, and_parts)
