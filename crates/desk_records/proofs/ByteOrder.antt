-- Lists of words in byte order.
use Rattle.desk_records.proofs.Common.{Less, arith, ◌++◌, IsPermutation-append_right, ◌≡◌, true, false, List, [], ◌∷◌, refl, ◌∙◌, nat_cmp, IsPermutation}
use Rattle.desk_records.proofs.Common.{list_all, and_parts, or_parts, false≢true, IsPermutation-refl, IsPermutation-trans, IsPermutation-middle, Text}
use Rattle.desk_records.proofs.Common.{value_cmp, value_cmp-Text, bytes_below, contains_word, with_word, without_word, Bytes, AllAbove, IsSorted}
use Rattle.desk_records.proofs.Common.{sorted_with, in_byte_order}
use Rattle.std.specs.Cmp.Lexicographic.{slice_cmp}
use Rattle.rollout_machine.proofs.Orders.{sorted_without}

-- ---- two words

-- a word that is below another comes before it in a column
pub below_rises : (a b : Bytes) → bytes_below a b ≡ true → value_cmp (Text a) (Text b) ≡ Less
below_rises a b below = value_cmp-Text a b ∙ go a b below
  where
    go : (a b : Bytes) → bytes_below a b ≡ true → slice_cmp nat_cmp a b ≡ Less
    go a [] below = absurd (false≢true below)
    go [] (y ∷ ys) below = refl
    go (x ∷ xs) (y ∷ ys) below = grind (arith, go xs ys)

-- ---- lists

all_above : (w : Bytes) (ws : List Bytes) → list_all (bytes_below w) ws ≡ true → AllAbove w ws
all_above w [] all = tt
all_above w (v ∷ ws) all = grind (arith, all_above w ws)

above_all : (w : Bytes) (ws : List Bytes) → AllAbove w ws → list_all (bytes_below w) ws ≡ true
above_all w [] above = refl
above_all w (v ∷ ws) above = rw (above.0) (above_all w ws above.1)

pub sorted_from : (ws : List Bytes) → in_byte_order ws ≡ true → IsSorted ws
sorted_from [] ordered = tt
sorted_from (w ∷ ws) ordered = grind (arith, sorted_from ws, and_parts, all_above)

pub in_order_from : (ws : List Bytes) → IsSorted ws → in_byte_order ws ≡ true
in_order_from [] sorted = refl
in_order_from (w ∷ ws) sorted = rw (above_all w ws sorted.0) (in_order_from ws sorted.1)

pub in_order_with : (w : Bytes) (ws : List Bytes) → in_byte_order ws ≡ true → in_byte_order (with_word w ws) ≡ true
in_order_with w ws ordered = in_order_from (with_word w ws) (sorted_with w ws (sorted_from ws ordered))

pub in_order_without : (w : Bytes) (ws : List Bytes) → in_byte_order ws ≡ true → in_byte_order (without_word w ws) ≡ true
in_order_without w ws ordered = in_order_from (without_word w ws) (sorted_without w ws (sorted_from ws ordered))

-- one more behind some is one more of all
pub between : {X : Type 0} (x : X) (xs ys zs : List X) → IsPermutation zs (x ∷ ys) → IsPermutation (xs ++ zs) (x ∷ (xs ++ ys))
between x xs ys zs same = IsPermutation-trans _ _ _ (IsPermutation-append_right xs _ _ same) (IsPermutation-middle xs x ys)

-- a word that isn't there comes in somewhere
pub with_is_more : (w : Bytes) (ws : List Bytes) → contains_word w ws ≡ false → IsPermutation (with_word w ws) (w ∷ ws)
with_is_more w [] new = IsPermutation-refl (w ∷ [])
with_is_more w (v ∷ ws) new =
    grind (arith, IsPermutation-refl (w ∷ v ∷ ws), between w (v ∷ []) ws (with_word w ws), with_is_more w ws, or_parts)
