-- Lists of words in byte order.
use Rattle.desk_commands.proofs.Common.{◌≡◌, false, suc, List, [], ◌∷◌, length, refl, arith, contains_word}
use Rattle.desk_commands.proofs.Common.{with_word, Bytes, IsSorted, above_more, below_other, not_above, same_refl, same_true}

first_word : (x y : Bytes) (xs ys : List Bytes) → IsSorted (x ∷ xs) → IsSorted (y ∷ ys) → contains_word x (x ∷ xs) ≡ contains_word x (y ∷ ys)
    → contains_word y (x ∷ xs) ≡ contains_word y (y ∷ ys) → x ≡ y
first_word x y xs ys a b has_x has_y =
    grind (arith, same_refl x, same_refl y, same_true x y, below_other x y, above_more x y ys, above_more y x xs, not_above x (y ∷ ys), not_above y (x ∷ xs))

-- lists in byte order with the same words are the same list
pub same_words : (xs ys : List Bytes) → IsSorted xs → IsSorted ys → ((w : Bytes) → contains_word w xs ≡ contains_word w ys) → xs ≡ ys
same_words [] [] a b h = refl
same_words [] (y ∷ ys) a b h = grind (arith, same_refl y, h y)
same_words (x ∷ xs) [] a b h = grind (arith, same_refl x, h x)
same_words (x ∷ xs) (y ∷ ys) a b h =
    let is = first_word x y xs ys a b (h x) (h y) in
    let are = same_words xs ys a.1 b.1 (λ w. grind (arith, h w, is, same_true w x, not_above x xs a.0, not_above y ys b.0)) in
    λ i. is i ∷ are i

-- a word that isn't there makes one more
pub count_with : (w : Bytes) (vs : List Bytes) → contains_word w vs ≡ false → length (with_word w vs) ≡ suc (length vs)
count_with w [] new = refl
count_with w (v ∷ vs) new = grind (arith, count_with w vs)
