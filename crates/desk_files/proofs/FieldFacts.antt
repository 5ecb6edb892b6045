-- Records of four fields, and fields that are no text.
use Rattle.desk_files.proofs.Common.{◌≡◌, ◌<◌, ◌≤◌, ◌==◌, ℕ, List, [], ◌∷◌, length, Bool, true, false, cond, Option, Some, None, refl, arith, nat_le, count_by}
use Rattle.desk_files.proofs.Common.{Bor, get_or, map, take, ◌+◌, ◌++◌, list_all, slice_split, map-append, take_more, list_all-map, list_all_at}
use Rattle.desk_files.proofs.Common.{is_spelled, is_text, is_text_letter, is_token, is_word, kept_if, is_tag_list, both}
use Rattle.desk_files.proofs.Common.{spelled_is_utf8, field_words}
use Rattle.std.proofs.lemmas.List.Splits.{length-slice_split}
use Rattle.std.specs.Str.{IsUtf8, is_utf8}
use Rattle.std.proofs.lemmas.Str.{IsUtf8-from_is_utf8}
use Rattle.csv.specs.Records.{field_at}

pub four_are : (fs : List (List ℕ)) (a b c d : List ℕ) → length fs ≡ 4 → Some a ≡ field_at fs 0 → Some b ≡ field_at fs 1 → Some c ≡ field_at fs 2 → Some d
    ≡ field_at fs 3
    → fs ≡ a ∷ b ∷ c ∷ d ∷ []
unfolding field_at
four_are [] a b c d four at0 at1 at2 at3 = absurd (omega arith)
four_are (w ∷ []) a b c d four at0 at1 at2 at3 = absurd (omega arith)
four_are (w ∷ x ∷ []) a b c d four at0 at1 at2 at3 = absurd (omega arith)
four_are (w ∷ x ∷ y ∷ []) a b c d four at0 at1 at2 at3 = absurd (omega arith)
four_are (w ∷ x ∷ y ∷ z ∷ []) a b c d four at0 at1 at2 at3 = cc
four_are (v ∷ w ∷ x ∷ y ∷ z ∷ more) a b c d four at0 at1 at2 at3 = absurd (omega arith)

refused : (v : Bool) (bs : List ℕ) → (v ≡ true → ⊥) → cond v (Some bs) None ≡ None
refused v bs not_so = grind arith

-- words, tokens and texts are UTF-8
pub is_word-no_text : (bs : List ℕ) → (IsUtf8 bs → ⊥) → kept_if is_word bs ≡ None
is_word-no_text bs unread = refused (is_word bs) bs (λ is. unread (spelled_is_utf8 1 64 bs is))

pub is_token-no_text : (bs : List ℕ) → (IsUtf8 bs → ⊥) → kept_if is_token bs ≡ None
is_token-no_text bs unread = refused (is_token bs) bs (λ is. unread (spelled_is_utf8 8 64 bs is))

pub is_text-no_text : (bs : List ℕ) → (IsUtf8 bs → ⊥) → kept_if is_text bs ≡ None
is_text-no_text bs unread = refused (is_text bs) bs (λ is. unread (IsUtf8-from_is_utf8 bs (both (is_spelled is_text_letter 1 128 bs) (is_utf8 bs) is).1))

-- ---- tags

pub is_tag_list-many : (ws : List (List ℕ)) → 16 < length ws → kept_if is_tag_list ws ≡ None
is_tag_list-many ws many = let few : nat_le (length ws) 16 ≡ false = grind arith in rw few refl

-- a field with 16 spaces has more than 16 tags
pub tags_of-many : (field : List ℕ) → 16 ≤ count_by (λ b. b == 32) field → kept_if is_tag_list (field_words field) ≡ None
tags_of-many [] many = absurd (omega arith)
tags_of-many (b ∷ bs) many =
    let n = length-slice_split (λ c. c == 32) (b ∷ bs) in
    is_tag_list-many (slice_split (λ c. c == 32) (b ∷ bs)) (omega (arith, n))

-- ---- the parts of a field

pub no_words : (parts : List (Bor (List ℕ))) (i : ℕ) (d : Bor (List ℕ)) (r : Option (List ℕ)) → i < length parts → r ≡ kept_if is_word (get_or parts i d).now
    → r ≡ None
    → list_all is_word (map (λ part. part.now) parts) ≡ false
no_words parts i d r within read none = grind (arith, list_all-map, list_all_at)

word_is : (bs w : List ℕ) → Some w ≡ kept_if is_word bs → w ≡ bs
word_is bs w read = by (is_word bs) read
  where
    by : (v : Bool) → Some w ≡ cond v (Some bs) None → w ≡ bs
    by true e = cc e
    by false e = cc e

pub more_words : (parts : List (Bor (List ℕ))) (i : ℕ) (d : Bor (List ℕ)) (ws : List (List ℕ)) (w : List ℕ) → i < length parts → Some w
    ≡ kept_if is_word (get_or parts i d).now → ws ≡ map (λ part. part.now) (take i parts)
    → ws ++ w ∷ [] ≡ map (λ part. part.now) (take (i + 1) parts)
more_words parts i d ws w within read so_far =
    let more : take (i + 1) parts ≡ take i parts ++ get_or parts i d ∷ [] = take_more parts i d within in
    rw (more, map-append (λ (part : Bor (List ℕ)). part.now) (take i parts) (get_or parts i d ∷ []), so_far, word_is (get_or parts i d).now w read) refl
