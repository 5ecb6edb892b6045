-- Words are ASCII, texts are UTF-8, and the ranges of numbers.
use Rattle.std.proofs.Common.{◌≡◌, ◌<◌, ◌&&◌, ℕ, List, [], ◌∷◌, Bool, true, false, arith, refl}
use Rattle.std.specs.List.{list_all}
use Rattle.std.specs.Str.{IsUtf8, IsAscii, is_utf8}
use Rattle.std.proofs.lemmas.Bool.{false≢true}
use Rattle.std.proofs.lemmas.Bool.Decides.{nat_tests}
use Rattle.std.proofs.lemmas.Str.{IsUtf8-from_ascii, is_utf8-from_IsUtf8}
use Rattle.std.proofs.lemmas.Str.Ascii.{IsAscii-nil, IsAscii-cons}
use Rattle.rollout_model.specs.Rules.{is_word_letter, is_between, is_spelled, is_byte, is_contents, is_digest}
use Rattle.rollout_model.specs.Limits.{limits}
use Rattle.std.specs.Prelude.{length, nat_le, suc}
use Rattle.std.proofs.Common.{Fits, w8, slice_index_or, eq-eqb}
use Rattle.std.proofs.lemmas.Bool.{le-leb}

pub both : (a b : Bool) → (a && b) ≡ true → (a ≡ true) × (b ≡ true)
both true b h = (refl, h)
both false b h = absurd (false≢true h)

and_true : (a : Bool) → a ≡ a && true
and_true true = refl
and_true false = refl

-- the test of UTF-8 adds nothing where the bytes are UTF-8
pub and_utf8 : {r : Bool} (a : Bool) (bs : List ℕ) → IsUtf8 bs → r ≡ a → r ≡ (a && is_utf8 bs)
and_utf8 a bs utf8 is = rw (is_utf8-from_IsUtf8 bs utf8, is) (and_true a)

letter_below : (b : ℕ) → is_word_letter b ≡ true → b < 128
letter_below b h = grind (arith, nat_tests)

letters_below : (bs : List ℕ) → list_all is_word_letter bs ≡ true → IsAscii bs
letters_below [] h = IsAscii-nil
letters_below (b ∷ bs) h =
    let parts = both (is_word_letter b) (list_all is_word_letter bs) h in
    IsAscii-cons b bs (letter_below b parts.0) (letters_below bs parts.1)

pub spelled_is_utf8 : (low high : ℕ) (bs : List ℕ) → is_spelled is_word_letter low high bs ≡ true → IsUtf8 bs
spelled_is_utf8 low high bs h = IsUtf8-from_ascii bs (letters_below bs (both (is_between low high (length bs)) (list_all is_word_letter bs) h).1)

-- unsigned bytes are bytes
pub fits_are_bytes : (bs : List ℕ) → ((i : ℕ) → Fits w8 (slice_index_or bs i 0)) → list_all is_byte bs ≡ true
fits_are_bytes [] fits = refl
fits_are_bytes (b ∷ bs) fits =
    let first : nat_le b 255 ≡ true = le-leb b 255 (omega (arith, fits 0)) in
    rw (first, fits_are_bytes bs (λ i. fits (suc i))) refl

pub bytes_are_digest : (bs : List ℕ) → length bs ≡ 32 → ((i : ℕ) → Fits w8 (slice_index_or bs i 0)) → is_digest bs ≡ true
bytes_are_digest bs whole fits = rw (eq-eqb (length bs) 32 whole, fits_are_bytes bs fits) refl

pub contents_are_few : (bs : List ℕ) → ((i : ℕ) → Fits w8 (slice_index_or bs i 0)) → nat_le (length bs) limits.artifact_size ≡ is_contents bs
contents_are_few bs fits = rw (fits_are_bytes bs fits) (and_true (nat_le (length bs) limits.artifact_size))
