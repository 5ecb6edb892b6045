use Rattle.http_wire.proofs.Common.{◌≡◌, ℕ, ◌+◌, ◌*◌, ◌<◌, true, List, length, get_or, take, sym, arith, Err, digits_value, and_parts, lt-ltb, cond-true}
use Rattle.http_wire.proofs.Common.{AllPass-from_list_all, limits, TooLarge, is_digits, length_of}
use Rattle.std.specs.Char.{is_ascii_digit, digit_value}
use Rattle.std.proofs.lemmas.Int.Digits.{digits_value_more}
use Rattle.std.proofs.lemmas.Str.Parse.{digits_value-take-le}
use Rattle.http_wire.proofs.body_length.length_of.Goals as goal

digit_at : (text : List ℕ) (i : ℕ) → true ≡ is_digits text → i < length text → is_ascii_digit (get_or text i 0) ≡ true
digit_at text i digits l = AllPass-from_list_all is_ascii_digit text (and_parts _ _ (sym digits)).1 i 0 l

more : (text : List ℕ) (i n d : ℕ) → i < length text → n ≡ digits_value 10 (take i text) → d ≡ digit_value (get_or text i 0)
    → n * 10 + d ≡ digits_value 10 (take (i + 1) text)
more text i n d l e f = omega (arith, digits_value_more 10 text i l)

too_large : (text : List ℕ) (i n : ℕ) → true ≡ is_digits text → limits.body_length < n → n ≡ digits_value 10 (take (i + 1) text)
    → Err TooLarge ≡ length_of text
too_large text i n digits large e = grind (arith, digits_value-take-le, cond-true, lt-ltb)

pub returns-then-length-gt-BODY_LENGTH_LIMIT : goal.returns-then-length-gt-BODY_LENGTH_LIMIT
returns-then-length-gt-BODY_LENGTH_LIMIT c =
    let digits = c.if-not-is_digits.ensures in
    let d = c.digit_of.ensures.value (digit_at c.args.text.now _ digits c.loop-b-test.true) in
    too_large c.args.text.now c.loop-b.b-index _ digits c.if-length-gt-BODY_LENGTH_LIMIT.true
    (more c.args.text.now _ _ _ c.loop-b-test.true c.loop-b.invariant.value d)

pub loop-b-preserved : goal.loop-b-preserved
loop-b-preserved c =
    let d = c.digit_of.ensures.value (digit_at c.args.text.now _ c.if-not-is_digits.ensures c.loop-b-test.true) in
    record { value = more c.args.text.now _ _ _ c.loop-b-test.true c.loop-b.invariant.value d; small = omega arith }
