-- What columns with a text say of it.
use Rattle.desk_records.proofs.Common.{◌≡◌, [], ◌∷◌, ℕ, true, true≢false, sym, ap, Value, Text, Row, column, value_cmp-apart, is_true, passes, Bytes, same_true}
use Rattle.desk_records.proofs.Common.{arith, has_text_at, is_text_of, and-true}
use Rattle.sqlite_sql.specs.Ops.{binary}
use Rattle.desk_records.proofs.Comparisons.{words_equal}
use Rattle.desk_records.proofs.MeaningWords.{at_key}

pub text_is : (v : Value) (text : Bytes) → is_text_of text v ≡ true → v ≡ Text text
text_is (Text t) text h = ap Text (same_true t text h)
text_is _ text h = absurd (true≢false (sym h))

-- WHERE column = ?1, whatever the column has: a value of another kind is no text
pub passes_text : (row : Row) (place : ℕ) (text : Bytes) → passes (at_key place 0 ∷ []) (Text text ∷ []) row ≡ has_text_at place text row
unfolding binary
passes_text row place text = grind (arith, and-true, column, is_true, binary, words_equal, value_cmp-apart)
