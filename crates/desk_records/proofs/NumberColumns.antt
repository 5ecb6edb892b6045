-- What columns with a number say of it.
use Rattle.desk_records.proofs.Common.{◌≡◌, ◌<◌, ◌≤◌, ◌^◌, ◌&&◌, [], ◌∷◌, ℕ, ℤ, pos, Bool, true, Some, None, refl, sym, ap, ap₂, ◌∙◌, arith, nat_lt, nat_le}
use Rattle.desk_records.proofs.Common.{is_eq, if◌then◌else◌, and_parts, nat_tests, ints, Value, Int, Row, column, value_cmp-Int, value_cmp-Null, has_rowid}
use Rattle.desk_records.proofs.Common.{is_true, Compare, Eq, Binary, passes, limits, is_number, has_at, is_number_of, and-true}
use Rattle.sqlite_sql.specs.Ops.{binary}
use Rattle.desk_records.specs.Codes.{coded_in, number_in}
use Rattle.desk_records.proofs.Comparisons.{judged}
use Rattle.desk_records.proofs.MeaningWords.{at_key}
use Rattle.desk_records.specs.Columns.{small_number}

-- ---- one number

pub number_is : (v : Value) (n : ℕ) → is_number_of n v ≡ true → v ≡ Int (pos n)
number_is v n h = grind (arith, nat_tests)

pub is_at : (row : Row) (place n : ℕ) → column row place ≡ Int (pos n) → has_at place n row ≡ true
is_at row place n h = rw h (grind (arith, nat_tests))

pub small_is : (v : Value) (n : ℕ) → small_number v ≡ Some n → v ≡ Int (pos n)
small_is v n h = grind arith

pub is_small : (n : ℕ) → n < 2 ^ 32 → small_number (Int (pos n)) ≡ Some n
is_small n few = let test : nat_lt n (2 ^ 32) ≡ true = grind (arith, nat_tests, few) in rw test refl

-- ---- a number of a range

pub is_in_range : (n : ℕ) → 1 ≤ n → n ≤ limits.number → is_number n ≡ true
is_in_range n low high = grind (arith, nat_tests, low, high)

-- .. is read as itself
pub ranged_is : (fits : ℕ → Bool) (v : Value) (n : ℕ) → coded_in (λ k. if fits k then Some k else None) v ≡ Some n → v ≡ Int (pos n)
ranged_is fits v n h = grind (arith, small_is)

pub number_in_is : (v : Value) (n : ℕ) → number_in v ≡ Some n → v ≡ Int (pos n)
number_in_is = ranged_is is_number

pub is_number_in : (n : ℕ) → is_number n ≡ true → number_in (Int (pos n)) ≡ Some n
is_number_in n good = grind (arith, and_parts, nat_tests, is_small)

pub one_number : (v : Value) (m n : ℕ) → v ≡ Int (pos m) → v ≡ Int (pos n) → m ≡ n
one_number v m n e f = let same : Int (pos m) ≡ Int (pos n) = sym e ∙ f in cc

-- ---- WHERE column = ?1

numbers_equal : (v : ℤ) (n : ℕ) → is_true (binary (Compare Eq Binary) (Int v) (Int (pos n))) ≡ is_number_of n (Int v)
unfolding binary
numbers_equal v n = grind (arith, is_eq, nat_tests, value_cmp-Int)

-- of a column that is a whole number, whatever parameters follow
pub passes_first : (row more : Row) (place n : ℕ) (v : ℤ) → column row place ≡ Int v → (passes (at_key place 0 ∷ []) (Int (pos n) ∷ more) row)
    ≡ has_at place n row
passes_first row more place n v is = and-true _ ∙ rw is (numbers_equal v n)

-- of two such columns
pub passes_two : (row : Row) (first second m n : ℕ) (v w : ℤ) → column row first ≡ Int v → column row second ≡ Int w
    → (passes (at_key first 0 ∷ at_key second 1 ∷ []) (Int (pos m) ∷ Int (pos n) ∷ []) row) ≡ (has_at first m row && has_at second n row)
passes_two row first second m n v w is_v is_w = rw (is_v, is_w) (ap₂ ◌&&◌ (numbers_equal v m) (and-true _ ∙ numbers_equal w n))

-- of the rowid, whatever it is
pub passes_rowid : (row : Row) (n : ℕ) → passes (at_key 0 0 ∷ []) (Int (pos n) ∷ []) row ≡ has_rowid (pos n) row
unfolding binary
passes_rowid row n = grind (arith, and-true, is_true, binary, is_eq, value_cmp-Null, judged)

-- it is in the range
pub number_in_good : (v : Value) (n : ℕ) → number_in v ≡ Some n → is_number n ≡ true
number_in_good v n h = grind arith

pub number_in_least : (v : Value) (n : ℕ) → number_in v ≡ Some n → 1 ≤ n
number_in_least v n h = let low : nat_le 1 n ≡ true = (and_parts (nat_le 1 n) (nat_le n limits.number) (number_in_good v n h)).0 in
    grind (arith, nat_tests, low)

-- a row has its own number
pub has_own_number : (n : ℕ) (rest : Row) → has_rowid (pos n) (Int (pos n) ∷ rest) ≡ true
has_own_number n rest = ap is_eq (value_cmp-Int (pos n) (pos n)) ∙ grind (arith, ints, nat_tests)
