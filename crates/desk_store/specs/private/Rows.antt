-- What rows are read as, where a relation says what one row is read as.
use Rattle.std.specs.Prelude.{◌≡◌, ◌<◌, ◌^◌, ℕ, pos, Bool, List, length, Option, Some, None}
use Rattle.sqlite_value.specs.declared.value.Value.TheVariants.{Int}
use Rattle.std.specs.List.{AllZip}
use Rattle.sqlite_value.specs.Order.{Row, column}
use Rattle.sqlite_rules.specs.Lists.{Has}
use Rattle.desk_records.specs.Codes.{flag_in}
use Rattle.desk_records.specs.Columns.{StoredNumber}
pub use Rattle.desk_records.specs.RowFaults.{BreaksRule, IfBroken, IfRowsBroken}

-- what a row that can't be read makes of a call

-- no row is nothing
abbrev pub IsReadAs : {A : Type 0} → (Row → A → Type 0) → Option A → Option Row → Type 0
IsReadAs is found None = found ≡ None
IsReadAs is found (Some row) = (one : _) × (found ≡ Some one) × is row one

-- a row for each
abbrev pub AreReadAs : {A : Type 0} → (Row → A → Type 0) → List Row → List A → Type 0
AreReadAs is rows found = AllZip is rows found

-- a count always has a row
abbrev pub IsCount : ℕ → Option Row → Type 0
IsCount n None = ⊥
IsCount n (Some row) = column row 0 ≡ StoredNumber n

-- the desk always has a row
abbrev pub IsApproval : Bool → Option Row → Type 0
IsApproval approval None = ⊥
IsApproval approval (Some row) = flag_in (column row 2) ≡ Some approval

-- ---- rows that can't be read

-- there is a row, and it is broken
abbrev pub IsBroken : (Row → Type 0) → Option Row → Type 0
IsBroken is_broken None = ⊥
IsBroken is_broken (Some row) = is_broken row

-- one of the rows is broken
pub record HasBroken (is_broken : Row → Type 0) (rows : List Row) : Type 0 where
  pub row : Row
  pub among : Has rows row
  pub broken : is_broken row

-- the desk has no row, or its row breaks the rule of the approval
abbrev pub HasNoApproval : Option Row → Type 0
HasNoApproval None = Unit {0}
HasNoApproval (Some row) = flag_in (column row 2) ≡ None

-- the first column of the row has no number of 32 bits
abbrev pub HasNoNumber : Option Row → Type 0
HasNoNumber None = ⊥
HasNoNumber (Some row) = (0 < length row) → (n : ℕ) → n < 2 ^ 32 → column row 0 ≡ Int (pos n) → ⊥
