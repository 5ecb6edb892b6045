-- A column that is not read breaks its rule.
use Rattle.desk_records.proofs.Common.{◌≡◌, ◌≢◌, ◌⊎◌, ◌<◌, ℕ, Bool, true, false, List, length, arith, IsUtf8, cases_Bool, and_parts, IsUtf8-from_is_utf8}
use Rattle.desk_records.proofs.Common.{nat_tests, get_or_past, Value, Text, Row, column, is_text, is_value, fault_at}
use Rattle.desk_records.specs.Columns.{has_text_of}
use Rattle.sqlite.specs.declared.error.Error.{Error}
use Rattle.sqlite.specs.declared.error.Error.TheVariants.{SqliteFailure}
use Rattle.sqlite.specs.declared.error.ErrorCode.TheVariants.{OutOfMemory}
use Rattle.desk_records.specs.declared.table_columns.Column.{Column}
use Rattle.desk_records.specs.declared.module_row.RowFault.TheVariants.{Memory, Broken}

-- a text that keeps a rule of texts in UTF-8 is read
unread : (rule : List ℕ → Bool) → ((t : List ℕ) → rule t ≡ true → IsUtf8 t) → (v : Value) → ((s : List ℕ) × (v ≡ Text s) × IsUtf8 s → ⊥)
    → has_text_of rule v ≡ false
unread rule fair v h = grind (arith, cases_Bool)

pub told : (e : Error) (c : Column) → (fault_at e c ≡ Memory) ⊎ ((fault_at e c ≡ Broken c) × (e ≢ SqliteFailure OutOfMemory))
told e c = grind arith

-- the fault of a column that was not read, where only a text can keep the rule
pub fails_at : (rule : List ℕ → Bool) → ((t : List ℕ) → rule t ≡ true → IsUtf8 t) → (row : Row) (at : ℕ) (e : Error) (c : Column)
    → (e ≢ SqliteFailure OutOfMemory → at < length row → (s : List ℕ) × (column row at ≡ Text s) × IsUtf8 s → ⊥) → (fault_at e c ≡ Memory)
    ⊎ ((fault_at e c ≡ Broken c) × (has_text_of rule (column row at) ≡ false))
fails_at rule fair row at e c kind = grind (arith, told, cases_Bool, unread, column, nat_tests, get_or_past)

-- texts that keep their rule are UTF-8
pub text_is_utf8 : (t : List ℕ) → is_text t ≡ true → IsUtf8 t
text_is_utf8 t kept = IsUtf8-from_is_utf8 t (and_parts _ _ kept).1

pub value_is_utf8 : (t : List ℕ) → is_value t ≡ true → IsUtf8 t
value_is_utf8 t kept = IsUtf8-from_is_utf8 t (and_parts _ _ kept).1
