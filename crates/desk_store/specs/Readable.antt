-- Ledgers that can be read: no row of their tables breaks the rule of a column, and their targets can be counted.
use Rattle.std.specs.Prelude.{◌<◌, ◌^◌, List, length}
use Rattle.sqlite_value.specs.Order.{Row}
use Rattle.sqlite_rules.specs.Lists.{Has}
use Rattle.desk_records.specs.Holds.{IsHeld, Ledger}
use Rattle.desk_records.specs.Schema.{Place, Targets}
use Rattle.desk_store.specs.BrokenRows.{BreaksColumn}

-- no row of this table does
abbrev pub KeepsColumns : Place → Ledger → Type 0
KeepsColumns p l = (rows : List Row) → IsHeld l p rows → (row : Row) → Has rows row → BreaksColumn p row → ⊥

-- none does, and there are no more targets than 32 bits count
pub record IsReadable (l : Ledger) : Type 0 where
  pub keep : (p : Place) → KeepsColumns p l
  pub few : (rows : List Row) → IsHeld l Targets rows → length rows < 2 ^ 32
