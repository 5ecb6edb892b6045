-- What is known of a desk that holds the records of accepted commands.
use Rattle.std.specs.Prelude.{◌≡◌, Option, None, Result, IfOk}
use Rattle.std.specs.List.{AllByRecursion}
use Rattle.sqlite.specs.Effect.{Database}
use Rattle.sqlite.specs.State.{State, HasCleanDisk}
use Rattle.sql_calls.specs.Standing.{Sees}
use Rattle.rollout_machine.specs.CommandList.{CommandList}
use Rattle.rollout_machine.specs.Records.{records}
use Rattle.rollout_machine.specs.Validity.{IsValid}
use Rattle.desk_records.specs.Holds.{HoldsLedger, HoldsRecords, ledger_of}
use Rattle.desk_records.specs.Tables.{HoldsTables, Tables}
use Rattle.desk_reads.specs.Counted.{AreCounted}
use Rattle.desk_store.specs.Readable.{IsReadable}
use Rattle.desk_verify.specs.Agreement.{Agrees, checked}
use Rattle.desk_verify.specs.declared.damage.CheckedTable.{CheckedTable}

-- its tables agree
abbrev pub RecordsAgree : Type 0
RecordsAgree = (h : CommandList) → IsValid h → (db : Database) (t : Tables) → HoldsRecords db (records h) → HoldsTables db t
    → AllByRecursion (Agrees t) checked

-- its ledger can be read, where its histories can be counted
abbrev pub RecordsAreReadable : Type 0
RecordsAreReadable = (h : CommandList) → IsValid h → AreCounted (records h) → IsReadable (ledger_of (records h))

-- where a change sees such records, no table is named
abbrev pub NamesNone : {E : Type 0} → State → State → Result (Option CheckedTable) E → Type 0
NamesNone old new result = (h : CommandList) → IsValid h → Sees HoldsLedger old (ledger_of (records h)) → HasCleanDisk new
    → IfOk result (λ found. found ≡ None)
