-- What an import of targets reads and writes.
use Rattle.std.specs.Prelude.{◌≡◌, ◌≤◌, ℕ, true, false, not, List, [], ◌∷◌, filter, length, Option, Some, None, Result, Ok, Err, option_map, is_some, IfOk}
use Rattle.sqlite.specs.State.{State, HasCleanDisk}
use Rattle.sql_calls.specs.Standing.{Wears, Sees}
use Rattle.desk_records.specs.TargetRow.{stored_target}
use Rattle.desk_records.specs.Targets.{renamed, with_changed}
use Rattle.desk_records.specs.declared.target_row.StoredTarget.{StoredTarget}
use Rattle.rollout_machine.specs.ByteStrings.{contains_word, with_words, without_word, sorted_words}
use Rattle.desk_records.specs.Holds.{HoldsLedger, ledger_of}
use Rattle.rollout_machine.specs.CommandList.{CommandList}
use Rattle.rollout_machine.specs.Commands.{Bytes, TargetRow, PutTargets}
use Rattle.rollout_machine.specs.Records.{Records, records}
use Rattle.rollout_machine.specs.RecordSteps.{step_records}
use Rattle.rollout_machine.specs.Targets.{Target}
use Rattle.rollout_machine.specs.Validity.{IsValid}
use Rattle.rollout_machine.specs.Verdicts.{check, target_of, tags_of}
use Rattle.rollout_model.specs.Limits.{limits}
use Rattle.rollout_model.specs.Rules.{are_distinct_words}
use Rattle.rollout_model.specs.declared.refusal.Refusal.{Refusal}
use Rattle.rollout_model.specs.declared.refusal.Refusal.TheVariants.{Quota}

-- ---- tags

-- the words of the first list that the second hasn't
abbrev pub lacking : List Bytes → List Bytes → List Bytes
lacking ws vs = filter (λ (w : Bytes). not (contains_word w vs)) ws

abbrev pub without_words : List Bytes → List Bytes → List Bytes
without_words [] vs = vs
without_words (w ∷ ws) vs = without_words ws (without_word w vs)

abbrev pub tagged_with : List Bytes → Target → Target
tagged_with words t = record t { tags = with_words words t.tags }

abbrev pub untagged_from : List Bytes → Target → Target
untagged_from words t = record t { tags = without_words words t.tags }

abbrev pub retagged : List Bytes → Target → Target
retagged words t = record t { tags = sorted_words words }

-- The target is there. It gets those of these tags that it hadn't, and has none of them yet.
pub record AddsTags (id : Bytes) (tags had : List Bytes) (r next : Records) : Type 0 where
  pub is_there : is_some (target_of r id) ≡ true
  pub are_distinct : are_distinct_words tags ≡ true
  pub are_new : (w : Bytes) → contains_word w tags ≡ true → contains_word w had ≡ false → contains_word w (tags_of (target_of r id)) ≡ false
  pub next_is : next ≡ with_changed r id (tagged_with (lacking tags had))

-- it loses those tags that it had and that aren't wanted
abbrev pub DropsTags : Bytes → List Bytes → List Bytes → Records → Records → Type 0
DropsTags id had wanted r next = next ≡ with_changed r id (untagged_from (lacking had wanted))

-- the target is there and gets these tags in place of those that it has
abbrev pub Retags : Bytes → List Bytes → Records → Records → Type 0
Retags id words r next = (is_some (target_of r id) ≡ true) × (next ≡ with_changed r id (retagged words))

-- ---- rows

-- the target of the row is kept so, and gets the row's name and digest
abbrev pub Renames : TargetRow → StoredTarget → Records → Records → Type 0
Renames row stored r next = (Some stored ≡ option_map stored_target (target_of r row.id)) × (next ≡ with_changed r row.id (renamed row.name row.digest))

-- the records after these rows
abbrev pub PutsRows : List TargetRow → Records → Records → Type 0
PutsRows rows r next = next ≡ step_records r (PutTargets rows)

-- this is kept of the target of the row, if it is there, before the row is put
abbrev pub PutsOver : Option StoredTarget → TargetRow → Records → Records → Type 0
PutsOver stored row r next = (stored ≡ option_map stored_target (target_of r row.id)) × PutsRows (row ∷ []) r next

-- ---- the quota

-- the desk has no more targets than it takes, and so many where they are counted
abbrev pub HasCounted : Option ℕ → Records → Type 0
HasCounted None r = length r.targets ≤ limits.targets
HasCounted (Some count) r = (count ≡ length r.targets) × (count ≤ limits.targets)

-- counted, so many
abbrev pub CountsTargets : Option ℕ → Records → ℕ → Type 0
CountsTargets counted r count = HasCounted counted r → HasCounted (Some count) r

-- the row is of a target that isn't there, and the desk takes no more
abbrev pub IsTooMany : TargetRow → Records → Type 0
IsTooMany row r = (target_of r row.id ≡ None) × (length r.targets ≡ limits.targets)

abbrev pub with_row : TargetRow → Records → Records
with_row row r = step_records r (PutTargets (row ∷ []))

-- One row is put, or it is of one target too many.
abbrev pub PutsRowTo : State → State → TargetRow → Option ℕ → Result (Option ℕ) Refusal → Type 0
PutsRowTo old new row counted (Ok then) = (now : Records) → Sees HoldsLedger old (ledger_of now) → Sees HoldsLedger new (ledger_of (with_row row now))
    × (HasCleanDisk new → HasCounted counted now → HasCounted then (with_row row now))
PutsRowTo old new row counted (Err refusal) = (now : Records) → Sees HoldsLedger old (ledger_of now) → HasCleanDisk new → HasCounted counted now
    → (refusal ≡ Quota) × IsTooMany row now

pub record PutsRow {E : Type 0} (old new : State) (row : TargetRow) (counted : Option ℕ) (result : Result (Result (Option ℕ) Refusal) E) : Type 0 where
  pub wears : Wears old new
  pub puts : IfOk result (PutsRowTo old new row counted)

-- all rows are put, at a list of accepted commands, or this refuses them
abbrev pub PutsAllTo : State → State → List TargetRow → Option Refusal → Type 0
PutsAllTo old new rows None = (h : CommandList) → IsValid h → Sees HoldsLedger old (ledger_of (records h))
    → Sees HoldsLedger new (ledger_of (step_records (records h) (PutTargets rows))) × (HasCleanDisk new → check (records h) (PutTargets rows) ≡ None)
PutsAllTo old new rows (Some refusal) = (h : CommandList) → IsValid h → Sees HoldsLedger old (ledger_of (records h)) → HasCleanDisk new
    → check (records h) (PutTargets rows) ≡ Some refusal

pub record PutsAll {E : Type 0} (old new : State) (rows : List TargetRow) (result : Result (Option Refusal) E) : Type 0 where
  pub wears : Wears old new
  pub puts : IfOk result (PutsAllTo old new rows)
