-- Why a desk tells that its store failed, and that what it counts is no constant.
use Rattle.std.specs.Prelude.{◌≡◌, ◌<◌, ◌≤◌, ◌-◌, ◌^◌, ◌⊎◌, ℕ, ◌+◌, length}
use Rattle.std.specs.List.{AllByRecursion}
use Rattle.rollout_machine.specs.CommandList.{CommandList}
use Rattle.rollout_machine.specs.Commands.{Bytes}
use Rattle.rollout_machine.specs.Records.{Records, records}
use Rattle.rollout_machine.specs.Standing.{DeskState, StandsFor}
use Rattle.request_handler.specs.Downloads.{Sends}
use Rattle.request_handler.specs.declared.download.Download.{Download}
use Rattle.rollout_machine.specs.declared.records.ActionRecord.{ActionRecord}

-- 32 bits count the entries of each history, and one more
abbrev pub AreHistoriesCounted : Records → Type 0
AreHistoriesCounted r = AllByRecursion (λ (a : ActionRecord). length a.history + 1 < 2 ^ 32) r.actions

-- a call of the database failed, which is counted, up to the greatest number
abbrev pub HasFailed : ℕ → ℕ → Type 0
HasFailed before now = (before < now) ⊎ (2 ^ 64 - 1 ≤ now)

-- Of a desk that stood for a list whose histories are counted, on a clean disk: a call of its database failed since so many had.
abbrev pub HasCause : {File : Type 0} → DeskState File → DeskState File → ℕ → ℕ → Type 0
HasCause old new before now = (h : CommandList) → new.is_clean → AreHistoriesCounted (records h) → StandsFor old h → HasFailed before now

-- the same of one that hands out contents of the list
abbrev pub HasCauseHanding : {File : Type 0} → Download → DeskState File → DeskState File → ℕ → ℕ → Type 0
HasCauseHanding p old new before now = (h : CommandList) (contents : Bytes) → new.is_clean → AreHistoriesCounted (records h) → StandsFor old h
    → Sends h p contents → HasFailed before now

-- beside each desk there may be one that stands for the same lists and has these counts of statements, rows and failed calls, whatever they are
abbrev pub MayCount : {Desk File : Type 0} → (Desk → DeskState File) → (Desk → ℕ) → (Desk → ℕ) → (Desk → ℕ) → Type 0
MayCount {Desk = Desk} state statements rows failures = (desk : Desk) (s r f : ℕ) → (other : Desk)
    × ((h : CommandList) → StandsFor (state desk) h → StandsFor (state other) h)
    × (statements other ≡ s) × (rows other ≡ r) × (failures other ≡ f)
