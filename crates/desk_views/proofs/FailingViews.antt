-- Why a view of a list of accepted commands is no failed store by itself.
use Rattle.desk_views.proofs.Common.{◌≡◌, ◌≤◌, ℕ, List, length, None, Result, Ok, IfErr, arith, Broken, kept_if, is_number, Records, HoldsLedger, Ledger}
use Rattle.desk_views.proofs.Common.{ledger_of, FindsIn, IsReadable, IfRowsBroken, IsOfList, AreOfList, item_numbered, Fault, IsErrAnd}
use Rattle.std.proofs.lemmas.Option.{slice_get_cases}
use Rattle.sqlite.specs.Store.{Ghosts}
use Rattle.desk_records.proofs.NumberColumns.{is_in_range}
use Rattle.desk_store.specs.Breaking.{BreaksOnly}
use Rattle.desk_store.specs.Failing.{FailsGiven, nothing}
use Rattle.sql_calls.specs.declared.calls.Calls.{Calls}

-- where broken rows are always told so
pub told : {Why : Type 0} → (fault : Fault) → (fault ≡ Broken) × Why → IfRowsBroken fault Why
told fault why = grind arith

-- ---- where the ledger is as given, which is that of a list

module _ {S A : Type 0} {g : Ghosts S} {Given : Ledger → Type 0} (at : (l : Ledger) → Given l → IsOfList l) {old : Calls S} {x : A} {P : Records → A
    → Type 0} where
  -- what was read leaves no such fault
  pub never_fails : {B : Type 0} {Why : Type 0} {new : Calls S} → FindsIn g {E = Fault} old new (Ok x) P → (fault : Fault) → IfRowsBroken fault Why
      → ((r : Records) → P r x → AreOfList r → Given (ledger_of r) → IsReadable (ledger_of r) → Why → ⊥)
      → (out : Result B Fault) → IsErrAnd out (λ other. other ≡ fault) → FailsGiven g Given old new out
  never_fails read fault why reason out is = grind arith

-- ---- where the answer is a call's

-- of values alone: at Ok what was seen is seen
pub never_answers : {S B C : Type 0} {g : Ghosts S} {Given G : Ledger → Type 0} {old new : Calls S} {y : C} {Why : Fault → Type 0}
    → BreaksOnly g HoldsLedger G nothing old new (Ok y) → (out : Result B Fault) → IfErr out Why
    → ((fault : Fault) → Why fault → IsErrAnd out (λ other. other ≡ fault) → FailsGiven g Given old new out)
    → FailsGiven g Given old new out
never_answers kept out why failed = grind arith

-- ---- entries of lists

-- a number of an entry is one
pub numbered_so : (n most : ℕ) → None ≡ kept_if is_number n → 1 ≤ n → n ≤ most → most ≤ 1000 → ⊥
numbered_so n most none low high few = grind (arith, is_in_range)

-- .. of which there is one
pub entry_there : {X : Type 0} (xs : List X) (n : ℕ) → 1 ≤ n → n ≤ length xs → item_numbered xs n ≡ None → ⊥
entry_there xs n low high none = grind (arith, slice_get_cases)
