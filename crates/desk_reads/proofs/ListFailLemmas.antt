-- Why a read at a list of accepted commands is no failed store by itself.
use Rattle.desk_reads.proofs.Common.{arith, ◌≡◌, Result, Ok, ap, CommandList, IsValid, Records, records, AreOfList, FailsAtListsIn, ledger_of}
use Rattle.std.proofs.Common.{◌∙◌, rules}
use Rattle.std.specs.Prelude.{Err}
use Rattle.std.specs.Result.{IsErr, IsErrAnd}
use Rattle.sqlite.specs.Store.{Ghosts}
use Rattle.sql_calls.specs.declared.fault.Fault.{Fault}
use Rattle.sql_calls.specs.Standing.{Wears}
use Rattle.desk_records.specs.Holds.{Ledger}
use Rattle.sql_calls.specs.declared.fault.Fault.TheVariants.{Memory}
use Rattle.desk_store.specs.Changing.{FindsIn, StaysIn, seen_in}
use Rattle.desk_store.specs.Failing.{FailsGiven}
use Rattle.sql_calls.specs.declared.calls.Calls.{Calls}
use Rattle.desk_reads.specs.AtLists.{IsOfList, IsOfListWith}

module _ {S A B : Type 0} {g : Ghosts S} {old new : Calls S} {x : A} {P : Records → A → Type 0} where
  -- where no call failed: what was found at such a list leaves no such fault
  pub fails_never_at : FindsIn g {E = Fault} old new (Ok x) P → (out : Result B Fault) → IsErr out → ((h : CommandList) → IsValid h → P (records h) x → ⊥)
      → FailsAtListsIn g old new out
  fails_never_at read out failed why = grind arith

-- the ledger of such records
pub listed : {r : Records} → AreOfList r → IsOfList (ledger_of r)
listed of = record { list = of.list; valid = of.valid; is = ap ledger_of of.are }

module _ {S A : Type 0} {g : Ghosts S} {Given : Ledger → Type 0} (at : (l : Ledger) → Given l → IsOfList l) {old : Calls S} {x : A} {P : Records → A
    → Type 0} where
  -- what is wanted of a call's records is known by what was read before it
  pub fails_when : {B C : Type 0} {Want : Records → Type 0} {mid new : Calls S} → FindsIn g {E = Fault} old mid (Ok x) P
      → Wears (seen_in g mid) (seen_in g new)
      → (fault : Fault) → FailsGiven g (IsOfListWith Want) {A = C} mid new (Err fault)
      → ((r : Records) → P r x → AreOfList r → Given (ledger_of r) → Want r) → (out : Result B Fault) → IsErrAnd out (λ other. other ≡ fault)
      → FailsGiven g Given old new out
  fails_when read wears fault fails means out is = grind (arith, listed)

-- ---- a loop that ends by a fault

module _ {S B : Type 0} {g : Ghosts S} {old mid : Calls S} where
  -- of memory
  pub stays_out : StaysIn g old mid (Ok (tt {0})) → (fault : Fault) → fault ≡ Memory → (out : Result B Fault) → IsErrAnd out (λ other. other ≡ fault)
      → StaysIn g old mid out
  stays_out was fault e (Ok x) is = absurd is
  stays_out was fault e (Err other) is = rw (is ∙ e) (search (was, was.frame, was.grows, rules))

  pub fails_out : FailsAtListsIn g old mid (Ok (tt {0})) → (fault : Fault) → fault ≡ Memory → (out : Result B Fault) → IsErrAnd out (λ other. other ≡ fault)
      → FailsAtListsIn g old mid out
  fails_out was fault e (Ok x) is = absurd is
  fails_out was fault e (Err other) is = rw (is ∙ e) (search (was, rules))
