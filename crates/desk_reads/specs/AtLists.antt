-- What is read at lists of accepted commands.
use Rattle.std.specs.Prelude.{◌≡◌, Result}
use Rattle.sqlite.specs.Store.{Ghosts}
use Rattle.rollout_machine.specs.CommandList.{CommandList}
use Rattle.rollout_machine.specs.Records.{Records, records}
use Rattle.rollout_machine.specs.Validity.{IsValid}
use Rattle.sql_calls.specs.declared.fault.Fault.{Fault}
use Rattle.desk_records.specs.Holds.{Ledger, ledger_of}
use Rattle.desk_store.specs.Changing.{FindsIn}
use Rattle.desk_store.specs.Failing.{FailsGiven}
use Rattle.sql_calls.specs.declared.calls.Calls.{Calls}

-- a list of accepted commands has these records
pub record AreOfList (r : Records) : Type 0 where
  pub list : CommandList
  pub valid : IsValid list
  pub are : r ≡ records list

module _ {S : Type 0} (g : Ghosts S) where
  -- a read whose answer is known at the records of such lists alone
  abbrev pub FindsAtListsIn : {A E : Type 0} → Calls S → Calls S → Result A E → (Records → A → Type 0) → Type 0
  FindsAtListsIn old new result Answer = FindsIn g old new result (λ r it. AreOfList r → Answer r it)

-- ---- when a call is a failed store

-- the ledger is that of a list of accepted commands
pub record IsOfList (l : Ledger) : Type 0 where
  pub list : CommandList
  pub valid : IsValid list
  pub is : l ≡ ledger_of (records list)

module _ {S : Type 0} (g : Ghosts S) where
  -- what reads: where such a ledger is seen and can be read, a failed store is a call that failed
  abbrev pub FailsAtListsIn : {A : Type 0} → Calls S → Calls S → Result A Fault → Type 0
  FailsAtListsIn = FailsGiven g IsOfList

-- the ledger is that of a list of accepted commands, whose records are as wanted
pub record IsOfListWith (Want : Records → Type 0) (l : Ledger) : Type 0 where
  pub of_list : IsOfList l
  pub wanted : Want l.records

module _ {S : Type 0} (g : Ghosts S) where
  -- .. where these are as wanted
  abbrev pub FailsWith : {A : Type 0} → (Records → Type 0) → Calls S → Calls S → Result A Fault → Type 0
  FailsWith Want = FailsGiven g (IsOfListWith Want)
