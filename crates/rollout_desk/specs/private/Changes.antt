-- One request as one change of the store: how the change ends, and what the desk is after it.
use Rattle.std.specs.Prelude.{◌≡◌, ◌≤◌, ◌⊎◌, Bool, false}
use Rattle.sqlite.specs.Effect.{Database}
use Rattle.sqlite.specs.Held.{state}
use Rattle.sqlite.specs.State.{State, HasCleanDisk}
use Rattle.sqlite.specs.Store.{Ghosts}
use Rattle.sql_calls.specs.declared.calls.Calls.{Calls}
use Rattle.sql_calls.specs.Standing.{Wears, Sees, Spoiled, Rests, Doubts}
use Rattle.rollout_machine.specs.CommandList.{CommandList}
use Rattle.rollout_machine.specs.Records.{Records}
use Rattle.rollout_machine.specs.Replies.{Reply, Refused}
use Rattle.rollout_machine.specs.Requests.{Request, Asks}
use Rattle.rollout_machine.specs.Standing.{AppliesAt, StandsFor}
use Rattle.rollout_machine.specs.StoreFailures.{is_failed_store}
use Rattle.rollout_model.specs.declared.refusal.Refusal.{Refusal}
use Rattle.rollout_model.specs.declared.refusal.Refusal.TheVariants.{NoMemory, StoreFailed}
use Rattle.sql_calls.specs.declared.fault.Fault.{Fault}
use Rattle.sql_calls.specs.declared.fault.Fault.TheVariants.{Broken, Memory, Store}
use Rattle.desk_records.specs.Holds.{HoldsLedger, HoldsRecords, Ledger}
use Rattle.desk_store.specs.Blaming.{HasFailed}
use Rattle.rollout_desk.specs.Causes.{FailsByCalls}
use Rattle.rollout_desk.specs.Desks.{desk_state_at}
use Rattle.rollout_desk.specs.Working.{TellsFailures}

-- what a fault of the store is answered with
abbrev pub refusal_of_fault : Fault → Refusal
refusal_of_fault Memory = NoMemory
refusal_of_fault Store = StoreFailed
refusal_of_fault Broken = StoreFailed

-- ---- the ends of a change

-- the change is committed, and the reply is the one that was made; or the commit failed
pub record EndsByCommit (old new : State) (made reply : Reply) : Type 0 where
  pub wears : Wears old new
  pub ends : ((reply ≡ made) × ((now : Ledger) → Sees HoldsLedger old now → Rests HoldsLedger new now))
      ⊎ ((reply ≡ Refused StoreFailed) × ((now kept : Ledger) → Sees HoldsLedger old now → Spoiled HoldsLedger old kept → Doubts HoldsLedger new kept now))

-- the change is given up, and the reply is the one that was made; or that failed
pub record EndsByRollback (old new : State) (made reply : Reply) : Type 0 where
  pub wears : Wears old new
  pub ends : ((reply ≡ made) × ((kept : Ledger) → Spoiled HoldsLedger old kept → Rests HoldsLedger new kept))
      ⊎ ((reply ≡ Refused StoreFailed) × ((kept : Ledger) → Spoiled HoldsLedger old kept → Doubts HoldsLedger new kept kept))

-- So a change ends, what was made in it is told or a call failed, and it adds no work.
pub record EndsChange {S : Type 0} (g : Ghosts S) {A : Type 0} (Ends : State → State → A → A → Type 0) (tells_store : A → Bool) (old new : Calls S)
    (made told : A) : Type 0 where
  pub ends : Ends (state g old.conn) (state g new.conn) made told
  pub work : new.work ≡ old.work
  pub tells : TellsFailures (tells_store told) old new
  pub counts : old.failures ≤ new.failures
  pub fails : (told ≡ made) ⊎ HasFailed old.failures new.failures

module _ (Holds : Database → Records → Type 0) where
  -- One request was answered in full, from a connection of one state to one of another. The desk is stopped after the reply of a failed store.
  pub record Handles (old new : State) (request : Request) (reply : Reply) : Type 0 where
    pub wears : Wears old new
    pub handles : (h : CommandList) → HasCleanDisk new → StandsFor (desk_state_at Holds false old) h
        → AppliesAt h (desk_state_at Holds (is_failed_store reply) new) (Asks request) reply

-- One request was answered in full, by the store and not by its connection alone, and why a failed store is told.
pub record RunsRequest {S : Type 0} (g : Ghosts S) (old new : Calls S) (request : Request) (reply : Reply) : Type 0 where
  pub handles : Handles HoldsRecords (state g old.conn) (state g new.conn) request reply
  pub tells : TellsFailures (is_failed_store reply) old new
  pub fails : reply ≡ Refused StoreFailed → FailsByCalls g old new
