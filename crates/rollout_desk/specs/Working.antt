-- How much a request makes the store do, and what it tells of a store that failed.
use Rattle.std.specs.Prelude.{◌≡◌, ◌≤◌, Bool, false, Result, Ok, Err}
use Rattle.rollout_machine.specs.Bounds.{KeepsBound}
use Rattle.rollout_machine.specs.Commands.{Command}
use Rattle.rollout_machine.specs.StoreFailures.{is_store}
use Rattle.rollout_model.specs.declared.refusal.Refusal.{Refusal}
use Rattle.sql_calls.specs.Calls.{since}
use Rattle.sql_calls.specs.declared.calls.Calls.{Calls}
use Rattle.rollout_desk.specs.declared.desk.Desk.{Desk}

-- no count falls; and unless a failed store is told, no call failed but for want of memory
pub record TellsFailures {S : Type 0} (told : Bool) (old new : Calls S) : Type 0 where
  pub statements : old.work.statements ≤ new.work.statements
  pub rows : old.work.rows ≤ new.work.rows
  pub failures : told ≡ false → new.failures ≡ old.failures

-- whether a failed store is told
abbrev pub tells_store : {A : Type 0} → Result A Refusal → Bool
tells_store (Ok a) = false
tells_store (Err refusal) = is_store refusal

-- what is told of a command's work is what the store counted more, and within the command's bound
pub record CountsWork {S : Type 0} (command : Command) (old new : Desk S) : Type 0 where
  pub bound : KeepsBound command new.work.statements new.work.rows
  pub counted : new.work ≡ since new.store.calls.work old.store.calls.work
