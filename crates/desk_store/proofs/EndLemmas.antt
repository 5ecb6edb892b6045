-- The ends of a change, where each failure is a failed store.
use Rattle.desk_store.proofs.Common.{arith, ◌≡◌, Result, errors_in, State, Fault, Commits, GivesUp, HoldsLedger}
use Rattle.desk_store.specs.private.Faults.{as_store}

module _ (old new : State) where
  pub commits_as_store : (out : Result (Unit {0}) Fault) → Commits HoldsLedger old new out → Commits HoldsLedger old new (as_store out)
  commits_as_store out h = grind arith

  pub gives_up_as_store : (out : Result (Unit {0}) Fault) → GivesUp HoldsLedger old new out → GivesUp HoldsLedger old new (as_store out)
  gives_up_as_store out h = grind arith

-- an error stays one
pub errors_as_store : (out : Result (Unit {0}) Fault) → errors_in (as_store out) ≡ errors_in out
errors_as_store out = grind arith
