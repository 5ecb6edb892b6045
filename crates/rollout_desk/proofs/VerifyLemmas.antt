-- From what a change sees of the tables to what a verification says.
use Rattle.rollout_desk.proofs.Common.{◌≡◌, ◌≢◌, ◌≤◌, ◌⊎◌, ℕ, Option, Result, Err, arith, state, Ghosts, Fault, Broken}
use Rattle.rollout_desk.proofs.Common.{Store, Refusal, StoreFailed, refusal_of_fault, FindsDamage, HasCause}
use Rattle.sql_calls.specs.declared.calls.Calls.{Calls}
use Rattle.sql_calls.specs.Calls.{Grows, failures_of}
use Rattle.std.proofs.lemmas.Bool.Decides.{nat_tests}
use Rattle.desk_store.specs.Blaming.{HasFailed}
use Rattle.rollout_desk.specs.Looks.{Looked}
use Rattle.rollout_desk.specs.Verifying.{ReadsDamage}
use Rattle.desk_verify.specs.declared.damage.CheckedTable.{CheckedTable}

-- ---- why a store failed

-- more calls failed after an earlier count, and before a later one
pub failed_within : {a b c d : ℕ} → a ≤ b → HasFailed b c → c ≤ d → HasFailed a d
failed_within le h1 grows = grind arith

-- a failed store is a call that failed, or broken rows
pub stored : (fault : Fault) → refusal_of_fault fault ≡ StoreFailed → (fault ≡ Store) ⊎ (fault ≡ Broken)
stored fault never = grind arith

-- one that failed is counted
pub is_counted : {S : Type 0} {old new : Calls S} (fault : Fault) → fault ≡ Store → Grows (failures_of fault) old new → HasFailed old.failures new.failures
is_counted fault is grows = grind (arith, nat_tests)

-- of a call that tells no broken rows
pub failed_call : {S : Type 0} {old new : Calls S} (fault : Fault) → fault ≢ Broken → Grows (failures_of fault) old new → (fault ≡ Store) ⊎ (fault ≡ Broken)
    → HasFailed old.failures new.failures
failed_call fault sound grows h3 = grind (arith, is_counted)

module _ {S : Type 0} (g : Ghosts S) {old new : Calls S} where
  -- of whatever tables were shown before it
  pub judged : (result : Result (Option CheckedTable) Refusal) → Looked g (ReadsDamage g) old new result
      → FindsDamage (state g old.conn) (state g new.conn) result
  judged result it = grind arith

  -- a call failed, or the checks stopped at what can't be read
  pub blamed : (result : Result (Option CheckedTable) Refusal) → Looked g (ReadsDamage g) old new result → result ≡ Err StoreFailed → HasCause g old new
  blamed result it is t clean shown = grind arith
