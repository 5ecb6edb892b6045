-- A call that failed is counted.
use Rattle.desk_opening.proofs.Common.{◌≡◌, ◌≢◌, ◌≤◌, ℕ, Result, IfErr, arith, Fault, OpenFault, IsFailure}
use Rattle.std.specs.Prelude.{IsErrAnd}
use Rattle.sql_calls.specs.Calls.{Grows, failures_of}
use Rattle.sql_calls.specs.declared.calls.Calls.{Calls}
use Rattle.sql_calls.specs.declared.fault.Fault.TheVariants.{Broken, Memory, Store}
use Rattle.desk_store.specs.Blaming.{HasFailed}
use Rattle.desk_opening.specs.Counting.{CountsWhere}
use Rattle.desk_opening.specs.Faults.{open_fault}

-- more calls failed after an earlier count, and before a later one
pub failed_within : {a b c d : ℕ} → a ≤ b → HasFailed b c → c ≤ d → HasFailed a d
failed_within le h1 grows = grind arith

-- what `?` passes on
pub passed_on : {B E : Type 0} (Is : E → Type 0) (f : E) → Is f → (out : Result B E) → IsErrAnd out (λ e. e ≡ f) → IfErr out Is
passed_on h0 f h out is = grind arith

is_failure : (f : Fault) → IsFailure (open_fault f)
is_failure Memory = tt
is_failure Store = tt
is_failure Broken = tt

-- .. of a call that failed
pub failed_so : {A : Type 0} (f : Fault) (out : Result A OpenFault) → IsErrAnd out (λ e. e ≡ open_fault f) → IfErr out IsFailure
failed_so f out is = passed_on IsFailure (open_fault f) (is_failure f) out is

module _ {Where : Type 0} {S : Type 0} where
  -- what is done before and after it
  pub counts_within : {That A : Type 0} {a b c d : Calls S} (out : Result A OpenFault) → CountsWhere That b c out → a.failures ≤ b.failures
      → c.failures ≤ d.failures → (Where → That) → CountsWhere Where a d out
  counts_within out h first last so = grind (arith, failed_within)

  -- .. of a call that failed
  pub counts_call : {A : Type 0} {a b c : Calls S} (f : Fault) → Grows (failures_of f) b c → a.failures ≤ b.failures → (Where → f ≢ Broken)
      → (out : Result A OpenFault) → IsErrAnd out (λ e. e ≡ open_fault f) → CountsWhere Where a c out
  counts_call f h first sound out is = grind (arith, failed_within)

  -- .. of one whose every error is counted
  pub counts_any : {A : Type 0} {a b c : Calls S} (f : Fault) → Grows 1 b c → a.failures ≤ b.failures → (Where → f ≢ Broken)
      → (out : Result A OpenFault) → IsErrAnd out (λ e. e ≡ open_fault f) → CountsWhere Where a c out
  counts_any f h first sound out is = grind (arith, failed_within)
