-- The rollouts of accepted commands can be read by an opening that migrates them.
use Rattle.rollout_desk.proofs.Common.{arith, ◌≡◌, ℕ, suc, List, [], ◌∷◌, slice_get, Some, refl, records}
use Rattle.std.specs.List.{AllByRecursion}
use Rattle.rollout_machine.proofs.WithinLimits.{limits_hold}
use Rattle.rollout_machine.specs.declared.records.RolloutRecord.{RolloutRecord}
use Rattle.desk_opening.specs.Counting.{IsRolloutReadable}
use Rattle.rollout_desk.specs.Openings.{RecordsCanBeMigrated}
use Rattle.desk_verify.proofs.ReadableRollouts.{whole_rollout}

all_readable : (xs : List RolloutRecord) → ((d : ℕ) (x : RolloutRecord) → slice_get xs d ≡ Some x → IsRolloutReadable x)
    → AllByRecursion IsRolloutReadable xs
all_readable [] each = tt
all_readable (x ∷ xs) each = (each 0 x refl, all_readable xs (λ d y at. each (suc d) y at))

pub can_be_migrated : RecordsCanBeMigrated
can_be_migrated h valid = record {
  keep = all_readable (records h).rollouts (whole_rollout h valid);
  few = omega (arith, (limits_hold h valid).rollouts);
}
