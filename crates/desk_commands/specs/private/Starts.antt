-- The start of a rollout: what it writes.
use Rattle.std.specs.Prelude.{ℕ, true}
use Rattle.rollout_machine.specs.declared.records.GroupRecord.{GroupRecord}
use Rattle.desk_records.specs.Holds.{Ledger}
use Rattle.desk_records.specs.LedgerSteps.{AddsActions, SetsRollout}
use Rattle.desk_reads.specs.declared.rollouts.SeenRollout.{SeenRollout}
use Rattle.desk_commands.specs.private.GroupStarts.{StartsAndOffers}

-- the rollout that is seen is started, each member gets an action, and then its first group starts
pub record StartsWhole (r : ℕ) (seen : SeenRollout) (first : GroupRecord) (l next : Ledger) : Type 0 where
  pub begun : Ledger
  pub sets : SetsRollout r seen.approval true seen.paused l begun
  pub acting : Ledger
  pub adds : AddsActions r begun acting
  pub starts : StartsAndOffers r first acting next
