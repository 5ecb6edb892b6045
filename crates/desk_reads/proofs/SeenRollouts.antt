-- Rollouts as they are read.
use Rattle.desk_reads.proofs.Common.{arith, ◌≡◌, ℕ, Some, item_numbered, Records, RolloutRecord, groups_of, IsSeenOf, AreOfList}
use Rattle.desk_records.specs.RolloutRow.{stored_rollout}
use Rattle.desk_records.specs.declared.rollout_row.StoredRollout.{StoredRollout}
use Rattle.desk_reads.specs.declared.rollouts.SeenRollout.{SeenRollout}
use Rattle.desk_reads.proofs.ListLemmas.{groups_are, last_is_count, numbered_so}

-- ---- what is seen

-- what was read of it is stored, and its groups were read
pub seen_is : (rs : Records) (of : AreOfList rs) (r : ℕ) (seen : SeenRollout) (stored : StoredRollout) → seen.number ≡ r → seen.plan ≡ stored.plan
    → seen.approval ≡ stored.approval → seen.started ≡ stored.started → seen.paused ≡ stored.paused
    → seen.groups.items ≡ groups_of (item_numbered rs.rollouts r) → (x : RolloutRecord) → item_numbered rs.rollouts r ≡ Some x → stored ≡ stored_rollout x
    → IsSeenOf seen x
seen_is rs of r seen stored number plan approval started paused groups x there is = grind (arith, numbered_so, groups_are, last_is_count)
