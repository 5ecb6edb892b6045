-- The definition of a group.
use Rattle.std.proofs.Common.{◌≡◌, ◌-◌, ◌≤◌, ℕ, zero, suc, List, slice_get, ap, arith}
use Rattle.rollout_model.specs.Rules.{item_numbered}
use Rattle.rollout_model.specs.declared.group_definition.GroupDefinition.{GroupDefinition}

-- counted from 1, it is the one before that place
pub one_before : (ds : List GroupDefinition) (i : ℕ) → 1 ≤ i → slice_get ds (i - 1) ≡ item_numbered ds i
one_before ds zero low = absurd (omega arith)
one_before ds (suc i) low = let back : suc i - 1 ≡ i = omega arith in ap (slice_get ds) back
