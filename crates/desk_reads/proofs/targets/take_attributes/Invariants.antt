use Rattle.desk_reads.proofs.Common.{◌≡◌, length}
use Rattle.std.specs.Prelude.{◌++◌}
use Rattle.desk_records.specs.declared.target_row.OwnedAttribute.{OwnedAttribute}
use Rattle.desk_reads.proofs.Owned.{left, taken}
use Rattle.desk_reads.proofs.targets.take_attributes.Given as goal

-- those that were passed are taken, and what is left is as it was
abbrev pub invariant-loop-left : goal.invariant-loop-left
invariant-loop-left l =
    (l.attributes ++ taken (λ (o : OwnedAttribute). o.id) (λ (o : OwnedAttribute). o.attribute) l.id l.left
    ≡ taken (λ (o : OwnedAttribute). o.id) (λ (o : OwnedAttribute). o.attribute) l.id l.owned)
    × (left (λ (o : OwnedAttribute). o.id) (λ (o : OwnedAttribute). o.attribute) l.id l.left
    ≡ left (λ (o : OwnedAttribute). o.id) (λ (o : OwnedAttribute). o.attribute) l.id l.owned)

abbrev pub decreases-loop-left : goal.decreases-loop-left
decreases-loop-left l = length l.left
