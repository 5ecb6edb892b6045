use Rattle.desk_reads.proofs.Common.{◌≡◌, length}
use Rattle.std.specs.Prelude.{◌++◌}
use Rattle.desk_records.specs.declared.target_row.OwnedTag.{OwnedTag}
use Rattle.desk_reads.proofs.Owned.{left, taken}
use Rattle.desk_reads.proofs.targets.take_tags.Given as goal

-- those that were passed are taken, and what is left is as it was
abbrev pub invariant-loop-left : goal.invariant-loop-left
invariant-loop-left l =
    (l.words.items ++ taken (λ (o : OwnedTag). o.id) (λ (o : OwnedTag). o.tag) l.id l.left
    ≡ taken (λ (o : OwnedTag). o.id) (λ (o : OwnedTag). o.tag) l.id l.owned)
    × (left (λ (o : OwnedTag). o.id) (λ (o : OwnedTag). o.tag) l.id l.left ≡ left (λ (o : OwnedTag). o.id) (λ (o : OwnedTag). o.tag) l.id l.owned)

abbrev pub decreases-loop-left : goal.decreases-loop-left
decreases-loop-left l = length l.left
