use Rattle.desk_reads.proofs.Common.{refl, ap, ◌∙◌, [], ◌∷◌}
use Rattle.std.specs.Prelude.{◌++◌}
use Rattle.desk_records.specs.declared.target_row.OwnedAttribute.{OwnedAttribute}
use Rattle.desk_reads.proofs.Owned.{ends_behind, ends_empty, skips, takes, took}
use Rattle.desk_reads.proofs.targets.take_attributes.Goals.{in_default, in-len1-up+in-Greater}
use Rattle.desk_reads.proofs.targets.take_attributes.Goals as goal

pub loop-left-preserved-in-Less : goal.loop-left-preserved-in-Less
loop-left-preserved-in-Less c =
    skips (λ (o : OwnedAttribute). o.id) (λ (o : OwnedAttribute). o.attribute) c.args.id.now c.loop-left.left.now c.one-item.result _ c.loop-left.attributes _ _
    c.cmp.result refl
    c.in-len1-up.len_at_least c.one-item.is c.cmp.ensures c.in-Less.is c.loop-left.invariant

pub loop-left-preserved : goal.loop-left-preserved
loop-left-preserved c =
    takes (λ (o : OwnedAttribute). o.id) (λ (o : OwnedAttribute). o.attribute) c.args.id.now c.loop-left.left.now c.one-item.result _ c.loop-left.attributes _ _
    _ c.cmp.result refl
    c.in-len1-up.len_at_least c.one-item.is c.cmp.ensures c.in-Equal.is
    (c.in_ok-push-in-Equal.ensures.ok ∙ ap (λ a. c.loop-left.attributes ++ a ∷ []) c.in_ok-copy-in-Equal.ensures) c.loop-left.invariant

pub returns-clause-ok : goal.returns-clause-ok
returns-clause-ok c = took (λ (o : OwnedAttribute). o.id) (λ (o : OwnedAttribute). o.attribute) c.args.id.now c.args.owned.now c.loop-left.left.now
    c.loop-left.attributes
    (elim c.if-left-lt1.branch [
      | in_default w ↦ ends_empty (λ (o : OwnedAttribute). o.id) (λ (o : OwnedAttribute). o.attribute) c.args.id.now c.loop-left.left.now w.in_default.len_below
      | in-len1-up+in-Greater w ↦ ends_behind (λ (o : OwnedAttribute). o.id) (λ (o : OwnedAttribute). o.attribute) c.args.id.now c.loop-left.left.now
          w.one-item.result w.cmp.result w.in-len1-up.len_at_least
          w.one-item.is w.cmp.ensures w.in-Greater.is
    ])
    c.loop-left.invariant
