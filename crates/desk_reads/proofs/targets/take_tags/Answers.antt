use Rattle.desk_reads.proofs.Common.{refl}
use Rattle.desk_records.specs.declared.target_row.OwnedTag.{OwnedTag}
use Rattle.desk_reads.proofs.Owned.{ends_behind, ends_empty, skips, takes, took}
use Rattle.desk_reads.proofs.targets.take_tags.Goals.{in_default, in-len1-up+in-Greater}
use Rattle.desk_reads.proofs.targets.take_tags.Goals as goal

pub loop-left-preserved-in-Less : goal.loop-left-preserved-in-Less
loop-left-preserved-in-Less c =
    skips (λ (o : OwnedTag). o.id) (λ (o : OwnedTag). o.tag) c.args.id.now c.loop-left.left.now c.one-item.result _ c.loop-left.words.items _ _ c.cmp.result
    refl
    c.in-len1-up.len_at_least c.one-item.is c.cmp.ensures c.in-Less.is c.loop-left.invariant

pub loop-left-preserved : goal.loop-left-preserved
loop-left-preserved c =
    takes (λ (o : OwnedTag). o.id) (λ (o : OwnedTag). o.tag) c.args.id.now c.loop-left.left.now c.one-item.result _ c.loop-left.words.items _ _ _ c.cmp.result
    refl
    c.in-len1-up.len_at_least c.one-item.is c.cmp.ensures c.in-Equal.is c.in_ok-push-in-Equal.ensures.items c.loop-left.invariant

pub returns-clause-ok : goal.returns-clause-ok
returns-clause-ok c = took (λ (o : OwnedTag). o.id) (λ (o : OwnedTag). o.tag) c.args.id.now c.args.owned.now c.loop-left.left.now c.loop-left.words.items
    (elim c.if-left-lt1.branch [
      | in_default w ↦ ends_empty (λ (o : OwnedTag). o.id) (λ (o : OwnedTag). o.tag) c.args.id.now c.loop-left.left.now w.in_default.len_below
      | in-len1-up+in-Greater w ↦ ends_behind (λ (o : OwnedTag). o.id) (λ (o : OwnedTag). o.tag) c.args.id.now c.loop-left.left.now w.one-item.result
          w.cmp.result w.in-len1-up.len_at_least
          w.one-item.is w.cmp.ensures w.in-Greater.is
    ])
    c.loop-left.invariant
