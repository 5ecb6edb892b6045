use Rattle.desk_store.proofs.Answering.{HoldsRecords, arith, drop_target_tag_is, drops, drops_tag, subst, sym, writes}
use Rattle.desk_store.proofs.targets.drop_target_tag.Goals as goal

pub returns-clause-writes : goal.returns-clause-writes
returns-clause-writes g c = writes (drops drop_target_tag_is) (λ count now next holds change w. subst (HoldsRecords _) (sym change)
    (drops_tag c.args.id.now c.args.tag.now _ _ _ count now holds w)) c.run.ensures.runs (grind arith)
