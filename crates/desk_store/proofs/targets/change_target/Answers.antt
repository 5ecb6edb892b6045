use Rattle.desk_store.proofs.Answering.{HoldsRecords, arith, changes, set_target_is, sets_target, subst, sym, writes}
use Rattle.desk_store.proofs.targets.change_target.Goals as goal

pub returns-clause-writes : goal.returns-clause-writes
returns-clause-writes g c = writes (changes set_target_is) (λ count now next holds change w. subst (HoldsRecords _) (sym change)
    (sets_target c.args.id.now c.args.name.now c.args.digest.now _ _ _ count now holds w)) c.run.ensures.runs (grind arith)
