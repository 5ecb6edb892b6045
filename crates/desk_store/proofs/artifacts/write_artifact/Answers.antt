use Rattle.desk_store.proofs.Answering.{HoldsRecords, adds_artifact, arith, put_artifact_is, puts, subst, sym, writes}
use Rattle.desk_store.proofs.artifacts.write_artifact.Goals as goal

pub returns-clause-writes : goal.returns-clause-writes
returns-clause-writes g c = writes (puts put_artifact_is) (λ count now next holds change w. subst (HoldsRecords _) (sym change.1) (adds_artifact
    c.args.module_number c.args.filename.now c.args.size c.args.digest.now c.args.number _ _ _ count now holds change.0 w)) c.run.ensures.runs (grind arith)
