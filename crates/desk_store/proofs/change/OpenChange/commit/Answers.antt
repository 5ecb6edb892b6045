use Rattle.desk_store.proofs.Answering.{HoldsLedger, codes, commit_is, commits, commits_as_store}
use Rattle.desk_store.proofs.change.OpenChange.commit.Goals as goal

pub returns-clause-commits : goal.returns-clause-commits
returns-clause-commits g c = rw c.finished.ensures (commits_as_store _ _ c.commit.result
    (commits HoldsLedger (codes "COMMIT") _ _ (commit_is _) c.commit.result c.commit.ensures.runs (g.met.S.Store.settled c.commit.new.self.conn.store)))
