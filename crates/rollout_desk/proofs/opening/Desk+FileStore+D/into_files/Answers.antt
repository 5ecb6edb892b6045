use Rattle.rollout_desk.proofs.OpeningLemmas.{gives_back, gives_store}
use Rattle.rollout_desk.proofs.opening.Desk+FileStore+D.into_files.Goals as goal

pub returns-clause-given : goal.returns-clause-given
returns-clause-given g c = gives_back c.into_connection.result c.args.self.store.calls.conn c.into_connection.ensures c.args.self.targets
    c.args.self.stopped g.met.D.Disk.seen_may_stay c.close_files.result c.close_files.ensures.copied

pub returns-clause-kept : goal.returns-clause-kept
returns-clause-kept g c = gives_store c.into_connection.result c.args.self.store.calls.conn c.into_connection.ensures c.args.self.targets
    c.args.self.stopped c.close_files.result _
    c.close_files.ensures.err
