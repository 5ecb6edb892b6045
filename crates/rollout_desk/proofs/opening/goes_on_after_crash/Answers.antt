use Rattle.rollout_desk.proofs.Common.{state}
use Rattle.rollout_desk.proofs.CrashLemmas.{goes_on_before, goes_on_after}
use Rattle.rollout_desk.proofs.opening.goes_on_after_crash.Goals as goal

pub returns-clause-before : goal.returns-clause-before
returns-clause-before g c = λ clean.
    goes_on_before c.into_connection.result c.args.old.store.calls.conn c.into_connection.ensures c.into_store.result c.close.result c.close.ensures
    c.into_store.ensures.numbered c.into_store.ensures.sound c.into_store.ensures.undone c.into_store.ensures.quiet clean
    c.args.old.targets c.args.old.stopped c.args.new.now.targets
    c.args.new.now.stopped (state g.S.Store c.args.new.now.store.calls.conn)

pub returns-clause-after : goal.returns-clause-after
returns-clause-after g c = λ clean.
    goes_on_after c.into_connection.result c.args.old.store.calls.conn c.into_connection.ensures c.into_store.result c.close.result c.close.ensures
    c.into_store.ensures.numbered c.into_store.ensures.sound c.into_store.ensures.undone c.into_store.ensures.quiet clean
    c.args.old.targets c.args.old.stopped c.args.new.now.targets
    c.args.new.now.stopped (state g.S.Store c.args.new.now.store.calls.conn)
