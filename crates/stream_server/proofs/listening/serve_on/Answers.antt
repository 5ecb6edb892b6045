use native.Mathlib.Omega.{arith}
use Rattle.stream_server.proofs.ListenLemmas.{all_came, ends_by_fault, keeps_to_fault, serves_next, serves_none, still_fewer}
use Rattle.stream_server.proofs.listening.serve_on.Goals as goal

pub loop-init : goal.loop-init
loop-init g c = (serves_none c.args.interface (λ log. g.C.Connections.has_seen c.args.connections.now log) (g.D.Handler.state c.args.desk.now), omega arith)

pub loop-preserved : goal.loop-preserved
loop-preserved g c = (
  serves_next c.args.interface
      (λ log. g.C.Connections.has_seen c.args.connections.now log)
      (λ log. g.C.Connections.has_seen c.loop.connections log)
      (λ log. g.C.Connections.has_seen c.serve_next.new.connections log)
      (g.C.Connections.has_failed c.serve_next.new.connections)
      (g.D.Handler.state c.args.desk.now)
      (g.D.Handler.state c.loop.desk)
      (g.D.Handler.state c.serve_next.new.desk)
      c.loop.counter
      c.loop.served
      c.in-Ok.is_whole
      c.from-served.result
      c.from-served.ensures
      c.loop.invariant.0
      c.in-Ok.ensures.clean
      c.in-Ok.ensures.stopped
      c.in-Ok.ensures.keeps,
  still_fewer c.loop.served c.loop.counter c.in-Ok.is_whole c.from-served.result c.from-served.ensures c.loop.invariant.1,
)

pub returns-in-Err-clause-keeps : goal.returns-in-Err-clause-keeps
returns-in-Err-clause-keeps g c =
    keeps_to_fault c.args.interface
    (λ log. g.C.Connections.has_seen c.args.connections.now log)
    (λ log. g.C.Connections.has_seen c.loop.connections log)
    (λ log. g.C.Connections.has_seen c.serve_next.new.connections log)
    (g.C.Connections.has_failed c.serve_next.new.connections)
    (g.D.Handler.state c.args.desk.now)
    (g.D.Handler.state c.loop.desk)
    (g.D.Handler.state c.serve_next.new.desk)
    c.loop.counter
    c.loop.served
    c.in-Err.fault
    c.loop.invariant.0
    c.in-Err.ensures.clean
    c.in-Err.ensures.keeps

pub returns-in-Err-clause-ends : goal.returns-in-Err-clause-ends
returns-in-Err-clause-ends g c =
    ends_by_fault c.args.interface
    (λ log. g.C.Connections.has_seen c.args.connections.now log)
    (λ log. g.C.Connections.has_seen c.loop.connections log)
    (λ log. g.C.Connections.has_seen c.serve_next.new.connections log)
    (g.C.Connections.has_failed c.serve_next.new.connections)
    (g.D.Handler.state c.args.desk.now)
    (g.D.Handler.state c.loop.desk)
    (g.D.Handler.state c.serve_next.new.desk)
    c.loop.counter
    c.loop.served
    c.args.count
    c.in-Err.fault
    c.loop.invariant.0
    c.in-Err.ensures.keeps

pub returns-clause-keeps : goal.returns-clause-keeps
returns-clause-keeps g c = λ h clean stands.
    let so_far = c.loop.invariant.0 in
    (so_far.events, so_far.seen, so_far.keeps h clean stands)

pub returns-clause-ends : goal.returns-clause-ends
returns-clause-ends g c =
    let so_far = c.loop.invariant.0 in
    (so_far.events, so_far.seen, all_came so_far.come c.loop.auto.counter-end c.loop-test.false)
