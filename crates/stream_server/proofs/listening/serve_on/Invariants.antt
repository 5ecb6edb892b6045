use Rattle.stream_server.proofs.Common.{◌≤◌}
use Rattle.stream_server.proofs.ListenLemmas.{ServesSoFar}
use Rattle.stream_server.proofs.listening.serve_on.Given as goal

abbrev pub invariant-loop : goal.invariant-loop
invariant-loop g l =
    ServesSoFar l.initial.interface (λ log. g.C.Connections.has_seen l.initial.connections log) (λ log. g.C.Connections.has_seen l.connections log)
    (g.D.Handler.state l.initial.desk) (g.D.Handler.state l.desk) l.counter l.served
    × (l.served ≤ l.counter)
