use Rattle.stream_server.proofs.Common.{List, [], ◌∷◌, ◌++◌, refl}
use Rattle.stream_server.specs.Arrivals.{Came, CameUnlimited, Event, Went, socket_of}
use Rattle.stream_server.proofs.ListenLemmas.{adds_both, comes_to_end, keeps_on_net, keeps_on_unlimited}
use Rattle.stream_server.proofs.listening.serve_next.Goals as goal

pub returns-in-Net-clause-keeps : goal.returns-in-Net-clause-keeps
returns-in-Net-clause-keeps g c = ([], c.in-Net.ensures.came, (keeps_on_net _ _, c.in-Net.ensures.none))

pub returns-in-Unlimited-clause-keeps : goal.returns-in-Unlimited-clause-keeps
returns-in-Unlimited-clause-keeps g c = (CameUnlimited ∷ [], c.in-Unlimited.ensures.came, (keeps_on_unlimited _ _, refl))

pub returns-in-Connection-clause-keeps : goal.returns-in-Connection-clause-keeps
returns-in-Connection-clause-keeps g c =
    let it = c.serve_connection.ensures in
    let arrival : List Event = Came (socket_of g.C.Reader.Read.remaining g.C.Writer.Write.contents c.in-Connection.reader c.in-Connection.writer) ∷ [] in
    let departure : List Event = Went it.keeps.0 ∷ [] in (
      arrival ++ departure,
      adds_both
          (λ log. g.C.Connections.has_seen c.args.connections.now log)
          (λ log. g.C.Connections.has_seen c.accept.new.self log)
          (λ log. g.C.Connections.has_seen c.serve_connection.new.connections log)
          arrival
          departure
          c.in-Connection.ensures.came
          it.keeps.1,
      (it.keeps.2, comes_to_end _ 1 c.serve_connection.result (arrival ++ departure) it.net refl),
    )
