use Rattle.stream_server.specs.Arrivals.{socket_of}
use Rattle.stream_server.proofs.ListenLemmas.{keeps_on}
use Rattle.stream_server.proofs.listening.serve_connection.Goals as goal

pub returns-clause-keeps : goal.returns-clause-keeps
returns-clause-keeps g c =
    let e = c.serve-outcome.ensures in
    let after = c.serve-outcome.new in (
      socket_of g.C.Reader.Read.remaining g.C.Writer.Write.contents after.reader after.writer,
      c.let_go.ensures.went,
      keeps_on _ _ _ _ _ c.serve-outcome.result _ c.tell.ensures e.headline e.stopped e.read_failed e.write_failed,
    )
