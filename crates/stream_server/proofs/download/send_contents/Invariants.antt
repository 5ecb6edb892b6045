use Rattle.stream_server.proofs.Common.{◌≡◌, ◌-◌, sent, inner_of, has_failed}
use Rattle.stream_server.proofs.ContentsLemmas.{HandedOn}
use Rattle.stream_server.proofs.download.send_contents.Given as goal

abbrev pub invariant-loop-piece : goal.invariant-loop-piece
invariant-loop-piece g l =
    HandedOn (g.D.Handler.state l.fn.desk) (g.D.Handler.state l.desk) (g.W.Write.contents (inner_of l.fn.writer)) (g.W.Write.contents (inner_of l.writer))
    l.fn.download l.rest
    × (has_failed l.writer ≡ has_failed l.fn.writer)

abbrev pub decreases-loop-piece : goal.decreases-loop-piece
decreases-loop-piece g l = l.rest.size - sent l.rest
