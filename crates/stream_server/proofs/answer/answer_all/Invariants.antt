use Rattle.stream_server.proofs.Common.{◌≡◌, ◌+◌, ◌-◌, ◌^◌, min, List, length, None, WireMessage, inner_of, has_failed, Serves, Takes}
use Rattle.stream_server.proofs.answer.answer_all.Given as goal

-- the messages so far were answered
abbrev pub invariant-loop-fault : goal.invariant-loop-fault
invariant-loop-fault g l = (ms : List WireMessage) × Takes l.initial.inbox ms l.inbox
    × (l.answered ≡ min (l.initial.answered + length ms) (2 ^ 64 - 1))
    × Serves l.routes.interface (g.D.Handler.state l.initial.desk) (g.D.Handler.state l.desk) (g.W.Write.contents (inner_of l.initial.writer))
    (g.W.Write.contents (inner_of l.writer)) ms None
    × (has_failed l.writer ≡ has_failed l.initial.writer)

abbrev pub decreases-loop-fault : goal.decreases-loop-fault
decreases-loop-fault g l = length l.inbox
