use Rattle.stream_server.proofs.Common.{◌≡◌, ℕ, ◌-◌, ◌≤◌, ◌^◌, min, List, length, Option, None, Consumes, WireMessage, Begins, DeskState, Interface, inner_of}
use Rattle.stream_server.proofs.Common.{has_failed, Serves}
use Rattle.stream_server.proofs.stream.serve_stream.Given as goal

-- what was read begins with the messages that were answered, and then what the inbox holds
pub record SoFar {File : Type 0} (interface : Interface) (old new : DeskState File) (stream unread out out_new : Option (List ℕ)) (held : List ℕ)
    (counter answered : ℕ) : Type 0 where
  pub fed : List ℕ
  pub ms : List WireMessage
  pub reads : Consumes stream unread fed
  pub begins : Begins fed ms held
  pub most : counter ≤ length fed
  pub count : answered ≡ min (length ms) (2 ^ 64 - 1)
  pub serves : Serves interface old new out out_new ms None

abbrev pub invariant-loop : goal.invariant-loop
invariant-loop g l =
    SoFar l.routes.interface (g.D.Handler.state l.initial.desk) (g.D.Handler.state l.desk) (g.R.Read.remaining (inner_of l.initial.reader))
    (g.R.Read.remaining (inner_of l.reader))
    (g.W.Write.contents (inner_of l.initial.writer)) (g.W.Write.contents (inner_of l.writer)) l.inbox l.counter l.answered
    × (has_failed l.reader ≡ has_failed l.initial.reader)
    × (has_failed l.writer ≡ has_failed l.initial.writer)
