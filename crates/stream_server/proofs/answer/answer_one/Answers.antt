use Rattle.stream_server.proofs.Common.{IfErr-weaker}
use Rattle.stream_server.proofs.MessageLemmas.{serves_reply}
use Rattle.stream_server.proofs.ContentsLemmas.{serves_download}
use Rattle.stream_server.proofs.answer.answer_one.Goals as goal

pub returns-in-Contents-clause-serves : goal.returns-in-Contents-clause-serves
returns-in-Contents-clause-serves g c =
    let e = c.in-Contents.ensures in
    serves_download _ _ _ _ _ c.in-Contents.download _ _ _ c.ask.ensures.clean e.begins e.runs c.send_contents.ensures.clean c.send_contents.ensures.sends

pub returns-in-Reply-clause-serves : goal.returns-in-Reply-clause-serves
returns-in-Reply-clause-serves g c =
    let e = c.in-Reply.ensures in
    serves_reply _ _ _ _ _ _ (record { clean = c.ask.ensures.clean; applies = e.begins; stopped = e.stopped }) _ _ _ _ c.give_reply.ensures.gives

pub returns-in-Reply-clause-stops : goal.returns-in-Reply-clause-stops
returns-in-Reply-clause-stops g c = IfErr-weaker c.give_reply.result _ _ (λ fault tells store. c.in-Reply.ensures.stops (tells store))
    c.give_reply.ensures.store
