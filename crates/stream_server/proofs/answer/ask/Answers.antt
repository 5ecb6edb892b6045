use Rattle.stream_server.proofs.AskLemmas.{refuses}
use Rattle.stream_server.proofs.answer.ask.Goals as goal

pub returns-in-Err-clause-begins : goal.returns-in-Err-clause-begins
returns-in-Err-clause-begins g c h clean stands = refuses _ _ c.in-Err.refusal c.in-Err.ensures.err c.in-Err.ensures.no_store h stands
