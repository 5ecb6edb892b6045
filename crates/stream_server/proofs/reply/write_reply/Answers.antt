use Rattle.stream_server.proofs.Common.{message_of}
use Rattle.stream_server.proofs.MessageLemmas.{refused_text}
use Rattle.stream_server.proofs.reply.write_reply.Goals as goal

pub returns-in-Refused-clause-ok : goal.returns-in-Refused-clause-ok
returns-in-Refused-clause-ok g c = rw (c.in-Refused.is, refused_text (message_of c.args.message.now) c.in-Refused.refusal) c.write_refusal.ensures.ok

pub returns-in-Refused-clause-err : goal.returns-in-Refused-clause-err
returns-in-Refused-clause-err g c = rw (c.in-Refused.is, refused_text (message_of c.args.message.now) c.in-Refused.refusal) c.write_refusal.ensures.err
