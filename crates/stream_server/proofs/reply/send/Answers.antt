use Rattle.stream_server.proofs.Common.{refl, sym, take, drop, take-append-drop}
use Rattle.stream_server.proofs.reply.send.Goals as goal

pub returns-in_default-clause-err : goal.returns-in_default-clause-err
returns-in_default-clause-err g c =
    let n = c.in_default.field-0.written in
    (refl, c.in_default.ensures.failed, take n c.args.bytes.now, drop n c.args.bytes.now, sym (take-append-drop n c.args.bytes.now), c.in_default.ensures.cut)
