use Rattle.std.proofs.Common.{inr, sym, take, drop, take-append-drop}
use Rattle.desk_server.proofs.program.tell.Goals as goal

pub returns-in_default : goal.returns-in_default
returns-in_default g c =
    let n = c.in_default.field-0.written in
    inr (c.in_default.ensures.failed, (take n c.args.line.now, drop n c.args.line.now, sym (take-append-drop n c.args.line.now), c.in_default.ensures.cut))
