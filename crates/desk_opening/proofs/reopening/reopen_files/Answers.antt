use Rattle.desk_opening.proofs.ReopenLemmas.{begins_plain, refuses_calls, reopens}
use Rattle.desk_opening.proofs.SparingLemmas.{spares}
use Rattle.desk_opening.proofs.reopening.reopen_files.Goals as goal

pub returns-in-Ok-open_desk-clause-reopened : goal.returns-in-Ok-open_desk-clause-reopened
returns-in-Ok-open_desk-clause-reopened g c = reopens c.in-Ok.ensures.opened
    (λ clean. let it = c.in-Ok.ensures.found clean in record { holds = it.holds; reads = it.reads }) c.open_desk.ensures.settled
    c.in-Ok-open_desk.ensures.opened

pub returns-in-Ok-open_desk-clause-plain : goal.returns-in-Ok-open_desk-clause-plain
returns-in-Ok-open_desk-clause-plain g c =
    begins_plain c.in-Ok.conn (λ clean. let it = c.in-Ok.ensures.found clean in record { holds = it.holds; reads = it.reads })
    c.in-Ok.ensures.plain c.in-Ok-open_desk.ensures.opened

pub returns-in-Err-open_desk-clause-refused : goal.returns-in-Err-open_desk-clause-refused
returns-in-Err-open_desk-clause-refused g c = refuses_calls c.in-Ok.ensures.opened
    (λ clean. let it = c.in-Ok.ensures.found clean in record { holds = it.holds; reads = it.reads }) c.open_desk.ensures.settled
    c.in-Err-open_desk.ensures.refused c.in-Err-open_desk.ensures.fails

pub returns-in-Err-clause-refused : goal.returns-in-Err-clause-refused
returns-in-Err-clause-refused g c = λ clean. spares g.D.Disk g.met.D.Disk.seen_may_stay c.args.files _ (λ image out. out) c.in-Err.error c.in-Err.left
    c.refused_open.result
    c.refused_open.ensures.opened c.refused_open.ensures.named c.refused_open.ensures.memory (c.in-Err.ensures.cause clean, c.in-Err.ensures.unharmed clean)
