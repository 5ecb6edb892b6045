use Rattle.desk_opening.proofs.ReopenLemmas.{begins_plain, refuses_calls, reopens}
use Rattle.desk_opening.proofs.reopening.reopen_path.Goals as goal

pub returns-in-Ok-open_desk-clause-reopened : goal.returns-in-Ok-open_desk-clause-reopened
returns-in-Ok-open_desk-clause-reopened g c = reopens c.in-Ok.ensures.opened c.in-Ok.ensures.found c.open_desk.ensures.settled
    c.in-Ok-open_desk.ensures.opened

pub returns-in-Ok-open_desk-clause-plain : goal.returns-in-Ok-open_desk-clause-plain
returns-in-Ok-open_desk-clause-plain g c = begins_plain c.in-Ok.conn c.in-Ok.ensures.found c.in-Ok.ensures.plain c.in-Ok-open_desk.ensures.opened

pub returns-in-Err-open_desk-clause-refused : goal.returns-in-Err-open_desk-clause-refused
returns-in-Err-open_desk-clause-refused g c = refuses_calls c.in-Ok.ensures.opened c.in-Ok.ensures.found c.open_desk.ensures.settled
    c.in-Err-open_desk.ensures.refused c.in-Err-open_desk.ensures.fails

pub returns-in-Err-clause-refused : goal.returns-in-Err-clause-refused
returns-in-Err-clause-refused g c = c.in-Err.ensures.refused c.args.approval_if_new
