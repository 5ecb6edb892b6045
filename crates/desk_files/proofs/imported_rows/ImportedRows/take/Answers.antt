use Rattle.desk_files.proofs.Common.{sym, ◌∙◌, fields_of}
use Rattle.desk_files.proofs.StepFacts.{ids_with, takes_new, was_absent}
use Rattle.desk_files.proofs.imported_rows.ImportedRows.take.Goals as goal

pub returns : goal.returns
returns c had =
    let fresh = sym (had c.in-Some.row.id) ∙ was_absent c.in_ok-insert.field-0 _ c.if-not-branch.false c.in_ok-insert.ensures.added in
    takes_new c.args.self.now _ (fields_of c.args.record.now) c.in-Some.row (sym c.in_ok-row.ensures ∙ c.in-Some.is) fresh c.in_ok-push.ensures.ok
    (λ id. rw c.in_ok-push.ensures.ok (ids_with c.args.self.now.ids c.insert.new.self c.args.self.now.rows c.in-Some.row had c.in_ok-insert.ensures.updates.0
    id))
