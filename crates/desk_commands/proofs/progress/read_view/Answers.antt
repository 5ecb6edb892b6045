use Rattle.desk_commands.proofs.Answering.{sym, ap, ◌∙◌, finds_as, item_numbered, last_started, Records, never_given, reads_end, ends_in, seen_view}
use Rattle.desk_commands.proofs.progress.read_view.Goals as goal

pub returns-clause-reads : goal.returns-clause-reads
returns-clause-reads g c =
    finds_as c.in_ok-rule.ensures.reads
    (λ r is of x there seen.
    seen_view of.list c.args.number _ x
    (record { valid = of.valid; is_there = ap (λ (rs : Records). item_numbered rs.rollouts c.args.number) (sym of.are) ∙ there; is_seen = seen })
    _ _ _ _ _ (c.last_started-started.ensures ∙ ap last_started c.deref.ensures.value) (is x there seen)
    (c.group_at.ensures ∙ ap (λ gs. item_numbered gs c.last_started-started.result) c.deref-2.ensures.value) c.in_ok-last.ensures c.get.ensures.value)

pub returns-in_err-last-clause-fails : goal.returns-in_err-last-clause-fails
returns-in_err-last-clause-fails g c =
    reads_end (never_given (λ l given. ends_in c.args.number c.args.seen.now l given c.last_started-started.result _
    (c.group_at.ensures ∙ ap (λ gs. item_numbered gs c.last_started-started.result) c.deref-2.ensures.value) c.in_err-last.ensures.1))
    c.from_residual-in_err-last.ensures.1
