use Rattle.desk_commands.proofs.Answering.{sym, ap, ◌∙◌, finds_as, known, ledger_found, rule_at, said_of, none_said, never, never_missing, reads_end, last_said}
use Rattle.desk_commands.proofs.Answering.{ok_or_some}
use Rattle.desk_commands.proofs.progress.read_last_rule.Goals as goal

pub returns-then-last-eq0-clause-reads : goal.returns-then-last-eq0-clause-reads
returns-then-last-eq0-clause-reads g c =
    known (λ r x there seen. none_said c.args.seen.now.plan x.plan _ c.evenly.ensures seen.plan ∙ ap (rule_at x.plan) (sym c.if-last-eq0.true))

pub returns-clause-reads : goal.returns-clause-reads
returns-clause-reads g c =
    finds_as (ledger_found _ c.in_ok-read_rule.ensures.reads)
    (λ r is x there seen. said_of r c.args.number c.args.last x c.in_ok-rule.rule there (sym (ok_or_some _ c.in_ok-rule.ensures.value) ∙ is))

pub returns-in_err-rule-clause-fails : goal.returns-in_err-rule-clause-fails
returns-in_err-rule-clause-fails g c =
    reads_end (never c.in_ok-read_rule.ensures.reads
    (λ l is given. let it = last_said c.args.number c.args.seen.now c.args.last l given c.if-last-eq0.false in
    never_missing _ c.in_err-rule.ensures.value (is ∙ it.1))) c.from_residual-in_err-rule.ensures.1
