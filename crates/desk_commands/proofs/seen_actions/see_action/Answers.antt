use Rattle.desk_commands.proofs.Answering.{sym, both_found, finds_as, asked, reads_end}
use Rattle.desk_commands.proofs.ItemSteps.{none_shown}
use Rattle.desk_commands.proofs.SeenLemmas.{seen_there}
use Rattle.desk_commands.proofs.seen_actions.see_action.Goals as goal

pub returns-in_ok-seen-in-Some-clause-reads : goal.returns-in_ok-seen-in-Some-clause-reads
returns-in_ok-seen-in-Some-clause-reads g c =
    finds_as (both_found (rw c.in-Some.is at c.in_ok-found.ensures.reads) c.in_ok-seen-in-Some.ensures.reads)
    (λ l is. seen_there l c.args.number _ c.in_ok-seen-in-Some.seen is.0 is.1)

pub returns-in-None-clause-reads : goal.returns-in-None-clause-reads
returns-in-None-clause-reads g c = finds_as (rw c.in-None.is at c.in_ok-found.ensures.reads) (λ l is. none_shown _ _ (sym is))

pub returns-in_err-seen-in-Some-clause-fails : goal.returns-in_err-seen-in-Some-clause-fails
returns-in_err-seen-in-Some-clause-fails g c =
    reads_end (asked (rw c.in-Some.is at c.in_ok-found.ensures.reads) c.in_err-seen-in-Some.ensures.reads.wears
    (λ l is of. record { of_list = of; is_there = is }) c.in_err-seen-in-Some.ensures.fails.to) c.from_residual-in_err-seen-in-Some.ensures.1
