use Rattle.desk_commands.proofs.Answering.{makes_then, telling_parts}
use Rattle.desk_commands.proofs.actions.tell_action.Goals as goal

pub returns-clause-writes : goal.returns-clause-writes
returns-clause-writes g c are =
    makes_then c.in_ok-write_told.ensures.writes
    (λ l next w. let it = telling_parts c.args.seen.now c.args.after.now c.args.told.now c.args.counts.now are l next w in
    rw (c.outcome_by-outcome.ensures, c.canceling_by.ensures) it) _ c.change_action.ensures.writes
