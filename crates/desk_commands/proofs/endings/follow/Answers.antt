use Rattle.desk_commands.proofs.Answering.{ap, ◌∙◌, makes_then, ending_parts}
use Rattle.desk_commands.specs.private.Endings.{own_after}
use Rattle.desk_commands.proofs.endings.follow.Goals as goal

pub returns-in_ok-change_group-in-Ends-clause-writes : goal.returns-in_ok-change_group-in-Ends-clause-writes
returns-in_ok-change_group-in-Ends-clause-writes g c is =
    rw c.in-Ends.is
    (makes_then c.in_ok-change_group-in-Ends.ensures.writes
    (ending_parts c.args.seen.now c.in-Ends.ending c.args.own.now (is ∙ ap (own_after c.args.seen.now) c.in-Ends.is)) _
    c.write_following.ensures.writes)
