use Rattle.desk_commands.proofs.Answering.{last_step}
use Rattle.desk_commands.proofs.progress.last_started.Goals as goal

pub loop-group-preserved : goal.loop-group-preserved
loop-group-preserved c = last_step c.args.groups.now _ c.loop-group.group-index c.loop-group.last _ c.loop-group-test.true c.loop-group.invariant
    c.last_after-last.ensures
