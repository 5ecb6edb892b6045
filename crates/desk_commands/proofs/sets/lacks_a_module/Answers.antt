use Rattle.desk_commands.proofs.Answering.{finds_as, lacks}
use Rattle.desk_commands.proofs.sets.lacks_a_module.Goals as goal

pub returns-clause-reads : goal.returns-clause-reads
returns-clause-reads g c =
    finds_as c.in_ok-last.ensures.reads
    (λ r size. lacks r c.args.modules.now c.in_ok-last.last c.any_past.result c.any_past.ensures.list c.any_past.ensures.value size)
