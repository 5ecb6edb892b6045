use Rattle.desk_store.proofs.Answering.{arith, changes, set_group_is, sets_group, writes}
use Rattle.desk_store.proofs.groups.change_group.Goals as goal

pub returns-clause-writes : goal.returns-clause-writes
returns-clause-writes g c = writes (changes set_group_is) (sets_group c.args.number c.args.group c.args.started c.args.ok c.args.bad c.args.gone _ _ _)
    c.run.ensures.runs (grind arith)
