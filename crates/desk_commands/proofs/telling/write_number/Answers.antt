use Rattle.desk_commands.proofs.Answering.{makes_as, makes_nothing, no_number, number_adds}
use Rattle.desk_commands.proofs.telling.write_number.Goals as goal

pub returns-in-Some-clause-writes : goal.returns-in-Some-clause-writes
returns-in-Some-clause-writes g c =
    makes_as (λ l next w. number_adds c.args.action c.args.counts.now c.args.told.now l next w c.in-Some.number c.in-Some.is) _ c.write_number.ensures.writes

pub returns-in-None-clause-writes : goal.returns-in-None-clause-writes
returns-in-None-clause-writes g c = makes_nothing (λ l next w. no_number c.args.action c.args.counts.now c.args.told.now l next w c.in-None.is)
