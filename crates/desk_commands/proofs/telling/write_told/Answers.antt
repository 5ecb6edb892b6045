use Rattle.desk_commands.proofs.Answering.{makes_nothing, makes_then, none_told, told_parts}
use Rattle.desk_commands.proofs.telling.write_told.Goals as goal

pub returns-in_ok-write_entry-in-Some-clause-writes : goal.returns-in_ok-write_entry-in-Some-clause-writes
returns-in_ok-write_entry-in-Some-clause-writes g c =
    rw c.in-Some.is
    (makes_then c.in_ok-write_entry-in-Some.ensures.writes (told_parts c.args.action c.args.counts.now c.in-Some.told) _ c.write_number.ensures.writes)

pub returns-in-None-clause-writes : goal.returns-in-None-clause-writes
returns-in-None-clause-writes g c = rw c.in-None.is (makes_nothing (λ l next w. none_told c.args.action c.args.counts.now l next w))
