use Rattle.desk_commands.proofs.Answering.{makes_then}
use Rattle.desk_commands.proofs.progress.write_going.Goals as goal

pub returns-clause-writes : goal.returns-clause-writes
returns-clause-writes g c =
    makes_then c.in_ok-change_rollout.ensures.writes (λ l next h. (h.between, h.sets, h.starts_if)) _ c.start_if.ensures.writes
