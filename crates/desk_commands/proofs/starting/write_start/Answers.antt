use Rattle.desk_commands.proofs.Answering.{makes_three}
use Rattle.desk_commands.proofs.starting.write_start.Goals as goal

pub returns-clause-writes : goal.returns-clause-writes
returns-clause-writes g c =
    makes_three c.in_ok-change_rollout.ensures.writes c.in_ok-write_actions.ensures.writes
    (λ l next w. (w.acting, (w.begun, w.sets, w.adds), w.starts)) _ c.start_group.ensures.writes
