use Rattle.desk_commands.proofs.Answering.{arith, makes_as}
use Rattle.desk_commands.proofs.endings.write_following.Goals as goal

pub returns-in-Pauses-clause-writes : goal.returns-in-Pauses-clause-writes
returns-in-Pauses-clause-writes g c = rw c.in-Pauses.is (makes_as (λ l next w. grind (arith, w)) _ c.change_rollout.ensures.writes)
