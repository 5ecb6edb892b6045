use Rattle.desk_commands.proofs.Answering.{refl, makes_then, started, with_group}
use Rattle.desk_commands.proofs.groups.start_group.Goals as goal

pub returns-clause-writes : goal.returns-clause-writes
returns-clause-writes g c =
    makes_then c.in_ok-change_group.ensures.writes
    (λ l next h. (
      with_group l c.args.number h.rollout (started c.args.group.now),
      record { rollout = h.rollout; is_there = h.is_there; was = c.args.group.now; is_its = h.is_its; next_is = refl },
      record { tallied = h.tallied; next_is = h.next_is },
    ))
    _ c.write_group_offers.ensures.writes
