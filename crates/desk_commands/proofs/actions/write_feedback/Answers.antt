use Rattle.desk_commands.proofs.Answering.{refl, makes_as, writes_as}
use Rattle.desk_commands.proofs.actions.write_feedback.Goals as goal

pub returns-clause-writes : goal.returns-clause-writes
returns-clause-writes g c =
    rw c.in-Some.is
    (makes_as (λ l next w. w (record { entry = c.in_ok-entry.entry; numbers = c.args.numbers }) c.in_ok-entry.ensures.ok refl) _ c.act.ensures.writes)

pub returns-clause-fails : goal.returns-clause-fails
returns-clause-fails g c =
    rw c.in-Some.is
    (writes_as (λ l given. record {
      takes = given.takes;
      next = given.next;
      changes = given.changes (record { entry = c.in_ok-entry.entry; numbers = c.args.numbers }) c.in_ok-entry.ensures.ok refl;
    })
    _ c.act.ensures.fails)
