use Rattle.desk_commands.proofs.Answering.{ap, makes_three, has_room, numbers_stay, never_given, writes_end}
use Rattle.desk_commands.specs.declared.counts.Counts.{Counts}
use Rattle.desk_commands.proofs.actions.act.Goals as goal

pub returns-clause-writes : goal.returns-clause-writes
returns-clause-writes g c =
    makes_three (c.in_ok-tell_action.ensures.writes c.in_ok-counts.ensures) c.in_ok-offer_next.ensures.writes
    (λ l next w. (w.offered, (w.acted, w.tells, w.offers), w.follows)) _ (c.follow.ensures.writes (ap (λ (k : Counts). k.own) c.in_ok-counts.ensures))

pub returns-in_err-counts-clause-fails : goal.returns-in_err-counts-clause-fails
returns-in_err-counts-clause-fails g c =
    writes_end (never_given (λ l given. c.in_err-counts.ensures.1 (has_room _ _ _ l given))) c.from_residual.ensures.1

pub returns-in_err-offer_next-clause-fails : goal.returns-in_err-offer_next-clause-fails
returns-in_err-offer_next-clause-fails g c =
    writes_end (λ l sees it.
    c.in_err-offer_next.ensures.fails.to it.given.changes.acted
    ((c.in_ok-tell_action.ensures.writes c.in_ok-counts.ensures).makes l it.given.changes.acted sees (λ clean. it.given.changes.tells))
    (numbers_stay _ _ _ l it.given)) c.from_residual-in_err-offer_next.ensures.1
