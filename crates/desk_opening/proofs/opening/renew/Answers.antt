use Rattle.desk_opening.proofs.AdoptLemmas.{looked_at, stays_newest}
use Rattle.desk_opening.proofs.CauseLemmas.{looked_fails}
use Rattle.desk_opening.proofs.opening.renew.Goals as goal

pub returns-in-Three-clause-renews : goal.returns-in-Three-clause-renews
returns-in-Three-clause-renews g c = stays_newest c.args.version c.in-Three.is _

pub returns-clause-renews : goal.returns-clause-renews
returns-clause-renews g c = looked_at c.args.version _ _ c.in_ok-migrate.ensures.migrates c.look_again.result

pub returns-clause-fails : goal.returns-clause-fails
returns-clause-fails g c = looked_fails g.S.Store c.args.version c.in_ok-migrate.ensures.fails.grows c.in_ok-migrate.ensures.migrates
    c.in_ok-migrate.ensures.opened _
    c.schema.ensures
    c.look_again.result c.look_again.ensures.missing
