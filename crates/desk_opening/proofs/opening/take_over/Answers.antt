use Rattle.desk_opening.proofs.Common.{arith, state, subst, StandsSomewhere, desk_table}
use Rattle.desk_opening.proofs.AdoptLemmas.{adopts_renewed, stood_at}
use Rattle.desk_opening.proofs.CountLemmas.{counts_within}
use Rattle.desk_opening.proofs.opening.take_over.Goals as goal

pub returns-in_err-version-clause-adopts : goal.returns-in_err-version-clause-adopts
returns-in_err-version-clause-adopts g c =
    let table = subst (λ s. StandsSomewhere s (desk_table 0)) c.schema.ensures (c.in_ok-has_table.ensures.found c.if-not-branch.false) in
    grind (arith, table, c.in_err-version.ensures.keeps, c.in_err-version.ensures.tells, c.from_residual-in_err-version.ensures.1)

pub returns : goal.returns
returns g c =
    let table = subst (λ s. StandsSomewhere s (desk_table 0)) c.schema.ensures (c.in_ok-has_table.ensures.found c.if-not-branch.false) in
    let settled = g.met.S.Store.settled c.args.calls.now.conn.store in
    let found = c.in_ok-version.ensures in
    record {
      adopts = adopts_renewed _ _ table c.in_ok-version.version found.keeps found.tells settled _ c.renew.result c.renew.ensures.renews c.renew.ensures.failed;
      fails = counts_within c.renew.result c.renew.ensures.fails found.counts.grows (omega arith)
          (λ it. (
            it.0.records,
            stood_at _ _ table c.in_ok-version.version found.keeps found.tells settled (state g.S.Store c.renew.new.calls.conn) it.0.version
                c.renew.ensures.renews.wears it.1 it.0.records it.0.rests,
            it.0.readable,
            it.1,
          ));
    }
