use Rattle.desk_views.proofs.ListRules.{keeps_size}
use Rattle.desk_views.proofs.Common.{option_map}
use Rattle.desk_views.proofs.Answering.{sym, arith, both_found, finds_as, fails_when}
use Rattle.desk_views.proofs.artifacts.show_contents.Goals as goal

pub returns-in-None-clause-reads : goal.returns-in-None-clause-reads
returns-in-None-clause-reads g c = finds_as (rw c.in-None.is at c.in_ok-found.ensures.reads) (λ r is. grind arith)

pub returns-clause-reads : goal.returns-clause-reads
returns-clause-reads g c = finds_as (both_found (rw c.in-Some.is at c.in_ok-found.ensures.reads) c.in_ok-contents.ensures.reads)
    (λ r is. grind (arith, option_map))

pub returns-clause-sized : goal.returns-clause-sized
returns-clause-sized g c = record {
  agrees = λ t was clean.
      let row = (rw c.in-Some.is at c.in_ok-found.ensures.agrees).agrees t was (omega (arith, clean, c.in_ok-contents.ensures.reads.wears)) in
      (c.in-Some.found, row, sym c.in_ok-contents.ensures.sized);
}

pub returns-in_err-contents-clause-fails : goal.returns-in_err-contents-clause-fails
returns-in_err-contents-clause-fails g c = fails_when (λ l it. it) (rw c.in-Some.is at c.in_ok-found.ensures.reads) c.in_err-contents.ensures.reads.wears _
    c.in_err-contents.ensures.fails (λ r is of _. grind (arith, option_map, keeps_size r of c.args.number)) _ c.from_residual-in_err-contents.ensures.1
