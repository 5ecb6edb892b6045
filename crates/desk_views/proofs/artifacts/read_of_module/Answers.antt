use Rattle.desk_views.proofs.Common.{arith, nat_tests}
use Rattle.desk_views.proofs.Answering.{finds_as}
use Rattle.desk_views.proofs.artifacts.read_of_module.Goals as goal

pub returns-in-None-clause-reads : goal.returns-in-None-clause-reads
returns-in-None-clause-reads g c = finds_as (rw c.in-None.is at c.in_ok-found.ensures.reads) (λ r is. grind arith)

pub returns-then-ne-clause-reads : goal.returns-then-ne-clause-reads
returns-then-ne-clause-reads g c = finds_as (rw c.in-Some.is at c.in_ok-found.ensures.reads) (λ r is. grind (arith, c.ne.ensures, c.if-ne.true))

pub returns-clause-reads : goal.returns-clause-reads
returns-clause-reads g c = finds_as (rw c.in-Some.is at c.in_ok-found.ensures.reads) (λ r is. grind (arith, c.ne.ensures, c.if-ne.false))

pub returns-clause-agrees : goal.returns-clause-agrees
returns-clause-agrees g c = record {
  agrees = λ t was clean. record {
    row = ((rw c.in-Some.is at c.in_ok-found.ensures.tells).finds t was).1 clean;
    module_is = grind (arith, nat_tests, c.ne.ensures, c.if-ne.false);
  };
}
