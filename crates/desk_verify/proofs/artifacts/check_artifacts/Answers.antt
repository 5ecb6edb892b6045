use Rattle.desk_verify.proofs.Common.{finds_as, found_then}
use Rattle.desk_verify.proofs.ArtifactLemmas.{by_each, row_broken}
use Rattle.desk_verify.proofs.artifacts.check_artifacts.Goals as goal

pub returns-in_default-clause-judges : goal.returns-in_default-clause-judges
returns-in_default-clause-judges g c = finds_as (rw c.in_default.is at c.in_ok-artifacts.ensures.reads) row_broken

pub returns-clause-judges : goal.returns-clause-judges
returns-clause-judges g c =
    found_then (rw c.in-Some.is at c.in_ok-artifacts.ensures.reads) c.are_whole.result (rw c.deref.ensures.value at c.are_whole.ensures.judges)
    (λ t whole are each. by_each t c.in-Some.artifacts.items whole are each)
