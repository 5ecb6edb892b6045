use Rattle.desk_verify.proofs.Common.{both_found, finds_as}
use Rattle.desk_verify.proofs.MemberLemmas.{agrees}
use Rattle.desk_verify.proofs.members.check_members.Goals as goal

pub returns-clause-judges : goal.returns-clause-judges
returns-clause-judges g c = finds_as (both_found (rw c.in-Some.is at c.in_ok-listed.ensures.judges) c.in_ok-all.ensures.reads)
    (λ t is. agrees t c.in-Some.listed c.in_ok-all.all is.0 is.1)
