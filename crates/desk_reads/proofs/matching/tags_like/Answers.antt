use Rattle.desk_reads.proofs.Common.{arith, finds_as, found_held}
use Rattle.std.proofs.lemmas.Bool.Decides.{nat_tests}
use Rattle.sql_calls.proofs.Composing.{known}
use Rattle.desk_reads.proofs.Matches.{one_tag_between, empty_tag}
use Rattle.desk_reads.proofs.Owned.{none_listed}
use Rattle.desk_reads.proofs.matching.tags_like.Goals as goal

pub returns-then-is_empty-clause-reads : goal.returns-then-is_empty-clause-reads
returns-then-is_empty-clause-reads g c =
    finds_as c.in_ok-all.ensures.reads (λ r is. empty_tag r c.args.tag.now _ _ (grind (arith, nat_tests, c.if-is_empty.true, c.is_empty.ensures)) is)

pub returns-in_default-clause-reads : goal.returns-in_default-clause-reads
returns-in_default-clause-reads g c = known (λ r. rw (c.in_default.ensures, c.new.ensures.items) (none_listed r c.args.tag.now))

pub returns-clause-reads : goal.returns-clause-reads
returns-clause-reads g c = finds_as (found_held (λ db r holds. holds.sorted) c.in_ok-owned.ensures.reads)
    (λ r is. one_tag_between r is.0 c.args.tag.now _ _ c.args.listed.now c.in_ok-owned.owned.items
    (grind (arith, nat_tests, c.if-is_empty.false, c.is_empty.ensures)) c.in-Some.ensures is.1)
