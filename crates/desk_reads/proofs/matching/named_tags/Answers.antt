use Rattle.desk_reads.proofs.Common.{finds_as}
use Rattle.sql_calls.proofs.Composing.{known}
use Rattle.desk_reads.proofs.Matches.{all_tags_named, no_tags_named, tags_named}
use Rattle.desk_reads.proofs.matching.named_tags.Goals as goal

pub returns-then-not-names_tags-clause-reads : goal.returns-then-not-names_tags-clause-reads
returns-then-not-names_tags-clause-reads g c =
    known (λ r. rw c.new.ensures.items (no_tags_named r _ c.args.listed.now c.names_tags.result c.names_tags.ensures.computed
    c.if-not-names_tags.true))

pub returns-in_default-clause-reads : goal.returns-in_default-clause-reads
returns-in_default-clause-reads g c = finds_as c.in_ok-all.ensures.reads (λ r is. all_tags_named r _ c.args.listed.now c.in_ok-all.all.items is)

pub returns-clause-reads : goal.returns-clause-reads
returns-clause-reads g c = finds_as c.in_ok-owned.ensures.reads (λ r is. tags_named r _ c.args.listed.now c.in_ok-owned.owned.items _
    (rw (rw c.in-Ok.is at c.from_utf8.ensures.cases).0 c.only_tag.ensures.computed) is)
