use Rattle.desk_reads.proofs.Common.{finds_as}
use Rattle.sql_calls.proofs.Composing.{known}
use Rattle.desk_reads.proofs.Matches.{attributes_named, no_attributes_named}
use Rattle.desk_reads.proofs.matching.named_attributes.Goals as goal

pub returns-then-not-names_attributes-clause-reads : goal.returns-then-not-names_attributes-clause-reads
returns-then-not-names_attributes-clause-reads g c = known (λ r. rw c.new.ensures.items (no_attributes_named r _ c.args.listed.now c.names_attributes.result
    c.names_attributes.ensures.computed c.if-not-names_attributes.true))

pub returns-clause-reads : goal.returns-clause-reads
returns-clause-reads g c = finds_as c.in_ok-all.ensures.reads (λ r is. attributes_named r _ c.args.listed.now c.in_ok-all.all.items is)
