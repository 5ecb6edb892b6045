use Rattle.desk_opening.proofs.Common.{not, sym, ap, ◌∙◌, true≢false, StandsSomewhere, table_at}
use Rattle.desk_opening.proofs.VersionLemmas.{all_seen, each_seen, none_used, not_used, some_used}
use Rattle.desk_opening.proofs.opening.has_tables_of.Goals as goal

pub returns-clause-found : goal.returns-clause-found
returns-clause-found c = λ yes. record {
  stands = all_seen _ _ c.tables_at-table-items.ensures (λ t. StandsSomewhere c.args.schema.now (table_at t 0)) c.loop-table.table-index c.loop-table-test.false
      c.loop-table.invariant;
  free = none_used _ _ c.tables_after.ensures c.args.schema.now (sym c.uses_name_of.ensures ∙ not_used c.uses_name_of.result yes);
}

pub returns-then-not-branch-clause-missing : goal.returns-then-not-branch-clause-missing
returns-then-not-branch-clause-missing c = λ no has.
    c.in_ok-has_table.ensures.missing c.if-not-branch.true
    (each_seen _ _ c.tables_at-table-items.ensures (λ t. StandsSomewhere c.args.schema.now (table_at t 0)) has.stands c.loop-table.table-index _
    c.loop-table-test.true)

pub returns-clause-missing : goal.returns-clause-missing
returns-clause-missing c = λ no has. true≢false (sym (ap not (c.uses_name_of.ensures ∙ some_used _ _ c.tables_after.ensures c.args.schema.now has.free)) ∙ no)
