use Rattle.desk_store.proofs.Answering.{None, Some, append-nil, counted_of, pick_more, sym, ◌∙◌}
use Rattle.desk_store.proofs.actions.read_counted.Goals as goal

pub loop-row-preserved-in_default : goal.loop-row-preserved-in_default
loop-row-preserved-in_default c = sym (append-nil _) ∙ pick_more counted_of c.args.rows.now c.loop-row.found.items c.loop-row.row-index _ None
    c.loop-row-test.true c.row-item.is c.loop-row.invariant (sym c.in_default.is ∙ c.read_counted_action.ensures)

pub loop-row-preserved : goal.loop-row-preserved
loop-row-preserved c = c.in_ok-push.ensures.items ∙ pick_more counted_of c.args.rows.now c.loop-row.found.items c.loop-row.row-index _ (Some c.in-Some.action)
    c.loop-row-test.true c.row-item.is c.loop-row.invariant (sym c.in-Some.is ∙ c.read_counted_action.ensures)
