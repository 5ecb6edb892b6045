use Rattle.desk_files.proofs.Common.{◌++◌, sym, ap, ◌∙◌}
use Rattle.desk_files.specs.ActionTables.{action_line}
use Rattle.desk_files.proofs.TableFacts.{table_text-more}
use Rattle.desk_files.proofs.actions_table.table_text.Goals as goal

pub loop-action-preserved : goal.loop-action-preserved
loop-action-preserved c =
    let a = c.action-item.result in
    c.in_ok-push_action.ensures ∙ ap (λ text. text ++ action_line a) c.loop-action.invariant
    ∙ sym (table_text-more c.args.actions.now c.loop-action.action-index a c.loop-action-test.true c.action-item.is)
