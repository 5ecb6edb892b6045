use Rattle.desk_verify.proofs.Common.{Some, None, sym, ◌∙◌, append-nil, definition_by}
use Rattle.desk_store.proofs.ReadLemmas.{pick_more}
use Rattle.desk_verify.proofs.groupings.definitions_in.Goals as goal

pub loop-rule-preserved-in_default : goal.loop-rule-preserved-in_default
loop-rule-preserved-in_default c = sym (append-nil _) ∙ pick_more definition_by c.args.rules.now c.loop-rule.definitions.items c.loop-rule.rule-index _ None
    c.loop-rule-test.true c.rule-item.is c.loop-rule.invariant (sym c.in_default.is ∙ c.definition_by.ensures)

pub loop-rule-preserved : goal.loop-rule-preserved
loop-rule-preserved c =
    c.in_ok-push.ensures.items ∙ pick_more definition_by c.args.rules.now c.loop-rule.definitions.items c.loop-rule.rule-index _ (Some c.in-Some.definition)
    c.loop-rule-test.true c.rule-item.is c.loop-rule.invariant (sym c.in-Some.is ∙ c.definition_by.ensures)
