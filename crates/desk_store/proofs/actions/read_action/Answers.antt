use Rattle.desk_store.proofs.Answering.{[], arith, both_mapped, first_at, first_fails, get_action_is, gets_action, inl, inr, one_stored_action, reads_one}
use Rattle.desk_store.proofs.Answering.{shown_stored_action, stored_action, ◌∙◌}
use Rattle.desk_store.proofs.actions.read_action.Goals as goal

pub returns-clause-reads : goal.returns-clause-reads
returns-clause-reads g c = reads_one get_action_is _ (λ db l holds row shown. gets_action db l holds [] c.args.number (omega arith) row shown ∙ both_mapped
    shown_stored_action (stored_action l.records.rollouts) _) (first_at c.in_ok-row.ensures.takes (grind arith)) _ c.read_optional.ensures.ok one_stored_action

pub returns-clause-fails : goal.returns-clause-fails
returns-clause-fails g c = first_fails get_action_is _ (λ row is. inr (inl is)) c.in_ok-row.ensures.takes _ c.read_optional.ensures.err
