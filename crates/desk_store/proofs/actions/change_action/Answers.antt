use Rattle.desk_store.proofs.Answering.{arith, changes, set_action_is, sets_action, writes}
use Rattle.desk_store.proofs.actions.change_action.Goals as goal

pub returns-clause-writes : goal.returns-clause-writes
returns-clause-writes g c = writes (changes set_action_is) (sets_action c.args.number c.args.canceling c.args.outcome
    (record { notes = c.args.notes; entries = c.args.entries }) _ _ _) c.run.ensures.runs (grind arith)
