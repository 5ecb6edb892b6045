-- What a command adds to the work of a desk's store.
use Rattle.std.specs.Prelude.{◌≡◌, ◌≤◌, ◌+◌, true, IfSome}
use Rattle.rollout_machine.specs.Bounds.{is_feedback, statements_most}
use Rattle.rollout_machine.specs.Commands.{Command}
use Rattle.sql_calls.specs.declared.calls.Work.{Work}

-- it keeps to the command's bound
pub record AddsWithin (c : Command) (old new : Work) : Type 0 where
  pub run : IfSome (statements_most c) (λ most. new.statements ≤ old.statements + most)
  pub taken : is_feedback c ≡ true → new.rows ≤ old.rows + 24
