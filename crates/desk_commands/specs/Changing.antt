-- What one command comes to inside a change that is under way, by the change before it and after it.
use Rattle.std.specs.Prelude.{Result}
use Rattle.sqlite.specs.Store.{Ghosts}
use Rattle.desk_store.specs.Changing.{seen_in}
use Rattle.sql_calls.specs.declared.calls.Calls.{Calls}
use Rattle.rollout_machine.specs.Commands.{Command}
use Rattle.desk_commands.specs.Steps.{Steps}
use Rattle.desk_commands.specs.declared.step.Step.{Step}

module _ {S : Type 0} (g : Ghosts S) where
  -- one command
  abbrev pub StepsIn : {E : Type 0} → Calls S → Calls S → Command → Result Step E → Type 0
  StepsIn old new c result = Steps (seen_in g old) (seen_in g new) c result
