-- The turns that management gives a rollout.
use Rattle.std.specs.Prelude.{ℕ}
use Rattle.rollout_machine.specs.Commands.{Command, Approve, Deny, Start, Pause, Resume, TriggerNext}
use Rattle.mgmt_api.specs.declared.turn.RolloutTurn.{RolloutTurn}
use Rattle.mgmt_api.specs.declared.turn.RolloutTurn.TheVariants as turn

abbrev pub turn_command : RolloutTurn → ℕ → Command
turn_command turn.Approve number = Approve number
turn_command turn.Deny number = Deny number
turn_command turn.Start number = Start number
turn_command turn.Pause number = Pause number
turn_command turn.Resume number = Resume number
turn_command turn.TriggerNext number = TriggerNext number
