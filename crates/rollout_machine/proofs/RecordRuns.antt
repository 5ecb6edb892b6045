-- The records of a new desk, and those after commands.
use Rattle.std.specs.Prelude.{Bool, List, [], ◌∷◌}
use Rattle.rollout_machine.specs.Commands.{Command}
use Rattle.rollout_machine.specs.Records.{Records}
use Rattle.rollout_machine.specs.RecordSteps.{step_records}

abbrev pub no_records : Bool → Records
no_records approval = record { approval = approval; modules = []; artifacts = []; sets = []; targets = []; rollouts = []; actions = [] }

-- the records after these commands, the oldest first
abbrev pub run_records : Records → List Command → Records
run_records rs [] = rs
run_records rs (c ∷ cs) = run_records (step_records rs c) cs
