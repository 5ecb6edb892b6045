-- Command lists: each command is well formed and was accepted.
use Rattle.rollout_machine.specs.CommandList.{CommandList, Make, ◌▸◌}
use Rattle.rollout_machine.specs.CommandRules.{IsWellFormed}
use Rattle.rollout_machine.specs.Commands.{Command}
use Rattle.rollout_machine.specs.RecordSteps.{step_records}
use Rattle.rollout_machine.specs.Records.{records}
use Rattle.rollout_machine.specs.Verdicts.{verdict}
use Rattle.std.specs.Prelude.{◌≡◌, None, ⊤}

-- each command was accepted at the list before it
abbrev pub IsValid : CommandList → Type 0
IsValid (Make approval) = ⊤
IsValid (h ▸ c) = IsValid h × IsWellFormed c × (verdict h c ≡ None)

-- The records after each accepted command, found in the whole list, are one step from the records before it.
abbrev pub StepsRecords : Type 0
StepsRecords = (h : CommandList) (c : Command) → IsValid h → verdict h c ≡ None → records (h ▸ c) ≡ step_records (records h) c
