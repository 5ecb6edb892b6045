-- The rows of distribution sets.
use Rattle.rollout_machine.specs.Commands.{SetLabel}
use Rattle.desk_records.specs.declared.set_row.SetName.{SetName}

-- what a set is called
abbrev pub called : SetLabel → SetName
called set = record { name = set.name; version = set.version }
