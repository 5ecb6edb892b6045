-- What a text of one plain statement is compiled to.
use Rattle.sql_front.proofs.Common.{[], None, Parsed, Compiled}
use Rattle.sqlite_schema.specs.declared.command.Command.{Command}

-- the command, with no RETURNING and no time
abbrev pub plainly : Parsed → Command → Compiled
plainly p command = record { command = command; returning = None; names = p.names; formats = []; start = p.start; end = p.end; tail = p.tail }
