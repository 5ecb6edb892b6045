use Rattle.desk_files.proofs.Common.{records_of}
use Rattle.desk_files.proofs.ImportFacts.{Imported}
use Rattle.desk_files.proofs.import.read_targets.Given as goal

abbrev pub invariant-loop-line : goal.invariant-loop-line
invariant-loop-line l = Imported (records_of l.fn.bytes) l.rows l.line l.reader
