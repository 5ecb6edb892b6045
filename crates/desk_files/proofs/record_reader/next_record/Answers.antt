use Rattle.desk_files.proofs.Common.{fields_of}
use Rattle.desk_files.proofs.ReaderFacts.{next_gives}
use Rattle.desk_files.proofs.record_reader.next_record.Goals as goal

pub returns-clause-gives : goal.returns-clause-gives
returns-clause-gives c =
    next_gives c.args.reader.now c.read_byte_record.new.self c.in-Ok.found (fields_of c.read_byte_record.new.row) c.in-Ok.ensures.ready c.in-Ok.ensures.reads
