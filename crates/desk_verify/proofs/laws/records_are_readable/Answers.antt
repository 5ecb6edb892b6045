use Rattle.desk_verify.proofs.ReadableRecords.{readable}
use Rattle.desk_verify.proofs.laws.records_are_readable.Goals as goal

pub returns : goal.returns
returns c = readable
