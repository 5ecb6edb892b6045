use Rattle.http_wire.proofs.MessageLemmas.{reads_unique}
use Rattle.http_wire.proofs.stream.one_reading.Goals as goal

pub returns : goal.returns
returns c = reads_unique
