use Rattle.target_filter.proofs.IdStarts.{begins_so}
use Rattle.target_filter.proofs.laws.tells_id_start.Goals as goal

pub returns : goal.returns
returns c = λ tree target h. begins_so tree target h
