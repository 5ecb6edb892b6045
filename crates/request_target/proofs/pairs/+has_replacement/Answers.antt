use Rattle.request_target.proofs.PairLemmas.{short_has_none}
use Rattle.request_target.proofs.pairs.+has_replacement.Goals as goal

pub returns-in_default : goal.returns-in_default
returns-in_default t c = short_has_none c.args.text.now c.in_default.len_below
