use Rattle.desk_commands.proofs.Answering.{makes_nothing, makes_then, adds_none, none_left}
use Rattle.desk_commands.proofs.AdditionLemmas.{adds_first}
use Rattle.desk_commands.proofs.TagLemmas.{front}
use Rattle.desk_commands.proofs.sets.+write_modules.Goals as goal

pub returns-in-empty-clause-writes : goal.returns-in-empty-clause-writes
returns-in-empty-clause-writes g t c =
    makes_nothing (λ r next h. adds_none c.args.number c.args.before r next (rw (none_left c.args.modules.now c.in-empty.len_below) at h))

pub returns-in_ok-write_set_module-in-len1-up-clause-writes : goal.returns-in_ok-write_set_module-in-len1-up-clause-writes
returns-in_ok-write_set_module-in-len1-up-clause-writes g t c =
    makes_then c.in_ok-write_set_module-in-len1-up.ensures.writes
    (λ r next h. adds_first _ _ _ _ r next
    (rw (front c.args.modules.now c.first-item.result c.in-len1-up.len_at_least c.first-item.is) at h)) _ c.write_modules.ensures.writes
