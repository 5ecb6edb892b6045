use Rattle.desk_opening.proofs.Common.{none_from_any, is_used, desk_names}
use Rattle.desk_opening.proofs.opening.uses_desk_name.Goals as goal

pub returns-clause-free : goal.returns-clause-free
returns-clause-free c = rw c.uses_name_of.ensures (none_from_any (is_used c.args.schema.now) desk_names)
