use Rattle.desk_opening.proofs.FailLemmas.{bare_fails}
use Rattle.desk_opening.proofs.FillLemmas.{one_filled}
use Rattle.sql_calls.proofs.Composing.{makes_as}
use Rattle.desk_opening.proofs.filling.fill_later.Goals as goal

pub returns-in-One-clause-writes : goal.returns-in-One-clause-writes
returns-in-One-clause-writes g c = makes_as (one_filled c.args.version c.in-One.is) _ c.write_rules.ensures.writes

pub returns-in-One-clause-fails : goal.returns-in-One-clause-fails
returns-in-One-clause-fails g c = bare_fails c.args.version c.in-One.is _ c.write_rules.ensures.fails
