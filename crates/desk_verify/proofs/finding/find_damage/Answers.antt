use Rattle.desk_verify.proofs.NeverNamed.{never_named}
use Rattle.desk_verify.proofs.finding.find_damage.Goals as goal

pub returns-clause-never : goal.returns-clause-never
returns-clause-never g c = never_named _ _ c.check_tables.result c.check_tables.ensures.judges
