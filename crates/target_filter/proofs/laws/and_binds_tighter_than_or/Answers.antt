use Rattle.target_filter.proofs.Precedence.{binds_right, binds_left}
use Rattle.target_filter.proofs.laws.and_binds_tighter_than_or.Goals as goal

pub returns-clause-right : goal.returns-clause-right
returns-clause-right c = λ a b c' p q r. binds_right a b c' p q r

pub returns-clause-left : goal.returns-clause-left
returns-clause-left c = λ a b c' p q r. binds_left a b c' p q r
