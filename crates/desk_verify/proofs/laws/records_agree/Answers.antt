use Rattle.desk_verify.proofs.NeverNamed.{all_agree}
use Rattle.desk_verify.proofs.laws.records_agree.Goals as goal

pub returns : goal.returns
returns c = all_agree
