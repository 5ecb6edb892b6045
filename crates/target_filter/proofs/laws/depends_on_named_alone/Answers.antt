use Rattle.target_filter.proofs.Naming.{holds_alike}
use Rattle.target_filter.proofs.laws.depends_on_named_alone.Goals as goal

pub returns : goal.returns
returns c = λ tree t u h. holds_alike tree t u h
