use native.Mathlib.Omega.{arith}
use Rattle.http_wire.proofs.Common.{AllPass-from_list_all, list_all-from_AllPass}
use Rattle.http_wire.proofs.head.is_origin_form.Goals as goal

pub returns-then-eq : goal.returns-then-eq
returns-then-eq c = grind (arith, AllPass-from_list_all, list_all-from_AllPass)
