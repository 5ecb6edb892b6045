use Rattle.desk_verify.proofs.Common.{arith}
use Rattle.desk_verify.proofs.groupings.grouping_with.Goals as goal

pub returns-then-len-get : goal.returns-then-len-get
returns-then-len-get c = grind (arith, c.is_empty.ensures, c.if-is_empty.false, c.len.ensures, c.if-len-get.true)

pub returns-in-Some : goal.returns-in-Some
returns-in-Some c = grind (arith, c.is_empty.ensures, c.if-is_empty.false, c.len.ensures, c.if-len-get.false, c.in-Some.ensures, c.defined.ensures)
