use Rattle.desk_opening.proofs.Common.{arith}
use Rattle.desk_opening.proofs.opening.open_desk.Goals as goal

pub returns-in-Ok-clause-opened : goal.returns-in-Ok-clause-opened
returns-in-Ok-clause-opened g c = grind (arith, c.in-Ok.ensures.opens, c.new-calls.ensures.conn, c.into_connection.ensures)
