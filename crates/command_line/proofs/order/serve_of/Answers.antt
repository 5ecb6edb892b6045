use Rattle.clap.specs.Words.{found_of, rows_of}
use Rattle.command_line.proofs.OrderLemmas.{no_connections}
use Rattle.command_line.proofs.order.serve_of.Goals as goal

pub returns-in_default-number-clause-err : goal.returns-in_default-number-clause-err
returns-in_default-number-clause-err c = no_connections (rows_of (found_of c.args.matches.now)) c.in_default-number.ensures
