use Rattle.std.proofs.Common.{ap, ◌∙◌}
use Rattle.clap.specs.Words.{found_of}
use Rattle.clap.proofs.WalkLemmas.{first_value-rows}
use Rattle.command_line.specs.Orders.{number_in_range}
use Rattle.command_line.proofs.order.number.Goals as goal

pub returns : goal.returns
returns c =
    let given = c.get_str.ensures ∙ first_value-rows (found_of c.args.matches.now) c.args.id.now in
    c.number_given.ensures ∙ ap (number_in_range c.args.low c.args.high) given
