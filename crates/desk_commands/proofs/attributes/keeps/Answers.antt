use Rattle.desk_commands.proofs.Answering.{arith}
use Rattle.desk_commands.proofs.AttributeLemmas.{any_key}
use Rattle.desk_commands.proofs.attributes.keeps.Goals as goal

pub returns-then-not-has_key : goal.returns-then-not-has_key
returns-then-not-has_key c = grind (arith, any_key c.args.attribute.now.key c.args.since.now, c.contains.ensures.value)

pub returns-else-not-has_key : goal.returns-else-not-has_key
returns-else-not-has_key c = grind (arith, any_key c.args.attribute.now.key c.args.since.now)
