use Rattle.desk_commands.proofs.Answering.{refl, given_viewed}
use Rattle.desk_commands.proofs.attributes.view_of.Goals as goal

pub returns : goal.returns
returns c = given_viewed c.args.known c.args.given.now c.args.had.now _ c.count_new.result refl c.count_new.ensures.all
