use Rattle.std.proofs.Common.{◌≡◌, ◌-◌, slice_get, ◌∙◌, arith}
use Rattle.std.proofs.lemmas.Grind.{common_steps}
use Rattle.std.proofs.lemmas.Option.{gets}
use Rattle.rollout_model.proofs.GroupingLemmas.{one_before}
use Rattle.rollout_model.proofs.grouping.Grouping.definition.Goals as goal

pub returns : goal.returns
returns c =
    let found : c.copied.result ≡ slice_get c.args.self.now.definitions (c.args.number - 1) =
    grind (arith, common_steps, gets, c.copied.ensures, c.get.ensures.lookup, c.definitions.ensures.value) in
    found ∙ one_before c.args.self.now.definitions c.args.number (omega (arith, c.if-number-eq0.false))
