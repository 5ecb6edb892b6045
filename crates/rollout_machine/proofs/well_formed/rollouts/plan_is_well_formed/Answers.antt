use Rattle.rollout_machine.proofs.Common.{rules}
use Rattle.std.proofs.lemmas.Str.{is_utf8-from_IsUtf8}
use Rattle.rollout_machine.proofs.well_formed.rollouts.plan_is_well_formed.Goals as goal

-- src/well_formed/rollouts.rt:34:1
pub returns : goal.returns
returns c = let utf8 = is_utf8-from_IsUtf8 c.as_str-filter.result.now (c.as_str-filter.utf8) in search (rules, utf8)
