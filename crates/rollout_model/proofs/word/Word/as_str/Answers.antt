use Rattle.std.proofs.Common.{arith}
use Rattle.std.proofs.lemmas.Grind.{common_steps}
use Rattle.rollout_model.proofs.RuleLemmas.{spelled_is_utf8}
use Rattle.rollout_model.proofs.word.Word.as_str.Goals as goal

-- letters are ASCII
pub unwrap-requires : goal.unwrap-requires
unwrap-requires g c = grind (arith, common_steps, spelled_is_utf8 1 64, c.from_utf8.ensures.cases, c.as_bytes.ensures.word)
