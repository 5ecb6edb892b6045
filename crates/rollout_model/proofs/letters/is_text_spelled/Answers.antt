use Rattle.rollout_model.proofs.RuleLemmas.{and_utf8}
use Rattle.rollout_model.proofs.letters.is_text_spelled.Goals as goal

-- a `str` is UTF-8
pub returns : goal.returns
returns c = and_utf8 _ _ c.utf8.text (rw c.as_bytes.ensures.value at c.is_spelled_in_text_letters.ensures)
