use Rattle.desk_views.proofs.Answering.{◌∙◌, finds_as}
use Rattle.desk_views.proofs.target_words.read_target_word.Goals as goal

pub returns-clause-reads : goal.returns-clause-reads
returns-clause-reads g c = finds_as c.in_ok-status.ensures.reads (λ r is. c.target_word.ensures.word ∙ is)
