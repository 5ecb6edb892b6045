use Rattle.desk_views.proofs.FailingViews.{never_fails}
use Rattle.desk_views.proofs.Answering.{◌∙◌, found_if, contents_read, never_answers, told}
use Rattle.desk_views.proofs.artifacts.read_contents.Goals as goal

pub returns-clause-reads : goal.returns-clause-reads
returns-clause-reads g c = found_if c.in_ok-bytes.ensures.reads _ c.whole_contents.ensures.bytes (λ r y is got. got ∙ is)

pub returns-clause-fails : goal.returns-clause-fails
returns-clause-fails g c =
    never_answers c.in_ok-bytes.ensures.fails _ c.whole_contents.ensures.err
    (λ fault why. never_fails (λ l it. it.of_list) c.in_ok-bytes.ensures.reads fault (told fault why)
    (λ r found of it readable broken. contents_read r of c.args.number c.args.size _ found it.wanted broken) c.whole_contents.result)
