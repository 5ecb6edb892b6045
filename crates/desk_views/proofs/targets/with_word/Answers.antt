use Rattle.desk_views.proofs.Answering.{ap, ◌∙◌, finds_as, TargetWord}
use Rattle.desk_views.proofs.targets.with_word.Goals as goal

pub returns-clause-reads : goal.returns-clause-reads
returns-clause-reads g c =
    finds_as c.in_ok-word.ensures.reads
    (λ r is. c.shown_as.ensures
    ∙ ap (λ (w : TargetWord). record {
      id = c.args.target.id;
      name = c.args.target.name;
      tags = c.args.target.tags;
      attributes = c.args.target.attributes;
      word = w;
    }) is)
