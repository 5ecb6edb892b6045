use Rattle.desk_commands.proofs.Answering.{◌∙◌, ap, contains_word, length, both_found, finds_as, any_word}
use Rattle.desk_commands.proofs.tags.read_view.Goals as goal

pub returns-clause-reads : goal.returns-clause-reads
returns-clause-reads g c =
    finds_as (both_found c.in_ok-misses_target.ensures.reads c.in_ok-tags.ensures.reads)
    (λ r is. record {
      misses_target = is.0;
      same = rw c.deref.ensures.value at c.contains.ensures.value ∙ any_word c.args.tag.now c.in_ok-tags.tags.items
          ∙ ap (contains_word c.args.tag.now) is.1;
      count = c.len.ensures ∙ c.in_ok-tags.tags.ok.0 ∙ ap length is.1;
    })
