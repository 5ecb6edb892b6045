use Rattle.desk_reads.proofs.Common.{◌∙◌}
use Rattle.desk_reads.specs.Targets.{listed_ids}
use Rattle.desk_reads.proofs.Owned.{attributes_left_more, one_more_own, tags_left_more, wrong_list}
use Rattle.desk_reads.proofs.targets.with_own.Goals as goal

pub loop-entry-preserved : goal.loop-entry-preserved
loop-entry-preserved c = record {
  tags = λ rise. let was = c.loop-entry.invariant.tags rise in
      tags_left_more c.loop-entry.yielded c.in-Some.entry c.args.tags.now c.loop-entry.tags_left.now _ was (c.in_ok-words.ensures.ok was.rise).1;
  attributes = λ rise. let was = c.loop-entry.invariant.attributes rise in
      attributes_left_more c.loop-entry.yielded c.in-Some.entry c.args.attributes.now c.loop-entry.attributes_left.now _ was
      (c.in_ok-own.ensures.ok was.rise).1;
  found = λ ordered tags_rise attributes_rise.
      let tags = c.loop-entry.invariant.tags tags_rise in
      let attributes = c.loop-entry.invariant.attributes attributes_rise in
      one_more_own c.args.tags.now c.args.attributes.now c.loop-entry.targets.items _ c.loop-entry.yielded c.in-Some.entry
      c.in_ok-words.words.items c.in_ok-own.own c.in_ok-target.target ordered
      (λ before. c.loop-entry.invariant.found before tags_rise attributes_rise)
      ((c.in_ok-words.ensures.ok tags.rise).0 ∙ tags.behind c.in-Some.entry.id)
      ((c.in_ok-own.ensures.ok attributes.rise).0 ∙ attributes.behind c.in-Some.entry.id) c.in_ok-target.ensures.ok c.in_ok-push.ensures.items;
}

pub returns-in_err-target-clause-err : goal.returns-in_err-target-clause-err
returns-in_err-target-clause-err c =
    wrong_list c.args.tags.now c.loop-entry.tags_left.now (listed_ids c.loop-entry.yielded) c.in-Some.entry.id c.in_ok-words.words.items
    c.loop-entry.invariant.tags (λ rise. (c.in_ok-words.ensures.ok rise).0) _ c.in_err-target.ensures.err _ c.from_residual-in_err-target.ensures.1
