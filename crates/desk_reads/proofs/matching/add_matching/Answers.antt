use Rattle.desk_reads.proofs.Common.{[], ◌∷◌, ap, sym, ◌∙◌}
use Rattle.std.specs.Prelude.{◌++◌}
use Rattle.std.proofs.lemmas.List.{append_assoc}
use Rattle.desk_reads.proofs.ListedTargets.{all_given}
use Rattle.desk_reads.proofs.Matches.{matched_more}
use Rattle.desk_reads.specs.Matches.{ids_matched}
use Rattle.desk_reads.proofs.matching.add_matching.Goals as goal

pub loop-target-preserved : goal.loop-target-preserved
loop-target-preserved c = λ f tree. c.in_ok-add_if_match.ensures.ok f tree
    ∙ ap (λ l. l ++ ids_matched f (c.in-Some.target ∷ [])) (c.loop-target.invariant f tree)
    ∙ append_assoc c.args.ids.now.items _ _ ∙ ap (λ l. c.args.ids.now.items ++ l) (sym (matched_more f c.loop-target.yielded c.in-Some.target))

pub returns-clause-ok : goal.returns-clause-ok
returns-clause-ok c =
    let given = all_given c.into_iter-target-iterator.result _ c.next.new.self _ _ c.into_iter-target-iterator.ensures.into_iter_gives.0
    c.loop-target.yielded_by c.in-None.ensures.steps in
    λ f tree. c.loop-target.invariant f tree ∙ ap (λ ts. c.args.ids.now.items ++ ids_matched f ts) given
