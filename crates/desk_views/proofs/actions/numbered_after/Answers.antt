use Rattle.desk_views.proofs.Answering.{◌+◌, sym, ap, ◌∙◌, arith, ◌++◌, ◌∷◌, [], length-append, numbered, entry_by, all_given, numbered_more}
use Rattle.desk_views.proofs.actions.numbered_after.Goals as goal

pub loop-entry-preserved : goal.loop-entry-preserved
loop-entry-preserved c =
    let shown = entry_by c.args.numbers.now in
    record {
      last = let more = length-append c.loop-entry.yielded (c.in-Some.entry ∷ []) in
          omega (arith, more, c.loop-entry.invariant.last, c.in-Some-checked_add.ensures);
      all = (rw c.number_at-number.ensures at c.in_ok-push.ensures.items)
          ∙ (λ i. c.loop-entry.invariant.all i ++ shown c.in-Some-checked_add.place c.in-Some.entry ∷ [])
          ∙ sym (numbered_more shown (c.args.before + 1) c.in-Some-checked_add.place c.loop-entry.yielded c.in-Some.entry
          (omega (arith, c.loop-entry.invariant.last)));
    }

pub returns-clause-ok : goal.returns-clause-ok
returns-clause-ok c =
    let given = all_given c.into_iter-entry-iterator.result _ c.next.new.self _ _ c.into_iter-entry-iterator.ensures.into_iter_gives.0 c.loop-entry.yielded_by
    c.in-None.ensures.steps in
    c.loop-entry.invariant.all ∙ ap (numbered (entry_by c.args.numbers.now) (c.args.before + 1)) given
