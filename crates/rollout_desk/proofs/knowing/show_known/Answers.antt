use Rattle.rollout_desk.proofs.Common.{◌≡◌, ap, Err, rules, ◌∙◌}
use Rattle.std.specs.Prelude.{Some}
use Rattle.rollout_model.specs.declared.refusal.Refusal.TheVariants.{StoreFailed}
use Rattle.rollout_desk.proofs.PageLemmas.{page_answered, page_refused}
use Rattle.rollout_desk.proofs.knowing.show_known.Goals as goal

pub returns-in-Ok : goal.returns-in-Ok
returns-in-Ok g c = record {
  runs = record {
    wears = c.look_at_page.ensures.looks.wears;
    answers = page_answered _ _ c.args.page (Some c.args.ids.now) _ c.in-Ok.content c.in-Ok.content c.args.ids.now.items c.count_of.result c.count_of.ensures
        (rw c.in-Ok.is at c.look_at_page.ensures.looks) (λ r are is. (are, is (c.deref.ensures.value ∙ are)));
    tells = search rules;
    fails = λ is. absurd cc;
  };
}

pub returns-in-Err : goal.returns-in-Err
returns-in-Err g c = record {
  runs = record {
    wears = c.look_at_page.ensures.looks.wears;
    answers = page_refused _ _ c.args.page (Some c.args.ids.now) _ c.in-Err.refusal (rw c.in-Err.is at c.look_at_page.ensures.looks);
    tells = search rules;
    fails = λ is. let failed : c.in-Err.refusal ≡ StoreFailed = cc in c.look_at_page.ensures.fails (c.in-Err.is ∙ ap Err failed);
  };
}
