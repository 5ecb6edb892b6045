use Rattle.rollout_desk.proofs.Common.{◌≡◌, ap, Err, rules, ◌∙◌}
use Rattle.std.specs.Prelude.{None}
use Rattle.rollout_model.specs.declared.refusal.Refusal.TheVariants.{StoreFailed}
use Rattle.rollout_desk.proofs.PageLemmas.{learnt, page_answered, page_refused}
use Rattle.rollout_desk.proofs.knowing.show_learning.Goals as goal

pub returns-in-Ok : goal.returns-in-Ok
returns-in-Ok g c = record {
  runs = record {
    wears = c.look_at_ids.ensures.looks.wears;
    answers = page_answered _ _ c.args.page None _ (c.in-Ok.content, c.in-Ok.ids) c.in-Ok.content c.in-Ok.ids.items c.count_of-total.result
        c.count_of-total.ensures
        (rw c.in-Ok.is at c.look_at_ids.ensures.looks) (λ r _ is. is);
    tells = search rules;
    fails = λ is. absurd cc;
  };
  learns = learnt _ _ c.args.page c.in-Ok.content c.in-Ok.ids (rw c.in-Ok.is at c.look_at_ids.ensures.looks);
}

pub returns-in-Err : goal.returns-in-Err
returns-in-Err g c = record {
  runs = record {
    wears = c.look_at_ids.ensures.looks.wears;
    answers = page_refused _ _ c.args.page None _ c.in-Err.refusal (rw c.in-Err.is at c.look_at_ids.ensures.looks);
    tells = search rules;
    fails = λ is. let failed : c.in-Err.refusal ≡ StoreFailed = cc in c.look_at_ids.ensures.fails (c.in-Err.is ∙ ap Err failed);
  };
  learns = λ h clean standing. tt;
}
