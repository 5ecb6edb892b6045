use Rattle.rollout_desk.proofs.Common.{◌≡◌, subst, rules, arith}
use Rattle.rollout_desk.specs.Looks.{Looked}
use Rattle.rollout_desk.proofs.LookLemmas.{found_in_vain, found_well}
use Rattle.rollout_desk.proofs.look.look.Goals as goal

pub returns-in-Ok-read : goal.returns-in-Ok-read
returns-in-Ok-read g c =
    let same : c.give_up.new.change.0 ≡ c.store-in-Ok-read-1.given.0 = search rules in
    let wears = rw c.calls.ensures.calls at c.in-Ok-read.ensures.wears in
    let stays = rw c.calls.ensures.calls at c.in-Ok-read.ensures.stays in
    let finds = rw c.calls.ensures.calls at c.in-Ok-read.ensures.finds in
    subst (λ h. Looked g.S.Store (g.Q.Question.finds c.args.it.now) c.args.store.now.calls h.calls c.give_up.result) same (record {
      wears = omega (arith, c.in-Ok.ensures.begun.wears, wears, c.give_up.ensures.ends.wears);
      tells = search rules;
      to = found_well _ _ _ _ _ _ c.in-Ok.ensures.begun c.in-Ok.ensures.tables wears c.in-Ok.ensures.grows.failures
          c.in-Ok-read.found c.give_up.result stays.frame finds stays.grows.failures
          c.give_up.ensures.ends c.give_up.ensures.fails;
    })

pub returns-in-Err-read : goal.returns-in-Err-read
returns-in-Err-read g c =
    let same : c.give_up-in-Err-read.new.change.0 ≡ c.store-in-Err-read-1.given.0 = search rules in
    let wears = rw c.calls.ensures.calls at c.in-Err-read.ensures.wears in
    let stays = rw c.calls.ensures.calls at c.in-Err-read.ensures.stays in
    let finds = rw c.calls.ensures.calls at c.in-Err-read.ensures.finds in
    subst (λ h. Looked g.S.Store (g.Q.Question.finds c.args.it.now) c.args.store.now.calls h.calls c.give_up-in-Err-read.result) same (record {
      wears = omega (arith, c.in-Ok.ensures.begun.wears, wears, c.give_up-in-Err-read.ensures.ends.wears);
      tells = search rules;
      to = found_in_vain _ _ _ _ _ _ c.in-Ok.ensures.begun c.in-Ok.ensures.tables wears c.in-Ok.ensures.grows.failures
          c.in-Err-read.fault _ c.give_up-in-Err-read.result c.refusal_of-in-Err-read.ensures stays.frame finds
          stays.grows c.give_up-in-Err-read.ensures.counts c.give_up-in-Err-read.ensures.ends c.give_up-in-Err-read.ensures.fails;
    })
