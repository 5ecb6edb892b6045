use Rattle.desk_verify.proofs.Common.{◌≡◌, ◌+◌, ◌∷◌, [], length, Err, sym, ap, subst, arith, rules, length-append, both_found, finds_as, Broken, blamed}
use Rattle.desk_verify.proofs.Common.{missing_rule, HasOnlyRule, HaveOnlyRules, BlamesGiven, ChecksGroups, IsAtRollout, err_from_is_err_and, unread, ◌∙◌}
use Rattle.sql_calls.specs.declared.fault.Fault.TheVariants.{Memory}
use Rattle.desk_verify.proofs.RuleLemmas.{found_count, one_rule_more}
use Rattle.desk_verify.proofs.groupings.read_rules.Goals as goal

pub returns-in_default-clause-blames : goal.returns-in_default-clause-blames
returns-in_default-clause-blames g c =
    blamed (both_found c.loop-before.invariant.reads (rw c.in_default.is at c.in_ok-rule.ensures.reads)) (Err Broken)
    (λ reading is (given : IsAtRollout ChecksGroups c.args.rollout.now.number c.args.rollout.now.rollout reading). unread reading
    (missing_rule c.args.rollout.now.number c.args.rollout.now.rollout.plan.groups (c.loop-before.before + 1)
    (found_count reading.tables c.args.rollout.now.number c.args.rollout.now.rollout given.has.is).there
    (omega arith) (omega (arith, c.loop-before-test.true, c.get-before-end.ensures.value)) is.1) given.given.rules)

pub returns-in_err-push-clause-blames : goal.returns-in_err-push-clause-blames
returns-in_err-push-clause-blames g c =
    let out = err_from_is_err_and c.from_residual-in_err-push.result c.from_residual-in_err-push.ensures.1 in
    subst (BlamesGiven g.S.Store (IsAtRollout ChecksGroups c.args.rollout.now.number c.args.rollout.now.rollout) c.args.calls.now c.find_rule.new.calls)
    (sym (out.1 ∙ ap Err out.2)) (blamed (both_found c.loop-before.invariant.reads c.in_ok-rule.ensures.reads) (Err Memory) tt)

pub loop-before-preserved : goal.loop-before-preserved
loop-before-preserved g c =
    let next : c.loop-before.before + 1 ≡ 1 + length c.loop-before.rules.items = omega (arith, c.loop-before.invariant.count) in
    record {
      stays = search rules;
      blames = search rules;
      reads = finds_as (both_found c.loop-before.invariant.reads (rw c.in-Some.is at c.in_ok-rule.ensures.reads))
          (λ t is. subst (HaveOnlyRules t c.args.rollout.now.number) (sym c.in_ok-push.ensures.items)
          (one_rule_more (HasOnlyRule t c.args.rollout.now.number) 1 c.loop-before.rules.items c.in-Some.rule is.0
          (subst (λ i. HasOnlyRule t c.args.rollout.now.number i c.in-Some.rule) next is.1)));
      count = omega (arith, ap length c.in_ok-push.ensures.items, length-append c.loop-before.rules.items (c.in-Some.rule ∷ []), c.loop-before.invariant.count);
    }
