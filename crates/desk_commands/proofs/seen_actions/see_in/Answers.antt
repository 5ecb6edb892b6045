use Rattle.desk_commands.proofs.Answering.{arith, sym, rules, ◌∙◌, both_found, finds_as, ok_or_some, sees, never, never_missing, reads_end}
use Rattle.desk_commands.proofs.ActionGroups.{has_group, never_beyond, own_is, rollout_is, rule_is_there}
use Rattle.desk_store.proofs.CallsInTurn.{stays_end, stays_then}
use Rattle.desk_commands.proofs.seen_actions.see_in.Goals as goal

pub returns-clause-stays : goal.returns-clause-stays
returns-clause-stays g c =
    let it = stays_then c.in_ok-read_rollout.ensures.stays _ (stays_then c.in_ok-found.ensures.stays _ c.in_ok-read_rule.ensures.stays) in grind arith

pub returns-clause-fails : goal.returns-clause-fails
returns-clause-fails g c = grind (arith, c.in_ok-read_rollout.ensures.fails, c.in_ok-found.ensures.fails, c.in_ok-read_rule.ensures.fails)

pub returns-in_err-found-clause-stays : goal.returns-in_err-found-clause-stays
returns-in_err-found-clause-stays g c =
    stays_end (stays_then c.in_ok-read_rollout.ensures.stays _ c.in_err-found.ensures.stays) _ c.from_residual-in_err-found.ensures.1

pub returns-in_err-own-clause-stays : goal.returns-in_err-own-clause-stays
returns-in_err-own-clause-stays g c =
    let it = stays_then c.in_ok-read_rollout.ensures.stays _ c.in_ok-found.ensures.stays in
    search (it, c.in_err-own.ensures.value, c.from_residual-in_err-own.ensures.1, rules)

pub returns-in_err-read_rule-clause-stays : goal.returns-in_err-read_rule-clause-stays
returns-in_err-read_rule-clause-stays g c =
    stays_end (stays_then c.in_ok-read_rollout.ensures.stays _ (stays_then c.in_ok-found.ensures.stays _ c.in_err-read_rule.ensures.stays)) _
    c.from_residual-in_err-read_rule.ensures.1

pub returns-in_err-rule-clause-stays : goal.returns-in_err-rule-clause-stays
returns-in_err-rule-clause-stays g c =
    let it = stays_then c.in_ok-read_rollout.ensures.stays _ (stays_then c.in_ok-found.ensures.stays _ c.in_ok-read_rule.ensures.stays) in
    search (it, c.in_err-rule.ensures.value, c.from_residual-in_err-rule.ensures.1, rules)

pub returns-in_err-found-clause-fails : goal.returns-in_err-found-clause-fails
returns-in_err-found-clause-fails g c = search (
  c.in_ok-read_rollout.ensures.fails,
  c.in_err-found.ensures.fails,
  c.from_residual-in_err-found.ensures.1,
  rules,
)

pub returns-in_err-read_rule-clause-fails : goal.returns-in_err-read_rule-clause-fails
returns-in_err-read_rule-clause-fails g c = search (
  c.in_ok-read_rollout.ensures.fails,
  c.in_ok-found.ensures.fails,
  c.in_err-read_rule.ensures.fails,
  c.from_residual-in_err-read_rule.ensures.1,
  rules,
)

pub returns-in_err-view-clause-stays : goal.returns-in_err-view-clause-stays
returns-in_err-view-clause-stays g c =
    search (
      c.in_ok-read_rollout.ensures.stays,
      c.in_ok-found.ensures.stays,
      c.in_ok-read_rule.ensures.stays,
      c.in_err-view.ensures.0,
      c.from_residual-in_err-view.ensures.1,
      rules,
    )

pub returns-clause-reads : goal.returns-clause-reads
returns-clause-reads g c =
    finds_as (both_found (both_found (rw c.get.ensures.value at c.in_ok-read_rollout.ensures.reads) c.in_ok-found.ensures.reads)
    c.in_ok-read_rule.ensures.reads)
    (λ l is. rw c.in_ok-view.ensures (sees l _ _ _ _ _ _ _ is.0.0 (ok_or_some _ c.in_ok-rollout.ensures.value) is.0.1 (ok_or_some _ c.in_ok-own.ensures.value)
    (sym is.1 ∙ ok_or_some _ c.in_ok-rule.ensures.value)))

pub returns-in_err-rollout-clause-fails : goal.returns-in_err-rollout-clause-fails
returns-in_err-rollout-clause-fails g c =
    reads_end (never (rw c.get.ensures.value at c.in_ok-read_rollout.ensures.reads)
    (λ l is given. never_missing _ c.in_err-rollout.ensures.value (rollout_is l _ (has_group _ _ l given) _ is)))
    c.from_residual-in_err-rollout.ensures.1

pub returns-in_err-own-clause-fails : goal.returns-in_err-own-clause-fails
returns-in_err-own-clause-fails g c =
    reads_end (never (both_found (rw c.get.ensures.value at c.in_ok-read_rollout.ensures.reads) c.in_ok-found.ensures.reads)
    (λ l is given. never_missing _ c.in_err-own.ensures.value (own_is l _ (has_group _ _ l given) _ is.1)))
    c.from_residual-in_err-own.ensures.1

pub returns-in_err-rule-clause-fails : goal.returns-in_err-rule-clause-fails
returns-in_err-rule-clause-fails g c =
    reads_end (never (both_found (both_found (rw c.get.ensures.value at c.in_ok-read_rollout.ensures.reads) c.in_ok-found.ensures.reads)
    c.in_ok-read_rule.ensures.reads)
    (λ l is given. never_missing _ c.in_err-rule.ensures.value
    (is.1 ∙ rule_is_there l _ (has_group _ _ l given) _ is.0.1 _ (ok_or_some _ c.in_ok-own.ensures.value))))
    c.from_residual-in_err-rule.ensures.1

pub returns-in_err-view-clause-fails : goal.returns-in_err-view-clause-fails
returns-in_err-view-clause-fails g c =
    reads_end (never (both_found (both_found (rw c.get.ensures.value at c.in_ok-read_rollout.ensures.reads) c.in_ok-found.ensures.reads)
    c.in_ok-read_rule.ensures.reads)
    (λ l is given. never_beyond l _ (has_group _ _ l given) _ is.0.1 _ (ok_or_some _ c.in_ok-own.ensures.value)
    c.in_err-view.ensures.1)) c.from_residual-in_err-view.ensures.1
