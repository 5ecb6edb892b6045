use Rattle.target_filter.proofs.Common.{List, ℕ, inr, subst, arith, StopsBehind, Ends}
use Rattle.target_filter.proofs.Refusals.{syntax, too_deep, in_profile, outside_none, deep_none, within_fault}
use Rattle.target_filter.proofs.filter_text.Filter.read.Goals as goal

pub of-requires : goal.of-requires
of-requires c = in_profile c.args.text.now c.in-Ok.deepest (omega arith)
    (subst (λ (x : List ℕ). Ends x c.in-Ok.deepest) c.as_bytes.ensures.value c.in-Ok.ensures) (omega arith)

pub returns-in-Err-clause-fault : goal.returns-in-Err-clause-fault
returns-in-Err-clause-fault c = syntax c.args.text.now c.in-Err.at c.utf8.text (omega arith)
    (subst (λ (x : List ℕ). StopsBehind x c.in-Err.at) c.as_bytes.ensures.value c.in-Err.ensures)

pub returns-in-Err-clause-refused : goal.returns-in-Err-clause-refused
returns-in-Err-clause-refused c =
    inr (outside_none c.args.text.now
    (syntax c.args.text.now c.in-Err.at c.utf8.text (omega arith)
    (subst (λ (x : List ℕ). StopsBehind x c.in-Err.at) c.as_bytes.ensures.value c.in-Err.ensures)).1)

pub returns-in-Ok-clause-fault : goal.returns-in-Ok-clause-fault
returns-in-Ok-clause-fault c =
    too_deep c.args.text.now c.in-Ok.deepest (omega arith) (subst (λ (x : List ℕ). Ends x c.in-Ok.deepest) c.as_bytes.ensures.value c.in-Ok.ensures)
    (omega arith)

pub returns-in-Ok-clause-refused : goal.returns-in-Ok-clause-refused
returns-in-Ok-clause-refused c =
    inr (deep_none c.args.text.now
    (too_deep c.args.text.now c.in-Ok.deepest (omega arith) (subst (λ (x : List ℕ). Ends x c.in-Ok.deepest) c.as_bytes.ensures.value c.in-Ok.ensures)
    (omega arith)))

pub returns-in-Ok-2-clause-fault : goal.returns-in-Ok-2-clause-fault
returns-in-Ok-2-clause-fault c =
    within_fault c.args.text.now _ c.of.result
    (in_profile c.args.text.now c.in-Ok.deepest (omega arith) (subst (λ (x : List ℕ). Ends x c.in-Ok.deepest) c.as_bytes.ensures.value c.in-Ok.ensures)
    (omega arith)) c.of.ensures
