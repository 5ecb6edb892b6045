use Rattle.desk_verify.proofs.Common.{◌≡◌, false, Err, map, sym, ◌∙◌, Broken, ListedAction, rise, twin_actions, blamed, unread}
use Rattle.desk_verify.proofs.Causes.{together}
use Rattle.desk_verify.proofs.actions.actions_of.Goals as goal

pub returns-then-not-numbers_rise-clause-blames : goal.returns-then-not-numbers_rise-clause-blames
returns-then-not-numbers_rise-clause-blames g c =
    let told : rise 0 (map (λ (a : ListedAction). a.number) c.in-Some.actions.items) ≡ false =
    rw c.deref.ensures.value at (sym c.numbers_rise.ensures ∙ c.if-not-numbers_rise.true) in
    blamed (together (rw c.in-Some.is at c.in_ok-actions.ensures.reads) (rw c.in-Some.is at c.in_ok-actions.ensures.order)) (Err Broken)
    (λ reading is given. unread reading
    (twin_actions c.args.number (record { found = c.in-Some.actions.items; said = is.0; in_order = is.1; twins = told })) given)
