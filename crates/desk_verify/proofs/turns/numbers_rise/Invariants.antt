use Rattle.desk_verify.proofs.Common.{◌≡◌, drop, map, ListedAction, rise, numbers_rise}
use Rattle.desk_verify.proofs.turns.numbers_rise.Given as goal

-- the rest rises where all do
abbrev pub invariant-loop-action : goal.invariant-loop-action
invariant-loop-action l = rise l.last (map (λ (a : ListedAction). a.number) (drop l.action-index l.actions)) ≡ numbers_rise l.fn.actions
