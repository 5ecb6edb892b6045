use Rattle.desk_verify.proofs.Common.{◌≡◌, Ok, length, Fault, BlamesGiven, FindsTables, StaysIn, HaveOnlyRules, ChecksGroups, IsAtRollout}
use Rattle.desk_verify.proofs.groupings.read_rules.Given as goal

-- the rules of the groups so far
abbrev pub invariant-loop-before : goal.invariant-loop-before
invariant-loop-before g l = record {
  stays : StaysIn g.S.Store l.fn.calls l.calls (Ok (tt {0}));
  blames : BlamesGiven g.S.Store (IsAtRollout ChecksGroups l.rollout.number l.rollout.rollout) l.fn.calls l.calls (Ok (tt {0}));
  reads : FindsTables g.S.Store {E = Fault} l.fn.calls l.calls (Ok l.rules.items) (λ t rules. HaveOnlyRules t l.rollout.number rules);
  count : length l.rules.items ≡ l.before;
}
