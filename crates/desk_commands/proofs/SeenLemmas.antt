-- An action as it is seen, and the views that the rules of commands rest on.
use Rattle.desk_commands.proofs.Common.{arith, ◌≡◌, ℕ, Option, Some, option_map, Ok, zip, ok_or, item_numbered, GroupRule}
use Rattle.desk_commands.proofs.Common.{GroupRecord, Ledger, stored_action, stored_rollout, group_and_next}
use Rattle.desk_commands.proofs.Common.{GroupAndNext, StoredAction, IsSeen, SeesIn, action_seen, SeenAction, groups_of, rule_numbered, StoredRollout}

-- ---- an action with its group and its rollout

pub ok_or_some : {A E : Type 0} {o : Option A} (e : E) {x : A} → Ok x ≡ ok_or o e → o ≡ Some x
ok_or_some e is = grind arith

pub sees : (l : Ledger) (k : ℕ) (action : StoredAction) (x : Option StoredRollout) (both : GroupAndNext) (rollout : StoredRollout) (own : GroupRecord)
    (rule : GroupRule) → x ≡ option_map stored_rollout (item_numbered l.records.rollouts action.rollout) → x ≡ Some rollout
    → both ≡ group_and_next action.position (groups_of (item_numbered l.records.rollouts action.rollout)) → both.group ≡ Some own
    → rule_numbered l.rules action.rollout own.number ≡ Some rule → SeesIn l k action (action_seen k action rollout rule own both.next)
sees l k action x both rollout own rule rollout_is there both_are held said = grind arith

pub seen_there : (l : Ledger) (k : ℕ) (action : StoredAction) (seen : SeenAction) → Some action
    ≡ option_map (stored_action l.records.rollouts) (item_numbered (zip l.records.actions l.tallies) k) → SeesIn l k action seen → IsSeen l k seen
seen_there l k action seen told in_it = grind (arith, sees)
