-- What is said of the groups of a rollout, as it is read.
use Rattle.desk_reads.proofs.Common.{◌≡◌, ◌≤◌, ℕ, Some, sym, ap, ◌∙◌, arith, item_numbered, Records, RolloutRecord, each_there, numbered_each}
use Rattle.desk_reads.proofs.Common.{ledger_of, rule_numbered, rules_numbered, RolloutPlan, kept_if, is_number}
use Rattle.std.proofs.lemmas.Option.{slice_get-map}
use Rattle.rollout_machine.specs.GroupRules.{GroupRule, rule_at, rules_of}

-- those of a rollout that is there are its plan's
pub rules_there : (r : Records) (number : ℕ) (x : RolloutRecord) → item_numbered r.rollouts number ≡ Some x → rules_numbered (ledger_of r).rules number
    ≡ rules_of x.plan
rules_there r number x there = grind (arith, slice_get-map)

-- .. of which each is that of its number
pub rule_is : (plan : RolloutPlan) (i : ℕ) (rule : GroupRule) → item_numbered (rules_of plan) i ≡ Some rule → rule ≡ rule_at plan i
rule_is plan i rule there = (numbered_each (rule_at plan) plan.groups.count i rule there).2

-- .. and one is there for each group
pub rule_there : (plan : RolloutPlan) (i : ℕ) → 1 ≤ i → i ≤ plan.groups.count → item_numbered (rules_of plan) i ≡ Some (rule_at plan i)
rule_there plan i least most = grind (arith, each_there)

-- what is said of a group of a rollout that is there
pub said_of : (r : Records) (number i : ℕ) (x : RolloutRecord) (rule : GroupRule) → item_numbered r.rollouts number ≡ Some x → Some rule
    ≡ rule_numbered (ledger_of r).rules number i → rule ≡ rule_at x.plan i
said_of r number i x rule there found = rule_is x.plan i rule (ap (λ its. item_numbered its i) (sym (rules_there r number x there)) ∙ sym found)

-- a number in its range is itself
pub same_number : (n k : ℕ) → kept_if is_number n ≡ Some k → k ≡ n
same_number n k is = grind arith
