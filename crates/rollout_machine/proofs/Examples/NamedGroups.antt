-- Rollouts whose groups have percentages and thresholds of their own.
use Rattle.rollout_machine.proofs.Common.{◌≡◌, ℕ, true, false, List, [], ◌∷◌, ◌++◌, Some, None, refl, map, replicate, TooFewTargets, Bytes, Command}
use Rattle.rollout_machine.proofs.Common.{CreateRollout, RolloutPlan, Start, GroupDefinition, cut_by, leaves_empty, PausedRollout, RunningRollout, check}
use Rattle.rollout_model.specs.Groupings.{defined}
use Rattle.rollout_machine.specs.GroupRules.{rules_of}
use Rattle.rollout_machine.proofs.Examples.Fleet.{everyone, fails, only, plan_for, run_of, set_up, shown, succeeds}

abbrev definition : ℕ → ℕ → ℕ → GroupDefinition
definition percentage success error = record { percentage = percentage; success = success; error = error }

-- groups of so many percent
abbrev of_percent : List ℕ → List GroupDefinition
of_percent ps = map (λ p. definition p 50 50) ps

-- a tenth, then half of the rest, then all that are left
abbrev canary : List GroupDefinition
canary = definition 10 100 100 ∷ definition 50 20 60 ∷ definition 100 50 20 ∷ []

abbrev plan_by : Bytes → List GroupDefinition → RolloutPlan
plan_by text ds = record (plan_for text 1 1 50 20) { groups = defined ds }

bounds : cut_by (defined canary) 10 ≡ record { first = 1; last = 1 } ∷ record { first = 2; last = 6 } ∷ record { first = 7; last = 10 } ∷ []
bounds = refl

rules : rules_of (plan_by everyone canary) ≡ record { percentage = Some 10; success = 100; error = 100 }
    ∷ record { percentage = Some 50; success = 20; error = 60 } ∷ record { percentage = Some 100; success = 50; error = 20 } ∷ []
rules = refl

even_rules : rules_of (plan_for everyone 1 2 50 20) ≡ record { percentage = None; success = 50; error = 20 }
    ∷ record { percentage = None; success = 50; error = 20 } ∷ []
even_rules = refl

-- ---- a group that would be empty

-- nobody, two members of whom the first group takes both, and 199 of whom the first two take all
empty : map (leaves_empty (defined (of_percent (99 ∷ 50 ∷ 100 ∷ [])))) (0 ∷ 2 ∷ 199 ∷ 200 ∷ []) ≡ true ∷ true ∷ true ∷ false ∷ []
empty = refl

one_group : map (leaves_empty (defined (of_percent (100 ∷ [])))) (0 ∷ 1 ∷ []) ≡ true ∷ false ∷ []
one_group = refl

-- 49 groups of a percent, and one of those that are left
fifty_groups : map (leaves_empty (defined (of_percent (replicate 49 1 ++ 100 ∷ [])))) (49 ∷ 50 ∷ []) ≡ true ∷ false ∷ []
fifty_groups = refl

too_few : check (run_of set_up) (CreateRollout (plan_by (only 1) (of_percent (50 ∷ 100 ∷ [])))) ≡ Some TooFewTargets
too_few = refl

enough : check (run_of set_up) (CreateRollout (plan_by everyone canary)) ≡ None
enough = refl

-- ---- each group by its own thresholds

abbrev begun : List Command
begun = set_up ++ CreateRollout (plan_by everyone canary) ∷ Start 1 ∷ []

-- of ten members the first group has one, and the second five
first_succeeds : shown (run_of (begun ++ succeeds 1 1 ∷ [])) 1 ≡ Some (RunningRollout, (true, 1, 0, 0) ∷ (true, 0, 0, 0) ∷ (false, 0, 0, 0) ∷ [])
first_succeeds = refl

-- two failures of five are 40 percent: less than the group's 60, though more than the rollout's 20
two_fail : shown (run_of (begun ++ succeeds 1 1 ∷ fails 2 2 ∷ fails 3 3 ∷ [])) 1
    ≡ Some (RunningRollout, (true, 1, 0, 0) ∷ (true, 0, 2, 0) ∷ (false, 0, 0, 0) ∷ [])
two_fail = refl

three_fail : shown (run_of (begun ++ succeeds 1 1 ∷ fails 2 2 ∷ fails 3 3 ∷ fails 4 4 ∷ [])) 1
    ≡ Some (PausedRollout, (true, 1, 0, 0) ∷ (true, 0, 3, 0) ∷ (false, 0, 0, 0) ∷ [])
three_fail = refl

-- one success of five is the group's 20 percent, though less than the rollout's 50
third_starts : shown (run_of (begun ++ succeeds 1 1 ∷ succeeds 2 2 ∷ [])) 1 ≡ Some (RunningRollout, (true, 1, 0, 0) ∷ (true, 1, 0, 0) ∷ (true, 0, 0, 0) ∷ [])
third_starts = refl
