-- What is said of groups, in lists alone.
use Rattle.desk_opening.proofs.Common.{arith, ◌≡◌, ℕ, zero, suc, List, [], ◌∷◌, length, map, set, slice_get, Some, refl, ap, ap₂, sym, AllByRecursion}
use Rattle.desk_opening.proofs.Common.{even_rules, rules_of, RolloutRecord, IsEven, no_rules}
use Rattle.std.specs.Prelude.{◌≤◌}
use Rattle.rollout_model.specs.declared.group_rule.GroupRule.{GroupRule}
use Rattle.desk_records.specs.Holds.{Ledger}
use Rattle.desk_records.specs.LedgerSteps.{with_rules}

-- ---- one in place of another

pub got_set : {X : Type 0} (xs : List X) (k : ℕ) (x y : X) → slice_get xs k ≡ Some x → slice_get (set xs k y) k ≡ Some y
got_set (z ∷ xs) (suc k) x y there = got_set xs k x y there
got_set xs k x y there = grind arith

pub set_same : {X : Type 0} (xs : List X) (k : ℕ) (x : X) → slice_get xs k ≡ Some x → set xs k x ≡ xs
set_same (z ∷ xs) (suc k) x there = ap (λ l. z ∷ l) (set_same xs k x there)
set_same xs k x there = grind arith

-- ---- of the first so many rollouts

-- of the groups of the first so many rollouts what each rollout says of all, and nothing of the others
abbrev pub rules_up_to : ℕ → List RolloutRecord → List (List GroupRule)
rules_up_to k [] = []
rules_up_to zero (x ∷ xs) = [] ∷ rules_up_to zero xs
rules_up_to (suc k) (x ∷ xs) = even_rules x.plan ∷ rules_up_to k xs

-- this is said of them
pub record WritesUpTo (k : ℕ) (l next : Ledger) : Type 0 where
  pub none : l.rules ≡ no_rules l.records.rollouts
  pub within : k ≤ length l.records.rollouts
  pub next_is : next ≡ with_rules l (rules_up_to k l.records.rollouts)

pub none_said : (xs : List RolloutRecord) → rules_up_to zero xs ≡ no_rules xs
none_said [] = refl
none_said (x ∷ xs) = ap (λ l. [] ∷ l) (none_said xs)

pub none_yet : (k : ℕ) (xs : List RolloutRecord) (x : RolloutRecord) → slice_get xs k ≡ Some x → slice_get (rules_up_to k xs) k ≡ Some []
none_yet (suc k) (y ∷ xs) x there = none_yet k xs x there
none_yet zero (y ∷ xs) x there = refl
none_yet k [] x there = absurd cc

pub one_more : (k : ℕ) (xs : List RolloutRecord) (x : RolloutRecord) → slice_get xs k ≡ Some x → set (rules_up_to k xs) k (even_rules x.plan)
    ≡ rules_up_to (suc k) xs
one_more (suc k) (y ∷ xs) x there = ap (λ l. even_rules y.plan ∷ l) (one_more k xs x there)
one_more zero (y ∷ xs) x there = let is : x ≡ y = cc in ap (λ (z : RolloutRecord). even_rules z.plan ∷ rules_up_to zero xs) is
one_more k [] x there = absurd cc

pub all_said : (xs : List RolloutRecord) → rules_up_to (length xs) xs ≡ map (λ (x : RolloutRecord). even_rules x.plan) xs
all_said [] = refl
all_said (x ∷ xs) = ap (λ l. even_rules x.plan ∷ l) (all_said xs)

-- where no plan says anything of single groups
pub all_even : (xs : List RolloutRecord) → AllByRecursion IsEven xs → map (λ (x : RolloutRecord). even_rules x.plan) xs
    ≡ map (λ (x : RolloutRecord). rules_of x.plan) xs
all_even [] even = refl
all_even (x ∷ xs) even = ap₂ ◌∷◌ (sym even.0) (all_even xs even.1)
