-- The plans of accepted commands: each is well formed, and leaves no group of its members empty.
use Rattle.desk_verify.proofs.Common.{◌≡◌, ◌≤◌, ◌<◌, ℕ, zero, suc, ◌+◌, true, false, List, [], ◌∷◌, length, slice_get, Some, None, refl, sym, ap, subst}
use Rattle.desk_verify.proofs.Common.{arith, and_parts, eqb-true, define_each, item_numbered, CommandList, CreateRollout, RolloutPlan}
use Rattle.desk_verify.proofs.Common.{GroupRule, rule_at, rules_of, GroupDefinition, leaves_empty, IsValid, RolloutRecord, length_each, each_created, made}
use Rattle.desk_verify.proofs.Common.{told_rule, HaveRules, definitions_in, grouping_of, is_plan, each_rule, IsRuleRow}
use Rattle.rollout_machine.specs.Rollouts.{Rollout, size_of}
use Rattle.rollout_machine.specs.Ranges.{each_from}
use Rattle.rollout_machine.specs.Records.{records}
use Rattle.rollout_machine.specs.Verdicts.{verdict}
use Rattle.rollout_machine.proofs.AtNumbers.{of_rollout}
use Rattle.rollout_machine.proofs.Valid.{none_holds}
use Rattle.desk_verify.proofs.CodeLemmas.{percentage_is}
use Rattle.rollout_machine.proofs.Words.{members_of}

-- ---- plans

pub record IsPlanned (plan : RolloutPlan) (members : ℕ) : Type 0 where
  pub formed : is_plan plan ≡ true
  pub full : leaves_empty plan.groups members ≡ false

abbrev IsPlannedRollout : Rollout → Type 0
IsPlannedRollout x = IsPlanned x.plan (size_of x)

new_is_planned : (h : CommandList) (plan : RolloutPlan) → IsValid h → is_plan plan ≡ true → verdict h (CreateRollout plan) ≡ None
    → IsPlannedRollout (made plan (members_of plan.filter_text h))
unfolding records
new_is_planned h plan valid formed accepted = grind (arith, none_holds)

pub plans_are : (h : CommandList) → IsValid h → (r : ℕ) (y : RolloutRecord) → item_numbered (records h).rollouts r ≡ Some y
    → IsPlanned y.plan (length y.members)
plans_are h valid r y e = let of = of_rollout h r y e in subst (λ (z : RolloutRecord). IsPlanned z.plan (length z.members)) (sym of.is)
    (each_created IsPlannedRollout new_is_planned h valid r of.rollout of.there)

-- ---- the rules of a plan, as rows say them

pub rule_told : (plan : RolloutPlan) (i : ℕ) → is_plan plan ≡ true → IsRuleRow (told_rule (rule_at plan i)) (rule_at plan i)
rule_told plan i formed =
    each_rule (λ (rule : GroupRule). IsRuleRow (told_rule rule) rule) plan i formed
    (λ success error. record { percentage = refl; success = percentage_is plan.success success; error = percentage_is plan.error error })
    (λ d own. grind (arith, and_parts, own, percentage_is d.percentage, percentage_is d.success, percentage_is d.error))

-- ---- they make its grouping

pub each_has : (Has : ℕ → GroupRule → Type 0) (f : ℕ → GroupRule) (first n : ℕ) → ((i : ℕ) → first ≤ i → i < first + n → Has i (f i))
    → HaveRules Has first (each_from f first n)
each_has Has f first zero each = tt
each_has Has f first (suc n) each = grind (arith, each_has Has f (suc first) n)

-- a list is the rest of another from k on
abbrev IsRest : ℕ → List GroupDefinition → List GroupDefinition → Type 0
IsRest k all rest = (i j : ℕ) → i ≡ k + j → slice_get all i ≡ slice_get rest j

definitions_back : (plan : RolloutPlan) (k n : ℕ) (ds : List GroupDefinition) → IsRest k plan.groups.definitions ds → length ds ≤ n
    → definitions_in (each_from (rule_at plan) (suc k) n) ≡ ds
definitions_back plan k zero [] is few = refl
definitions_back plan k zero (d ∷ ds) is few = absurd (omega (arith, few))
definitions_back plan k (suc n) [] is few =
    rw (is k 0 (omega arith)) (definitions_back plan (suc k) n [] (λ i j same. is i (suc j) (omega (arith, same))) (omega arith))
definitions_back plan k (suc n) (d ∷ ds) is few =
    let rest = definitions_back plan (suc k) n ds (λ i j same. is i (suc j) (omega (arith, same))) (omega (arith, few)) in
    grind (arith, is k 0 (omega arith), rest)

no_more : (ds : List GroupDefinition) (count : ℕ) → define_each ds count ≡ true → length ds ≤ count
no_more ds count each = grind (arith, eqb-true, and_parts)

whole : (ds : List GroupDefinition) → IsRest 0 ds ds
whole ds i j same = let at : i ≡ j = omega (arith, same) in ap (slice_get ds) at

pub rules_make : (plan : RolloutPlan) → is_plan plan ≡ true → grouping_of (rules_of plan) ≡ Some plan.groups
rules_make plan formed = grind (arith, and_parts, no_more, definitions_back, whole, length_each)
