-- A grouping that leaves no group empty is a cut, and each group has thresholds.
use native.Mathlib.Omega.{arith}
use Rattle.rollout_machine.proofs.Common.{◌≡◌, ◌≤◌, ℕ, zero, suc, true, false, List, [], ◌∷◌, ◌++◌, length, slice_get, Option, Some, None, refl, sym, ap}
use Rattle.rollout_machine.proofs.Common.{subst, ◌∙◌, is_some, AllByRecursion, list_all, and_parts, eqb-true, false≢true, leb-true, ltb-false, length-map}
use Rattle.rollout_machine.proofs.Common.{is_plan, RolloutPlan, GroupDefinition, GroupingCovers, last_defined, percentages, some_empty, IsCut, LeavesNoneEmpty}
use Rattle.rollout_machine.proofs.Common.{first_empty, split_last}
use Rattle.rollout_model.specs.Groupings.{define_each, ends_whole, is_definition}
use Rattle.rollout_model.specs.Limits.{limits}
use Rattle.rollout_model.specs.PlanRules.{rule_by}
use Rattle.rollout_model.specs.Rules.{is_between, is_group_count, is_percentage, item_numbered}
use Rattle.rollout_machine.specs.GroupRules.{GroupRule, rule_at}
use Rattle.rollout_machine.proofs.Cuts.{even_is_cut}
use Rattle.rollout_machine.proofs.Splits.{first_empty_tells, split_is_cut}

pub least : (low high n : ℕ) → is_between low high n ≡ true → low ≤ n
least low high n e = leb-true _ _ (and_parts _ _ e).0

-- ---- definitions split as their percentages do

-- percentages of which the last takes all that is left
record AreWhole (ps : List ℕ) : Type 0 where
  before : List ℕ
  are : ps ≡ before ++ 100 ∷ []
  some : AllByRecursion (λ p. 1 ≤ p) before

are_whole : (ds : List GroupDefinition) → list_all is_definition ds ≡ true → ends_whole ds ≡ true → AreWhole (percentages ds)
are_whole [] all e = absurd (false≢true e)
are_whole (d ∷ []) all e = record { before = []; are = ap (λ p. p ∷ []) (eqb-true d.percentage 100 e); some = tt }
are_whole (d ∷ next ∷ more) all e =
    let parts = and_parts (is_definition d) (list_all is_definition (next ∷ more)) all in
    let rest = are_whole (next ∷ more) parts.1 e in
    record {
      before = d.percentage ∷ rest.before;
      are = ap (λ ps. d.percentage ∷ ps) rest.are;
      some = (least 1 limits.percentage d.percentage (and_parts _ _ parts.0).0, rest.some);
    }

whole_is_cut : (ps : List ℕ) (m : ℕ) → AreWhole ps → LeavesNoneEmpty m ps → IsCut (split_last m ps) m (length ps)
whole_is_cut ps m w some = subst (λ qs. IsCut (split_last m qs) m (length qs)) (sym w.are)
    (split_is_cut m w.before w.some (subst (LeavesNoneEmpty m) w.are some))

no_first : (o : Option ℕ) → is_some o ≡ false → o ≡ None
no_first o e = grind arith

defined_is_cut : (ds : List GroupDefinition) (count m : ℕ) → is_group_count count ≡ true → define_each ds count ≡ true → some_empty ds count m ≡ false
    → IsCut (last_defined ds count m) m count
defined_is_cut [] count m some each none = even_is_cut m count (leb-true _ _ (and_parts _ _ some).0) (ltb-false _ _ none)
defined_is_cut (d ∷ ds) count m some each none =
    let parts = and_parts _ _ each in
    let rules = and_parts (list_all is_definition (d ∷ ds)) (ends_whole (d ∷ ds)) (and_parts _ _ parts.0).1 in
    let number : length (percentages (d ∷ ds)) ≡ count = length-map (d ∷ ds) (λ (e : GroupDefinition). e.percentage) ∙ eqb-true _ _ parts.1 in
    let first : first_empty m (percentages (d ∷ ds)) ≡ None = no_first _ none in
    subst (IsCut (split_last m (percentages (d ∷ ds))) m) number
    (whole_is_cut (percentages (d ∷ ds)) m (are_whole (d ∷ ds) rules.0 rules.1) (first_empty_tells m (percentages (d ∷ ds)) first))

pub grouping_is_cut : GroupingCovers
grouping_is_cut g m formed none = let parts = and_parts _ _ formed in defined_is_cut g.definitions g.count m parts.0 parts.1 none

-- ---- thresholds

each_is : (ds : List GroupDefinition) (i : ℕ) (d : GroupDefinition) → list_all is_definition ds ≡ true → slice_get ds i ≡ Some d → is_definition d ≡ true
each_is [] i d all at = absurd cc
each_is (e ∷ ds) zero d all at = let same : e ≡ d = cc in subst (λ f. is_definition f ≡ true) same (and_parts _ _ all).0
each_is (e ∷ ds) (suc i) d all at = each_is ds i d (and_parts _ _ all).1 at

numbered_is : (ds : List GroupDefinition) (count i : ℕ) (d : GroupDefinition) → define_each ds count ≡ true → item_numbered ds i ≡ Some d
    → is_definition d ≡ true
numbered_is ds count zero d each at = absurd cc
numbered_is [] count (suc i) d each at = absurd cc
numbered_is (e ∷ ds) count (suc i) d each at = each_is (e ∷ ds) i d (and_parts _ _ (and_parts _ _ (and_parts _ _ each).0).1).0 at

-- a group's thresholds are at least 1
pub record HasThresholds (s e : ℕ) : Type 0 where
  pub success : 1 ≤ s
  pub error : 1 ≤ e

thresholds : (success error : ℕ) → is_percentage success ≡ true → is_percentage error ≡ true → HasThresholds success error
thresholds success error s e = record { success = least 1 limits.percentage success s; error = least 1 limits.percentage error e }

-- what holds of the rollout's own thresholds, and of each definition that keeps its rules, holds of what is said of each group
pub each_rule : (P : GroupRule → Type 0) (plan : RolloutPlan) (i : ℕ) → is_plan plan ≡ true
    → (is_percentage plan.success ≡ true → is_percentage plan.error ≡ true → P (rule_by None plan))
    → ((d : GroupDefinition) → is_definition d ≡ true → P (rule_by (Some d) plan)) → P (rule_at plan i)
each_rule P plan i formed even defined =
    let parts = and_parts _ _ formed in
    let more = and_parts _ _ parts.1 in
    go (item_numbered plan.groups.definitions i) (even more.0 (and_parts _ _ more.1).0)
    (λ d at. defined d (numbered_is plan.groups.definitions plan.groups.count i d (and_parts _ _ parts.0).1 at))
  where
    go : (o : Option GroupDefinition) → P (rule_by None plan) → ((d : GroupDefinition) → o ≡ Some d → P (rule_by (Some d) plan)) → P (rule_by o plan)
    go None own each = own
    go (Some d) own each = each d refl

pub has_thresholds : (plan : RolloutPlan) (i : ℕ) → is_plan plan ≡ true → HasThresholds (rule_at plan i).success (rule_at plan i).error
has_thresholds plan i formed =
    each_rule (λ (rule : GroupRule). HasThresholds rule.success rule.error) plan i formed (thresholds plan.success plan.error)
    (λ d own. let parts = and_parts _ _ (and_parts _ _ own).1 in thresholds d.success d.error parts.0 parts.1)
