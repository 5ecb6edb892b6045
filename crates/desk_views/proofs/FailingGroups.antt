-- Why the groups of a rollout of a list can be shown.
use Rattle.desk_views.proofs.Common.{◌≡◌, ◌≤◌, ◌<◌, ◌^◌, ◌⊎◌, ◌+◌, ℕ, zero, suc, List, [], ◌∷◌, length, take, drop, Some, None, inl, inr, sym, ap, subst, ◌∙◌}
use Rattle.desk_views.proofs.Common.{arith, Has, group_in, Records, Rollout, size_in, size_of, limits_hold, ledger_of, groups_of, rule_numbered, rules_numbered}
use Rattle.desk_views.proofs.Common.{rule_there, rules_there, BothOrNone, item_numbered, GroupRule, rules_of, group_numbered, size_of_group, GroupRecord}
use Rattle.desk_views.proofs.Common.{RolloutRecord, groups_are, made, AreOfList, IsSeenOf, SeenRollout, HasUnshown, IsGroupOf, has_dropped, has_taken}
use Rattle.rollout_machine.specs.Effects.{HasSoundPlan}
use Rattle.rollout_machine.specs.Ranges.{each_from}
use Rattle.rollout_machine.proofs.WithinLimits.{IsWithinLimits}
use Rattle.rollout_machine.proofs.Lists.{length_each}

-- ---- members of lists

has_each : (f : ℕ → GroupRecord) (a n : ℕ) (g : GroupRecord) → Has (each_from f a n) g → (k : ℕ) × (a ≤ k) × (k < a + n) × (g ≡ f k)
has_each f a zero g among = absurd among
has_each f a (suc n) g (inl same) = (a, omega arith, omega arith, same)
has_each f a (suc n) g (inr among) = let it = has_each f (suc a) n g among in (it.0, omega (arith, it.1), omega (arith, it.2), it.3)

pub numbered_has : (i : ℕ) (gs : List GroupRecord) (g : GroupRecord) → Some g ≡ group_numbered i gs → Has gs g
numbered_has i [] g is = absurd cc
numbered_has i (y ∷ gs) g is = grind (arith, numbered_has i gs g)

-- ---- the groups of a rollout

size_few : (y : Rollout) (k : ℕ) → HasSoundPlan y → 1 ≤ k → k ≤ y.plan.groups.count → size_in y k ≤ size_of y
size_few y k sound low high = omega (arith, sound.cut.rises k y.plan.groups.count high, sound.cut.whole)

module _ (r : Records) (of : AreOfList r) (number : ℕ) (x : RolloutRecord) (there : item_numbered r.rollouts number ≡ Some x) where
  limits : IsWithinLimits x
  limits = (limits_hold of.list of.valid).each number x (ap (λ (q : Records). item_numbered q.rollouts number) (sym of.are) ∙ there)

  few_groups : length x.groups ≤ 50
  few_groups =
      let it = made r of number x there in
      grind (arith, it.is, limits.groups, length_each (group_in it.made number of.list) 1 it.made.plan.groups.count)

  -- something is said of each, and it has no more members than are counted
  pub each_showable : (group : GroupRecord) → Has x.groups group → (item_numbered (rules_of x.plan) group.number ≡ None) ⊎ (2 ^ 32 ≤ size_of_group group) → ⊥
  each_showable group among why =
      let it = made r of number x there in
      let found = has_each (group_in it.made number of.list) 1 it.made.plan.groups.count group
      (subst (λ (q : RolloutRecord). Has q.groups group) it.is among) in
      let few = size_few it.made found.0 it.sound found.1 (omega (arith, found.2)) in
      let said = rule_there x.plan group.number in
      grind (arith, it.is, found.1, found.2, found.3, few, said, limits.members)

  all_showable : (rules : List GroupRule) (groups : List GroupRecord) → rules ≡ rules_numbered (ledger_of r).rules number
      → ((group : GroupRecord) → Has groups group → Has x.groups group) → HasUnshown rules groups → ⊥
  all_showable rules groups are within bad = grind (arith, each_showable, rules_there)

-- ---- of a rollout that was seen

module _ (r : Records) (of : AreOfList r) (number : ℕ) (seen : SeenRollout) (rules : List GroupRule) (are : rules ≡ rules_numbered (ledger_of r).rules number)
    (it : BothOrNone IsSeenOf (Some seen) (item_numbered r.rollouts number)) where
  seen_there : (Bad : Type 0) → ((x : RolloutRecord) → item_numbered r.rollouts number ≡ Some x → seen.groups.items ≡ x.groups → Bad → ⊥) → Bad → ⊥
  seen_there h0 never bad = grind arith

  -- its groups, all of them and those of a page
  pub groups_showable : HasUnshown rules seen.groups.items → ⊥
  groups_showable = seen_there _
      (λ x there its. all_showable r of number x there rules seen.groups.items are (λ group among. subst (λ gs. Has gs group) its among))

  pub page_showable : (limit offset : ℕ) → (2 ^ 32 ≤ length seen.groups.items) ⊎ HasUnshown rules (take limit (drop offset seen.groups.items)) → ⊥
  page_showable limit offset = seen_there _ (λ x there its bad.
      grind (
        arith,
        few_groups r of number x there,
        all_showable r of number x there rules (take limit (drop offset seen.groups.items)) are,
        has_dropped,
        has_taken,
      ))

-- ---- one group

-- a group that was read is one of the rollout
pub group_there : (r : Records) → AreOfList r → (number i : ℕ) (group : GroupRecord) → Some group
    ≡ group_numbered i (groups_of (item_numbered r.rollouts number)) → IsGroupOf number group r
group_there r of number i group is = grind (arith, groups_are, numbered_has)

module _ (r : Records) (of : AreOfList r) (number : ℕ) (group : GroupRecord) (it : IsGroupOf number group r) where
  -- .. of which something is said
  pub group_ruled : None ≡ rule_numbered (ledger_of r).rules number group.number → ⊥
  group_ruled none = each_showable r of number it.rollout it.there group it.among
      (inl (ap (λ rules. item_numbered rules group.number) (sym (rules_there r number it.rollout it.there)) ∙ sym none))

  pub group_small : 2 ^ 32 ≤ size_of_group group → ⊥
  group_small large = each_showable r of number it.rollout it.there group it.among (inr large)
