-- What is said of the groups of a rollout, and how it is cut by that.
use Rattle.desk_verify.proofs.Common.{◌≡◌, ◌≤◌, ℕ, suc, ◌+◌, Bool, true, List, [], ◌∷◌, ◌++◌, length, Some, None, refl, sym, ap, subst, ◌∙◌, arith}
use Rattle.desk_verify.proofs.Common.{pos, and_parts, leb-true, Row, column, has_rowid, Grouping, is_grouping, GroupRule, IsOnly, Rollouts, IsRollout, Tables}
use Rattle.desk_verify.proofs.Common.{StoredRollout, SaysRule, HasGroupCount, HasRule, HaveRules, definitions_in, grouping_of, grouping_with, no_grouping}
use Rattle.desk_verify.proofs.Common.{HasOnlyRule, HaveOnlyRules, IsCutOnlyBy, HasRollout, Place, Rules}
use Rattle.rollout_model.specs.declared.group_definition.GroupDefinition.{GroupDefinition}
use Rattle.desk_store.specs.Unreadable.{IsUnreadableIn}
use Rattle.std.proofs.lemmas.Option.{cond_some}

-- ---- how many groups a rollout is to have

-- the rollout is there, and each row of it says that it is to have n groups
pub record IsGroupCount (t : Tables) (rollout n : ℕ) : Type 0 where
  pub there : HasGroupCount t rollout n
  pub only : (k : ℕ) → HasGroupCount t rollout k → k ≡ n

pub found_count : (t : Tables) (r : ℕ) (found : StoredRollout) → IsOnly (t Rollouts) (has_rowid (pos r)) IsRollout found → IsGroupCount t r found.plan.groups
found_count t r found one = grind arith

-- ---- rules

one_rule : (row : Row) (a b : GroupRule) → SaysRule row a → SaysRule row b → a ≡ b
one_rule row a b is other = grind (arith, column)

pub one_rule_more : (Has : ℕ → GroupRule → Type 0) (i : ℕ) (rules : List GroupRule) (rule : GroupRule) → HaveRules Has i rules → Has (i + length rules) rule
    → HaveRules Has i (rules ++ rule ∷ [])
one_rule_more Has i [] rule have has = (subst (λ k. Has k rule) (let e : i + 0 ≡ i = omega arith in e) has, tt)
one_rule_more Has i (first ∷ rules) rule have has = grind (arith, one_rule_more Has (suc i) rules rule have.1)

module _ (t : Tables) (r : ℕ) where
  are_said : (i : ℕ) (rules : List GroupRule) → HaveRules (HasOnlyRule t r) i rules → HaveRules (HasRule t r) i rules
  are_said i [] have = tt
  are_said i (rule ∷ rules) have = (have.0.said, are_said (suc i) rules have.1)

  same_rules : (i : ℕ) (rules others : List GroupRule) → HaveRules (HasRule t r) i others → HaveRules (HasOnlyRule t r) i rules → length others ≡ length rules
      → others ≡ rules
  same_rules i [] [] said only many = refl
  same_rules i [] (other ∷ others) said only many = absurd (omega (arith, many))
  same_rules i (rule ∷ rules) [] said only many = absurd (omega (arith, many))
  same_rules i (rule ∷ rules) (other ∷ others) said only many = grind (arith, same_rules (suc i) rules others said.1 only.1 (omega (arith, many)), one_rule)

-- ---- the grouping that they make

pub grouping_is : (n : ℕ) (ds : List GroupDefinition) (groups : Grouping) → grouping_with n ds ≡ Some groups → (groups ≡ record { count = n; definitions = ds })
    × (is_grouping groups ≡ true)
grouping_is n ds groups made = let it = cond_some _ _ _ made in grind (arith, it.0, it.1)

pub some_groups : (groups : Grouping) (rules : List GroupRule) → grouping_of rules ≡ Some groups → 1 ≤ groups.count
some_groups groups rules made = leb-true _ _ (and_parts _ _ (and_parts _ _ (grouping_is (length rules) (definitions_in rules) groups made).1).0).0

module _ (t : Tables) (r : ℕ) (found : StoredRollout) (has : HasRollout t r found) (rules : List GroupRule) (many : length rules ≡ found.plan.groups)
    (have : HaveOnlyRules t r rules) where
  count : IsGroupCount t r found.plan.groups
  count = found_count t r found has.is

  pub cut_only : (groups : Grouping) → grouping_with found.plan.groups (definitions_in rules) ≡ Some groups → IsCutOnlyBy t r groups
  cut_only groups made =
      let make : grouping_of rules ≡ Some groups = ap (λ n. grouping_with n (definitions_in rules)) many ∙ made in
      let is = (grouping_is found.plan.groups (definitions_in rules) groups made).0 in
      let there : HasGroupCount t r groups.count = subst (HasGroupCount t r) (ap (λ (g : Grouping). g.count) (sym is)) count.there in
      record {
        cut = record { there = there; rules = rules; have = are_said t r 1 rules have; make = make };
        only = λ others it. (let is = grouping_is (length it.rules) (definitions_in it.rules) others it.make in
            grind (arith, is, same_rules t r 1 rules it.rules it.have have, count.only others.count it.there));
      }

  pub none_made : grouping_with found.plan.groups (definitions_in rules) ≡ None → (reads : Place → Bool) → reads Rules ≡ true
      → IsUnreadableIn reads t
  none_made none reads is_read = record {
    there = is_read;
    what = no_grouping r rules (subst (HasGroupCount t r) (sym many) count.there) (are_said t r 1 rules have)
        (ap (λ n. grouping_with n (definitions_in rules)) many ∙ none);
  }
