-- From groups that were read to what is shown of them.
use Rattle.desk_views.proofs.Common.{◌≡◌, ◌≤◌, ◌<◌, ◌^◌, ◌⊎◌, ◌-◌, get_or, Result, IfErr, ℕ, zero, suc, slice_get, arith, List, [], ◌∷◌, map, length, Option}
use Rattle.desk_views.proofs.Common.{Some, None, refl, sym, ap, ◌∙◌, Fault, group_reply, if_found, item_numbered, group_shown, groups_shown, page_of, PageOf}
use Rattle.desk_views.proofs.Common.{ShownGroup, Page, group_numbered, size_of_group, GroupRecord, RolloutRecord, GroupRule, rule_at, rules_of, rule_is}
use Rattle.desk_views.proofs.Common.{parts_of, Broken, IfRowsBroken, HasUnshown, IsErrAnd}
use Rattle.rollout_machine.specs.Replies.{Reply}
use Rattle.std.proofs.lemmas.List.Elements.{Contains-get_or}
use Rattle.sqlite_rules.proofs.ListLemmas.{has_contained}
use Rattle.rollout_model.specs.declared.rollout_plan.RolloutPlan.{RolloutPlan}

pub groups_mapped : (x : RolloutRecord) (gs : List GroupRecord) → groups_shown x gs ≡ map (group_shown x) gs
groups_mapped x [] = refl
groups_mapped x (g ∷ gs) = ap (λ (l : List ShownGroup). group_shown x g ∷ l) (groups_mapped x gs)

pub groups_paged : (page : Page) (x : RolloutRecord) (shown : PageOf ShownGroup) → shown ≡ page_of page (map (group_shown x) x.groups)
    → shown ≡ page_of page (groups_shown x x.groups)
groups_paged page x shown is = is ∙ ap (page_of page) (sym (groups_mapped x x.groups))

-- the rule at a place among those of all groups
pub numbered_rule : (plan : RolloutPlan) (rules : List GroupRule) (i : ℕ) (rule : GroupRule) → rules ≡ rules_of plan → 1 ≤ i → slice_get rules (i - 1)
    ≡ Some rule → rule ≡ rule_at plan i
numbered_rule plan rules zero rule are least found = absurd (omega (arith, least))
numbered_rule plan rules (suc k) rule are least found =
    rule_is plan (suc k) rule (let before : suc k - 1 ≡ k = omega arith in ap (λ its. slice_get its k) (sym are) ∙ rw before at found)

-- a group that can't be shown, among all
pub unshown_at : {A : Type 0} (rules : List GroupRule) (groups : List GroupRecord) (at : ℕ) (d : GroupRecord) → at < length groups
    → (item_numbered rules (get_or groups at d).number ≡ None) ⊎ (2 ^ 32 ≤ size_of_group (get_or groups at d))
    → (fault : Fault) → fault ≡ Broken → (out : Result A Fault) → IsErrAnd out (λ other. other ≡ fault)
    → IfErr out (λ fault. IfRowsBroken fault (HasUnshown rules groups))
unshown_at rules groups at d within why fault broken out is =
    let bad : HasUnshown rules groups =
    record { group = get_or groups at d; among = has_contained groups _ (Contains-get_or groups at d within); unshown = why } in
    grind arith

-- ---- a group of a rollout

module _ (reply : RolloutRecord → GroupRecord → Reply) where
  pub one_group : (o : Option RolloutRecord) (i : ℕ) (g : GroupRecord) (made : Reply) → Some g ≡ group_numbered i (parts_of (λ (x : RolloutRecord). x.groups) o)
      → ((x : RolloutRecord) → o ≡ Some x → Some g ≡ group_numbered i x.groups → made ≡ reply x g)
      → made ≡ if_found (λ x. group_reply x i (reply x)) o
  one_group o i g made is so = grind arith
