-- The groups of a rollout stand at their numbers.
use Rattle.desk_commands.proofs.Common.{◌≡◌, ℕ, suc, ◌+◌, true, false, cond, ◌||◌, List, [], ◌∷◌, map, Some, refl, sym, ap, ◌∙◌, arith, nat_eq}
use Rattle.desk_commands.proofs.Common.{slice_get, eq-eqb, eqb-true, nat_tests, or-false, or-true, item_numbered, CommandList, records, group_holding}
use Rattle.desk_commands.proofs.Common.{GroupRecord, RolloutRecord, set_numbered, numbered_from, of_group, of_rollout, start_group, started, None}
use Rattle.std.proofs.lemmas.List.Folds.{find_at}
use Rattle.std.proofs.lemmas.Bool.{cases_eq}
use Rattle.std.proofs.lemmas.Option.{same_Some}
use Rattle.std.specs.List.{position_or_len}
use Rattle.rollout_machine.proofs.Actions.{map_same}
use Rattle.rollout_machine.proofs.AtNumbers.{IsOfGroup}
use Rattle.rollout_machine.specs.Groups.{holds_position}
use Rattle.campaign_core.proofs.ItemLemmas.{picked}
use Rattle.desk_commands.proofs.ItemSteps.{set_elsewhere, set_is_change, set_is_there}

-- each group has the number of its place
abbrev pub Numbered : List GroupRecord → Type 0
Numbered gs = (j : ℕ) (g : GroupRecord) → item_numbered gs j ≡ Some g → g.number ≡ j

-- one of a rollout of accepted commands
pub group_there : (h : CommandList) (r : ℕ) (x : RolloutRecord) (at : item_numbered (records h).rollouts r ≡ Some x) (j : ℕ) (g : GroupRecord)
    → item_numbered x.groups j ≡ Some g → IsOfGroup h r (of_rollout h r x at).rollout j g
group_there h r x at j g its =
    let of = of_rollout h r x at in of_group h r of.rollout j g (ap (λ (z : RolloutRecord). item_numbered z.groups j) (sym of.is) ∙ its)

-- so it is of a list of accepted commands
pub numbered_groups : (h : CommandList) (r : ℕ) (x : RolloutRecord) → item_numbered (records h).rollouts r ≡ Some x → Numbered x.groups
numbered_groups h r x at j g its = ap (λ (z : GroupRecord). z.number) (group_there h r x at j g its).is

-- the one that holds a place stands at its number
pub held_stands : (gs : List GroupRecord) → Numbered gs → (p : ℕ) (g : GroupRecord) → group_holding p gs ≡ Some g → item_numbered gs g.number ≡ Some g
held_stands gs numbered p g is =
    let holds = λ (x : GroupRecord). holds_position p x.bounds in
    let at : slice_get gs (position_or_len holds gs) ≡ Some g = sym (find_at holds gs) ∙ is in
    ap (item_numbered gs) (numbered (suc (position_or_len holds gs)) g at) ∙ at

-- ---- renumbered

renumbered : (n : ℕ) (gs : List GroupRecord) → ((j : ℕ) (g : GroupRecord) → slice_get gs j ≡ Some g → g.number ≡ n + j) → numbered_from n gs ≡ gs
renumbered n [] are = refl
renumbered n (g ∷ gs) are =
    let own : n ≡ g.number = omega (arith, are 0 g refl) in
    λ i. record g { number = own i } ∷ renumbered (n + 1) gs (λ j x at. let it = are (suc j) x at in omega (arith, it)) i

pub same_groups : (gs : List GroupRecord) → Numbered gs → numbered_from 1 gs ≡ gs
same_groups gs numbered = renumbered 1 gs (λ j g at. let it = numbered (suc j) g at in omega (arith, it))

-- ---- one of them changes

-- what leaves the groups of all other numbers
pub only_at : (f : GroupRecord → GroupRecord) (k : ℕ) (gs : List GroupRecord) (g : GroupRecord) → Numbered gs → item_numbered gs k ≡ Some g
    → ((x : GroupRecord) → nat_eq x.number k ≡ false → f x ≡ x) → map f gs ≡ set_numbered gs k (f g)
only_at f k gs g numbered at still =
    map_same f (λ (x : GroupRecord). cond (nat_eq x.number k) (f x) x) (λ x. grind (arith, still x)) gs
    ∙ picked (λ (x : GroupRecord). nat_eq x.number k) f k gs (record {
      only = λ j x its same. sym (numbered j x its) ∙ eqb-true x.number k same;
      here = λ x its. eq-eqb x.number k (numbered k x its);
    }) ∙ set_is_change f k gs g at

pub started_one : (n : ℕ) (gs : List GroupRecord) (g : GroupRecord) → Numbered gs → item_numbered gs n ≡ Some g → map (start_group (Some n)) gs
    ≡ set_numbered gs n (started g)
started_one n gs g numbered at =
    let on : (g.started || nat_eq n g.number) ≡ true = ap (λ b. g.started || b) (eq-eqb n g.number (sym (numbered n g at))) ∙ or-true g.started in
    only_at (start_group (Some n)) n gs g numbered at (λ x other. grind (arith, nat_tests, or-false x.started, other))
    ∙ ap (set_numbered gs n) (λ i. record g { started = on i })

pub starts_none : (gs : List GroupRecord) → map (start_group None) gs ≡ gs
starts_none [] = refl
starts_none (g ∷ gs) = λ i. record g { started = or-false g.started i } ∷ starts_none gs i

pub set_numbered_still : (gs : List GroupRecord) (k : ℕ) (y g : GroupRecord) → Numbered gs → item_numbered gs k ≡ Some y → g.number ≡ k
    → Numbered (set_numbered gs k g)
set_numbered_still gs k y g numbered its same j x at = grind (arith, cases_eq, set_is_there, same_Some, set_elsewhere)
