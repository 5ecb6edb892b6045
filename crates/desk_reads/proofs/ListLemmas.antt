-- What the records of a list of accepted commands have.
use Rattle.desk_reads.proofs.Common.{◌≡◌, ◌≤◌, ◌<◌, ◌-◌, ℕ, zero, suc, ◌+◌, length, Option, Some, None, Result}
use Rattle.desk_reads.proofs.Common.{refl, sym, ap, subst, ◌∙◌, arith, add-one, finds_as, item_numbered, CommandList, Records, group_in, rollout_in}
use Rattle.desk_reads.proofs.Common.{rollouts_in, IsValid, RolloutRecord, each_there, length_each, HoldsLedger, ledger_of, parts_of, groups_of, numbered_from}
use Rattle.desk_reads.proofs.Common.{AreOfList, last_place, Rollout, first_of, rollout_at, rollouts, size_in, size_of}
use Rattle.sqlite.specs.State.{State}
use Rattle.sql_calls.specs.Standing.{Finds}
use Rattle.rollout_machine.specs.Records.{records}
use Rattle.rollout_machine.specs.Effects.{HasSoundPlan}
use Rattle.rollout_machine.specs.Ranges.{each_from}
use Rattle.rollout_machine.specs.StateWords.{group_numbered}
use Rattle.rollout_machine.specs.declared.records.GroupRecord.{GroupRecord}
use Rattle.rollout_machine.proofs.Induction.{invariant_of, no_record}
use Rattle.rollout_machine.proofs.Whole.{rollout_numbered}
use Rattle.rollout_machine.proofs.Words.{size_of_group}

-- what answers for all records answers at lists
pub at_lists : {A E : Type 0} {a b : State} {P : Records → A → Type 0} → (out : Result A E) → Finds HoldsLedger ledger_of a b out P
    → Finds HoldsLedger ledger_of a b out (λ r it. AreOfList r → P r it)
at_lists out read = grind (arith, finds_as)

-- ---- a rollout of such a list

-- a rollout record of number r, of a rollout that was created by the list
pub record IsMade (h : CommandList) (r : ℕ) (x : RolloutRecord) : Type 0 where
  pub made : Rollout
  pub there : rollout_at h r ≡ Some made
  pub sound : HasSoundPlan made
  pub is : x ≡ rollout_in h r made

made_at : (h : CommandList) (r : ℕ) (valid : IsValid h) (x : RolloutRecord) → item_numbered (rollouts_in h 1 (rollouts h)) r ≡ Some x → IsMade h r x
made_at h r valid x e = go (rollout_at h r) refl where
  go : (o : Option Rollout) → rollout_at h r ≡ o → IsMade h r x
  go None none = let no : None ≡ Some x = sym (no_record h r none) ∙ e in absurd (cc)
  go (Some y) some = let same : Some (rollout_in h r y) ≡ Some x = sym (rollout_numbered h r y some) ∙ e in
      record { made = y; there = some; sound = ((invariant_of h valid).follows r y some).sound; is = sym (cc) }

pub made : (rs : Records) (of : AreOfList rs) (r : ℕ) (x : RolloutRecord) → item_numbered rs.rollouts r ≡ Some x → IsMade of.list r x
unfolding records
made rs of r x e = made_at of.list r of.valid x (sym (ap (λ (q : Records). item_numbered q.rollouts r) of.are) ∙ e)

-- rollout r has number r
pub numbered_so : (rs : Records) → AreOfList rs → (r : ℕ) (x : RolloutRecord) → item_numbered rs.rollouts r ≡ Some x → x.number ≡ r
numbered_so rs of r x e = ap (λ (q : RolloutRecord). q.number) (made rs of r x e).is

-- ---- its groups

same_numbers : (y : Rollout) (r : ℕ) (h : CommandList) (a n : ℕ) → numbered_from a (each_from (group_in y r h) a n) ≡ each_from (group_in y r h) a n
same_numbers y r h a zero = refl
same_numbers y r h a (suc n) = grind (arith, same_numbers y r h (suc a) n, add-one)

-- their numbers are their places
pub groups_are : (rs : Records) → AreOfList rs → (r : ℕ) → groups_of (item_numbered rs.rollouts r)
    ≡ parts_of (λ (x : RolloutRecord). x.groups) (item_numbered rs.rollouts r)
groups_are rs of r = elim (item_numbered rs.rollouts r) as (λ o. item_numbered rs.rollouts r ≡ o → groups_of o
    ≡ parts_of (λ (x : RolloutRecord). x.groups) o) [
      | None ↦ λ e. refl
      | Some x ↦ λ e. (let it = made rs of r x e in rw it.is (same_numbers it.made r of.list 1 it.made.plan.groups.count))
    ] refl

-- a group that is found is one of them
found_each : (f : ℕ → GroupRecord) (i a n : ℕ) (g : GroupRecord) → Some g ≡ group_numbered i (each_from f a n) → (k : ℕ) × (a ≤ k) × (k < a + n) × (g ≡ f k)
found_each f i a zero g is = absurd cc
found_each f i a (suc n) g is = grind (arith, found_each f i (suc a) n g)

within : (y : Rollout) (k : ℕ) → HasSoundPlan y → 1 ≤ k → k < 1 + y.plan.groups.count → (first_of y k - 1) + size_in y k ≤ size_of y
within y k sound least most =
    omega (arith, sound.cut.rises k y.plan.groups.count (omega (arith, most)), sound.cut.whole, sound.cut.rises (k - 1) k (omega arith))

-- its members are some of the rollout's
pub group_within : (rs : Records) → AreOfList rs → (r : ℕ) (x : RolloutRecord) → item_numbered rs.rollouts r ≡ Some x → (i : ℕ) (g : GroupRecord) → Some g
    ≡ group_numbered i x.groups → (g.bounds.first - 1) + size_of_group g ≤ length x.members
group_within rs of r x e i g is =
    let it = made rs of r x e in
    let found = found_each (group_in it.made r of.list) i 1 it.made.plan.groups.count g (is ∙ ap (λ (q : RolloutRecord). group_numbered i q.groups) it.is) in
    grind (arith, it.is, found.3, within it.made found.0 it.sound found.1 found.2)

-- ---- its members

last_in_each : (y : Rollout) (r : ℕ) (h : CommandList) → HasSoundPlan y → last_place (each_from (group_in y r h) 1 y.plan.groups.count) ≡ size_of y
last_in_each y r h sound = grind (arith, length_each, each_there)

-- they are as many as the last place
pub last_is_count : (rs : Records) → AreOfList rs → (r : ℕ) (x : RolloutRecord) → item_numbered rs.rollouts r ≡ Some x → last_place x.groups ≡ length x.members
last_is_count rs of r x e =
    let it = made rs of r x e in
    subst (λ (q : RolloutRecord). last_place q.groups ≡ length q.members) (sym it.is) (last_in_each it.made r of.list it.sound)
