-- The numbers of a desk are within its limits.
use Rattle.rollout_machine.proofs.Common.{◌≡◌, ℕ, zero, suc, ◌+◌, ◌<◌, ◌≤◌, Bool, true, false, ◌||◌, List, [], ◌∷◌, map, length, refl, sym, ap, subst, arith}
use Rattle.rollout_machine.proofs.Common.{inl, inr, Option, Some, None, filter, nat_le, slice_get, and_parts, leb-false, leb-true, ltb-false, length-append}
use Rattle.rollout_machine.proofs.Common.{length-map, Tree, action_places, outcome, CommandList, Make, ◌▸◌, IsWellFormed, is_plan, AddArtifact, Bytes, Command}
use Rattle.rollout_machine.proofs.Common.{CreateRollout, PutTargets, RolloutPlan, Good, Bad, Gone, is_outcome, HasSoundPlan, matches, IsCut, filter_of}
use Rattle.rollout_machine.proofs.Common.{action_in, added_artifacts, artifacts, group_in, rollout_in, rollouts_in, Rollout, chosen, created, first_of}
use Rattle.rollout_machine.proofs.Common.{last_of, members_of, rollout_at, rollouts, size_in, size_of, Target, target_ids, target_in, targets, IsValid}
use Rattle.rollout_machine.proofs.Common.{verdict, verdict_row}
use Rattle.std.proofs.lemmas.List.Sums.{count_by-le-length, length-filter}
use Rattle.rollout_machine.specs.Records.{records}
use Rattle.rollout_machine.proofs.Counts.{count_few}
use Rattle.rollout_machine.proofs.AtNumbers.{of_group, of_rollout}
use Rattle.rollout_machine.proofs.Creates.{length_in}
use Rattle.rollout_machine.proofs.Induction.{either_numbered, invariant_of}
use Rattle.rollout_machine.proofs.StartedSizes.{few_actions}
use Rattle.rollout_machine.proofs.Valid.{NoneHolds, none_holds}
use Rattle.std.specs.Prelude.{◌*◌}
use Rattle.rollout_machine.specs.ByteStrings.{item_numbered}
use Rattle.rollout_machine.specs.Records.{GroupRecord, Records, RolloutRecord}
use Rattle.rollout_model.specs.Limits.{limits}

-- a group counts no more actions than its rollout has members
pub record CountsNoMore (members : ℕ) (g : GroupRecord) : Type 0 where
  pub ok : g.ok ≤ members
  pub bad : g.bad ≤ members
  pub gone : g.gone ≤ members

-- a rollout has no more members than a desk takes targets, and no more groups than the limit and than its members
pub record IsWithinLimits (x : RolloutRecord) : Type 0 where
  pub members : length x.members ≤ limits.targets
  pub some_groups : 1 ≤ x.plan.groups.count
  pub groups : x.plan.groups.count ≤ limits.groups
  pub enough : x.plan.groups.count ≤ length x.members
  pub counts : (i : ℕ) (g : GroupRecord) → item_numbered x.groups i ≡ Some g → CountsNoMore (length x.members) g

pub record AreWithinLimits (rs : Records) : Type 0 where
  pub artifacts : length rs.artifacts ≤ limits.artifacts
  pub targets : length rs.targets ≤ limits.targets
  pub rollouts : length rs.rollouts ≤ limits.rollouts
  pub actions : length rs.actions ≤ limits.rollouts * limits.targets
  pub each : (r : ℕ) (x : RolloutRecord) → item_numbered rs.rollouts r ≡ Some x → IsWithinLimits x

abbrev pub LimitsHold : Type 0
LimitsHold = (h : CommandList) → IsValid h → AreWithinLimits (records h)

-- ---- what the verdicts refuse

or_reached : (b : Bool) (limit n : ℕ) → (b || nat_le limit n) ≡ false → n < limit
or_reached b limit n e = grind (arith, leb-false)

few_artifacts : (h : CommandList) → IsValid h → length (artifacts h) ≤ 256
unfolding records
few_artifacts (Make approval) valid = omega arith
few_artifacts (h ▸ c) valid = rw (length-append (artifacts h) (added_artifacts c)) (go c valid.2 (few_artifacts h valid.0))
  where
    go : (c : Command) → verdict h c ≡ None → length (artifacts h) ≤ 256 → length (artifacts h) + length (added_artifacts c) ≤ 256
    go (AddArtifact upload) e ih =
        let row : NoneHolds (verdict_row (records h) (AddArtifact upload)) = none_holds (verdict_row (records h) (AddArtifact upload)) e in
        let less : length (artifacts h) < 256 = or_reached _ 256 (length (artifacts h)) row.1.1.1.0 in
        omega (arith, less)
    go _ e ih = omega (arith, ih)

few_rollouts : (h : CommandList) → IsValid h → length (rollouts h) ≤ 1000
unfolding records
few_rollouts (Make approval) valid = omega arith
few_rollouts (h ▸ c) valid = rw (length-append (rollouts h) (created h c)) (go c valid.2 (few_rollouts h valid.0))
  where
    go : (c : Command) → verdict h c ≡ None → length (rollouts h) ≤ 1000 → length (rollouts h) + length (created h c) ≤ 1000
    go (CreateRollout plan) e ih =
        let row : NoneHolds (verdict_row (records h) (CreateRollout plan)) = none_holds (verdict_row (records h) (CreateRollout plan)) e in
        let less : length (rollouts_in h 1 (rollouts h)) < 1000 = leb-false 1000 (length (rollouts_in h 1 (rollouts h))) row.1.1.1.1.0 in
        omega (arith, less, length_in h 1 (rollouts h))
    go _ e ih = omega (arith, ih)

pub ids_are : (h : CommandList) (ids : List Bytes) → map (λ (t : Target). t.id) (map (target_in h) ids) ≡ ids
ids_are h [] = refl
ids_are h (t ∷ ids) = ap (λ ts. t ∷ ts) (ids_are h ids)

few_ids : (h : CommandList) → IsValid h → length (target_ids h) ≤ 10000
unfolding records
few_ids (Make approval) valid = omega arith
few_ids (h ▸ c) valid = go c valid.2 (few_ids h valid.0)
  where
    go : (c : Command) → verdict h c ≡ None → length (target_ids h) ≤ 10000 → length (target_ids (h ▸ c)) ≤ 10000
    go (PutTargets rows) e ih =
        let row : NoneHolds (verdict_row (records h) (PutTargets rows)) = none_holds (verdict_row (records h) (PutTargets rows)) e in
        rw ids_are at (ltb-false _ _ row.0)
    go _ e ih = ih

few_targets : (h : CommandList) → IsValid h → length (targets h) ≤ 10000
few_targets h valid = omega (arith, few_ids h valid, length-map (target_ids h) (target_in h))

-- ---- the rollouts, one by one

chosen_few : (o : Option Tree) (ts : List Target) → length (chosen o ts) ≤ length ts
chosen_few None ts = omega arith
chosen_few (Some f) ts =
    let mapped : length (map (λ (t : Target). t.id) (filter (matches f) ts)) ≡ length (filter (matches f) ts) =
    length-map (filter (matches f) ts) (λ (t : Target). t.id) in
    omega (arith, mapped, length-filter (matches f) ts, count_by-le-length (matches f) ts)

record IsSmall (x : Rollout) : Type 0 where
  members : size_of x ≤ 10000
  groups : x.plan.groups.count ≤ 50

abbrev pub made : RolloutPlan → List Bytes → Rollout
made plan members = record { plan = plan; members = members }

few_groups : (plan : RolloutPlan) → is_plan plan ≡ true → plan.groups.count ≤ 50
few_groups plan formed = leb-true _ _ (and_parts _ _ (and_parts _ _ (and_parts _ _ formed).0).0).1

-- what holds of each rollout that is created holds of all
pub each_created : (P : Rollout → Type 0) → ((h : CommandList) (plan : RolloutPlan) → IsValid h → is_plan plan ≡ true → verdict h (CreateRollout plan) ≡ None
    → P (made plan (members_of plan.filter_text h))) → (h : CommandList) → IsValid h → (r : ℕ) (x : Rollout) → rollout_at h r ≡ Some x → P x
each_created P new (Make approval) valid zero x e = cc
each_created P new (Make approval) valid (suc i) x e = cc
each_created P new (h ▸ c) valid r x e = elim (either_numbered (rollouts h) (created h c) r x e) [
  | inl old ↦ each_created P new h valid.0 r x old
  | inr more ↦ by_command c valid.1 valid.2 more.1.0 more.1.1
]
  where
    by_command : (c : Command) → IsWellFormed c → verdict h c ≡ None → (i : ℕ) → slice_get (created h c) i ≡ Some x → P x
    by_command (CreateRollout plan) formed accepted zero d =
        let both : Some (made plan (members_of plan.filter_text h)) ≡ Some x = d in
        let same : made plan (members_of plan.filter_text h) ≡ x = cc in
        subst P same (new h plan valid.0 formed accepted)
    by_command (CreateRollout plan) formed accepted (suc i) d = cc
    by_command _ formed accepted i d = cc

are_small : (h : CommandList) → IsValid h → (r : ℕ) (x : Rollout) → rollout_at h r ≡ Some x → IsSmall x
are_small = each_created IsSmall (λ h plan valid formed accepted. record {
  members = omega (arith, chosen_few (filter_of plan.filter_text) (targets h), few_targets h valid);
  groups = few_groups plan formed;
})

-- ---- counts

-- a group has no more members than its rollout
size_few : (x : Rollout) (i : ℕ) → HasSoundPlan x → 1 ≤ i → i ≤ x.plan.groups.count → size_in x i ≤ size_of x
size_few x i sound low high = omega (arith, sound.cut.rises i x.plan.groups.count high, sound.cut.whole)

-- so a rollout has as many members as groups
as_many : (last : ℕ → ℕ) (m n : ℕ) → IsCut last m n → (i : ℕ) → i ≤ n → i ≤ last i
as_many last m n cut zero low = omega arith
as_many last m n cut (suc i) low =
    let behind : i + 1 ≡ suc i = omega arith in
    let more : last i + 1 ≤ last (suc i) = subst (λ k. last i + 1 ≤ last k) behind (cut.grows i (omega (arith, low))) in
    omega (arith, as_many last m n cut i (omega (arith, low)), more)

group_counts : (h : CommandList) (r : ℕ) (x : Rollout) (i : ℕ) → HasSoundPlan x → 1 ≤ i → i ≤ x.plan.groups.count → CountsNoMore (size_of x) (group_in x r h i)
group_counts h r x i sound low high =
    let size = size_few x i sound low high in
    record {
      ok = omega (arith, size, count_few (λ j. is_outcome Good (outcome h r j)) (first_of x i) (size_in x i));
      bad = omega (arith, size, count_few (λ j. is_outcome Bad (outcome h r j)) (first_of x i) (size_in x i));
      gone = omega (arith, size, count_few (λ j. is_outcome Gone (outcome h r j)) (first_of x i) (size_in x i));
    }

rollout_is_within : (h : CommandList) → IsValid h → (r : ℕ) (x : Rollout) → rollout_at h r ≡ Some x → IsWithinLimits (rollout_in h r x)
rollout_is_within h valid r x there =
    let small = are_small h valid r x there in
    let sound = ((invariant_of h valid).follows r x there).sound in
    record {
      members = small.members;
      some_groups = sound.some_groups;
      groups = small.groups;
      enough = omega (arith, as_many (last_of x) (size_of x) x.plan.groups.count sound.cut x.plan.groups.count (omega arith), sound.cut.whole);
      counts = λ i g e. let of = of_group h r x i g e in subst (CountsNoMore (size_of x)) (sym of.is) (group_counts h r x i sound of.low of.high);
    }

pub limits_hold : LimitsHold
unfolding records
limits_hold h valid = record {
  artifacts = few_artifacts h valid;
  targets = few_targets h valid;
  rollouts = omega (arith, few_rollouts h valid, length_in h 1 (rollouts h));
  actions = omega (
    arith,
    length-map (action_places h) (action_in h),
    few_actions h 10000 valid (λ i x e. (are_small h valid (suc i) x e).members),
    few_rollouts h valid,
  );
  each = λ r y e. let of = of_rollout h r y e in subst IsWithinLimits (sym of.is) (rollout_is_within h valid r of.rollout of.there);
}
