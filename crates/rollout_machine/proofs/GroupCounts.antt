-- The groups of a rollout are those of its plan, and their counts are those of its actions.
use Rattle.rollout_machine.proofs.Common.{◌≡◌, ℕ, ◌≤◌, refl, sym, subst, Some, CommandList, Good, Bad, Gone, group_in, rollout_in, Rollout, rollout_at, IsValid}
use Rattle.rollout_machine.specs.GroupCounts.{GroupsAreCounted, HasCountedGroups, IsCountedGroup}
use Rattle.rollout_machine.specs.Records.{records}
use Rattle.rollout_machine.proofs.AtNumbers.{of_group, of_rollout}
use Rattle.rollout_machine.proofs.Lists.{length_each}
use Rattle.rollout_machine.proofs.Recounts.{tally_is}

counted_group : (h : CommandList) → IsValid h → (r : ℕ) (x : Rollout) (i : ℕ) → rollout_at h r ≡ Some x → 1 ≤ i → i ≤ x.plan.groups.count
    → IsCountedGroup (records h) r (rollout_in h r x) i (group_in x r h i)
unfolding records
counted_group h valid r x i there low high = record {
  number = refl;
  bounds = refl;
  ok = sym (tally_is Good x r i h valid there low high);
  bad = sym (tally_is Bad x r i h valid there low high);
  gone = sym (tally_is Gone x r i h valid there low high);
}

counted_groups : (h : CommandList) → IsValid h → (r : ℕ) (x : Rollout) → rollout_at h r ≡ Some x → HasCountedGroups (records h) r (rollout_in h r x)
counted_groups h valid r x there = record {
  number = refl;
  as_many = length_each (group_in x r h) 1 x.plan.groups.count;
  each = λ i g e. let of = of_group h r x i g e in subst (IsCountedGroup (records h) r (rollout_in h r x) i) (sym of.is)
      (counted_group h valid r x i there of.low of.high);
}

pub groups_are_counted : GroupsAreCounted
groups_are_counted h r y valid e = let of = of_rollout h r y e in
    subst (HasCountedGroups (records h) r) (sym of.is) (counted_groups h valid r of.rollout of.there)
