-- What stands at a number in the records of a command list.
use Rattle.rollout_machine.proofs.Common.{◌≡◌, ℕ, zero, suc, ◌≤◌, sym, ◌∙◌, refl, arith, List, length, get_or, Option, Some, None, option_map}
use Rattle.rollout_machine.proofs.Common.{ActionPlace, action_place, action_places, item_numbered, CommandList, ActionRecord, GroupRecord, RolloutRecord}
use Rattle.rollout_machine.proofs.Common.{action_in, group_in, rollout_in, Rollout, rollout_at}
use Rattle.std.proofs.lemmas.Option.{slice_get-get_or, slice_get_within}
use Rattle.rollout_machine.specs.Records.{records}
use Rattle.rollout_machine.proofs.Actions.{numbered_map}
use Rattle.rollout_machine.proofs.Induction.{no_record}
use Rattle.rollout_machine.proofs.Lists.{numbered_each}
use Rattle.rollout_machine.proofs.Whole.{rollout_numbered}

pub item_in : {X : Type 0} (xs : List X) (d : X) (j : ℕ) → 1 ≤ j → j ≤ length xs → (x : X) × (item_numbered xs j ≡ Some x)
item_in xs d zero low high = absurd (omega (arith, low))
item_in xs d (suc i) low high = (get_or xs i d, slice_get-get_or xs i d (omega (arith, high)))

pub item_within : {X : Type 0} (xs : List X) (j : ℕ) (x : X) → item_numbered xs j ≡ Some x → (1 ≤ j) × (j ≤ length xs)
item_within xs j x e = grind (arith, slice_get_within)

-- the action is that of a place
pub record HasPlace (h : CommandList) (k : ℕ) (a : ActionRecord) : Type 0 where
  pub place : ActionPlace
  pub numbered : action_place h k ≡ Some place
  pub is : a ≡ action_in h place

pub has_place : (h : CommandList) (k : ℕ) (a : ActionRecord) → item_numbered (records h).actions k ≡ Some a → HasPlace h k a
unfolding records
has_place h k a e = go (action_place h k) refl (sym (numbered_map (action_in h) (action_places h) k) ∙ e)
  where
    go : (o : Option ActionPlace) → action_place h k ≡ o → option_map (action_in h) o ≡ Some a → HasPlace h k a
    go None d f = cc
    go (Some p) d f = record { place = p; numbered = d; is = cc }

-- the rollout is one that was created
pub record IsOfRollout (h : CommandList) (r : ℕ) (y : RolloutRecord) : Type 0 where
  pub rollout : Rollout
  pub there : rollout_at h r ≡ Some rollout
  pub is : y ≡ rollout_in h r rollout

pub of_rollout : (h : CommandList) (r : ℕ) (y : RolloutRecord) → item_numbered (records h).rollouts r ≡ Some y → IsOfRollout h r y
unfolding records
of_rollout h r y e = grind (arith, no_record, rollout_numbered)

pub recorded : (h : CommandList) (r : ℕ) (x : Rollout) → rollout_at h r ≡ Some x → item_numbered (records h).rollouts r ≡ Some (rollout_in h r x)
unfolding records
recorded h r x e = rollout_numbered h r x e

-- the group is one of those that the plan cuts
pub record IsOfGroup (h : CommandList) (r : ℕ) (x : Rollout) (i : ℕ) (g : GroupRecord) : Type 0 where
  pub low : 1 ≤ i
  pub high : i ≤ x.plan.groups.count
  pub is : g ≡ group_in x r h i

pub of_group : (h : CommandList) (r : ℕ) (x : Rollout) (i : ℕ) (g : GroupRecord) → item_numbered (rollout_in h r x).groups i ≡ Some g → IsOfGroup h r x i g
of_group h r x i g e = let found = numbered_each (group_in x r h) x.plan.groups.count i g e in record { low = found.0; high = found.1; is = found.2 }
