-- An action of a number is of a member of its rollout.
use Rattle.campaign_core.proofs.Common.{◌≡◌, ℕ, sym, ap, ◌∙◌, Some, has_place, invariant_of, IsPlace, ActionPlace, item_numbered, CommandList, action_in}
use Rattle.campaign_core.proofs.Common.{rollout_in, ActionRecord, RolloutRecord, IsValid}
use Rattle.rollout_machine.proofs.Whole.{rollout_numbered}
use Rattle.rollout_machine.specs.Records.{records}

-- the place of an action of a number is that of a member of its rollout
pub record IsMembers (h : CommandList) (a : ActionRecord) (x : RolloutRecord) : Type 0 where
  pub place : ActionPlace
  pub is : a ≡ action_in h place
  pub placed : IsPlace h place
  pub same : rollout_in h place.rollout placed.rollout ≡ x

pub is_members : (h : CommandList) → IsValid h → (k : ℕ) (a : ActionRecord) (x : RolloutRecord) → item_numbered (records h).actions k ≡ Some a
    → item_numbered (records h).rollouts a.rollout ≡ Some x → IsMembers h a x
unfolding records
is_members h valid k a x numbered there =
    let at = has_place h k a numbered in
    let placed = (invariant_of h valid).placed k at.place at.numbered in
    let its : Some (rollout_in h at.place.rollout placed.rollout) ≡ Some x = sym (rollout_numbered h at.place.rollout placed.rollout placed.there)
    ∙ ap (λ (b : ActionRecord). item_numbered (records h).rollouts b.rollout) (sym at.is) ∙ there in
    record { place = at.place; is = at.is; placed = placed; same = cc }
