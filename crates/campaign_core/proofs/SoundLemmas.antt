-- The records of accepted commands are sound, so a verdict over sound records is that at a command list.
use native.Mathlib.Omega.{arith}
use Rattle.campaign_core.proofs.Common.{◌≡◌, ℕ, true, false, ◌&&◌, sym, ◌∙◌, ap, subst, Some, Result, Ok, Err, nat_eq}
use Rattle.campaign_core.proofs.Common.{records_step, ActionPlace, CommandList, Command, is_same_action, Records, action_in, records}
use Rattle.campaign_core.proofs.Common.{ActionRecord, IsValid, Outcome, Refusal, HasPlace, has_place, AreSound, Decides, Follows, LeadsTo}
use Rattle.rollout_machine.proofs.Distinct.{one_number}
use Rattle.campaign_core.proofs.OwnGroups.{own_group_decides}
use Rattle.rollout_machine.proofs.GroupCounts.{groups_are_counted}
use Rattle.campaign_core.specs.declared.rollout_checks.RolloutChange.{RolloutChange}
use Rattle.campaign_core.specs.declared.rollout_checks.RolloutCommandView.{RolloutCommandView}

same_place : (p q : ActionPlace) → (nat_eq q.rollout p.rollout && nat_eq q.position p.position) ≡ true → p ≡ q
same_place p q t = grind arith

places_apart : (h : CommandList) → IsValid h → (j k : ℕ) (a b : ActionRecord) → HasPlace h j a → HasPlace h k b → is_same_action a b ≡ true → j ≡ k
places_apart h valid j k a b v w t =
    let at : is_same_action (action_in h v.place) (action_in h w.place) ≡ true = sym (ap (λ c. is_same_action c (action_in h w.place)) v.is)
    ∙ sym (ap (λ c. is_same_action a c) w.is) ∙ t in
    let one : v.place ≡ w.place = same_place v.place w.place at in
    one_number h j k w.place valid (v.numbered ∙ ap (λ p. Some p) one) w.numbered

ended : (h : CommandList) (k : ℕ) (a : ActionRecord) (o : Outcome) → HasPlace h k a → a.outcome ≡ Some o → a.canceling ≡ false
ended h k a o w e = grind arith

pub records_are_sound : (h : CommandList) → IsValid h → AreSound (records h)
records_are_sound h valid = record {
  numbered = λ r x e. (groups_are_counted h r x valid e).number;
  apart = λ j k a b d e t. places_apart h valid j k a b (has_place h j a d) (has_place h k b e) t;
  over = λ k a o d e. ended h k a o (has_place h k a d) e;
  own = λ k a x d e. own_group_decides h k a x valid d e;
}

pub rollout_decision_follows : (v : RolloutCommandView) (c : Command) (result : Result RolloutChange Refusal) → Decides v c result → Follows v c result
rollout_decision_follows v c (Ok change) decides h valid is =
    let it = decides (records h) (records_are_sound h valid) is in
    (it.0, subst (λ (rs : Records). LeadsTo change c (records h) rs) (sym (records_step h c valid it.0)) it.1)
rollout_decision_follows v c (Err refusal) decides h valid is = decides (records h) (records_are_sound h valid) is
