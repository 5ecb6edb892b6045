-- A group that starts, as the records tell it.
use Rattle.rollout_machine.proofs.OfferCommon.{◌≡◌, ◌≤◌, ℕ, zero, suc, refl, sym, ap, ◌∙◌, arith, Some}
use Rattle.rollout_machine.proofs.OfferCommon.{item_numbered, CommandList, ◌▸◌, Command, HasSoundPlan, is_group_started, StartsGroup, each_from, group_in}
use Rattle.rollout_machine.proofs.OfferCommon.{rollout_in}
use Rattle.rollout_machine.proofs.OfferCommon.{Rollout, bounds_in, rollout_at, group_numbered, Bounds, GroupRecord, RolloutRecord, invariant_of, no_record}
use Rattle.rollout_machine.proofs.OfferCommon.{positive}
use Rattle.rollout_machine.proofs.OfferCommon.{stays_there, IsValid, rollout_numbered, GroupStarts, OffersAfterGroup, OffersAfterNoGroup, group_offers}
use Rattle.rollout_machine.proofs.OfferCommon.{put_offers}
use Rattle.rollout_machine.proofs.OfferCommon.{offers_before_start}
use Rattle.rollout_machine.specs.Records.{records}
use Rattle.rollout_machine.proofs.Offers.{within_groups}
use Rattle.rollout_machine.proofs.Ties.{find_group}
use Rattle.rollout_machine.proofs.OfferActors.{offers_after_none, offers_after_start}

-- a group that is found has its number
group_found : (x : Rollout) (r : ℕ) (h : CommandList) (i a n : ℕ) (g : GroupRecord) → group_numbered i (each_from (group_in x r h) a n) ≡ Some g
    → g ≡ group_in x r h i
group_found x r h i a zero g e = absurd cc
group_found x r h i a (suc n) g e = grind (arith, group_found x r h i (suc a) n g)

-- the rollout that a record is of
pub record IsRollout (h : CommandList) (r : ℕ) (y : RolloutRecord) : Type 0 where
  pub rollout : Rollout
  pub there : rollout_at h r ≡ Some rollout
  pub same : rollout_in h r rollout ≡ y

rollout_found : (h : CommandList) (r : ℕ) (y : RolloutRecord) → item_numbered (records h).rollouts r ≡ Some y → IsRollout h r y
unfolding records
rollout_found h r y e = grind (arith, no_record, rollout_numbered)

-- the group that the records start is one that the command starts
pub record IsStart (h : CommandList) (c : Command) (r i : ℕ) (b : Bounds) : Type 0 where
  pub rollout : Rollout
  pub there : rollout_at h r ≡ Some rollout
  pub starts : StartsGroup rollout r i h c
  pub bounds : bounds_in rollout i ≡ b

is_start : (h : CommandList) (c : Command) (r i : ℕ) (b : Bounds) → GroupStarts (records h) (records (h ▸ c)) r i b → IsStart h c r i b
is_start h c r i b s =
    let was : IsRollout h r s.rollout = rollout_found h r s.rollout s.there in
    let is : IsRollout (h ▸ c) r s.next_rollout = rollout_found (h ▸ c) r s.next_rollout s.still_there in
    let both : Some was.rollout ≡ Some is.rollout = sym (stays_there h c r was.rollout was.there) ∙ is.there in
    let same : was.rollout ≡ is.rollout = cc in
    let first : s.group ≡ group_in was.rollout r h i = group_found was.rollout r h i 1 was.rollout.plan.groups.count s.group
    (ap (λ (y : RolloutRecord). group_numbered i y.groups) was.same ∙ s.numbered) in
    let last : s.next_group ≡ group_in is.rollout r (h ▸ c) i = group_found is.rollout r (h ▸ c) i 1 is.rollout.plan.groups.count s.next_group
    (ap (λ (y : RolloutRecord). group_numbered i y.groups) is.same ∙ s.still_numbered) in
    record {
      rollout = was.rollout;
      there = was.there;
      starts = record {
        before = sym (ap (λ (g : GroupRecord). g.started) first) ∙ s.waits;
        now = ap (λ (y : Rollout). is_group_started y r i (h ▸ c)) same ∙ sym (ap (λ (g : GroupRecord). g.started) last) ∙ s.starts;
      };
      bounds = sym (ap (λ (g : GroupRecord). g.bounds) first) ∙ s.bounds;
    }

pub offers_after_group : OffersAfterGroup
offers_after_group h c r i b t v s =
    let w : IsStart h c r i b = is_start h c r i b s in
    offers_after_start h c r i w.rollout t v w.there w.starts ∙ ap (λ (d : Bounds). put_offers (offers_before_start h c) (group_offers (records (h ▸ c)) r d) t)
    w.bounds

-- and the other way round
tells : (h : CommandList) (c : Command) (r i : ℕ) (x : Rollout) → IsValid (h ▸ c) → rollout_at h r ≡ Some x → StartsGroup x r i h c
    → GroupStarts (records h) (records (h ▸ c)) r i (bounds_in x i)
unfolding records
tells h c r i x v d s =
    let sound : HasSoundPlan x = ((invariant_of h v.0).follows r x d).sound in
    let low : 1 ≤ i = positive x r i (h ▸ c) s.now in
    let high : i ≤ x.plan.groups.count = within_groups x r i (h ▸ c) sound.some_groups s.now in
    record {
      rollout = rollout_in h r x;
      there = rollout_numbered h r x d;
      group = group_in x r h i;
      numbered = find_group x r h 1 x.plan.groups.count i low (omega (arith, high));
      bounds = refl;
      waits = s.before;
      next_rollout = rollout_in (h ▸ c) r x;
      still_there = rollout_numbered (h ▸ c) r x (stays_there h c r x d);
      next_group = group_in x r (h ▸ c) i;
      still_numbered = find_group x r (h ▸ c) 1 x.plan.groups.count i low (omega (arith, high));
      starts = s.now;
    }

pub offers_after_no_group : OffersAfterNoGroup
offers_after_no_group h c t v none = offers_after_none h c t v (λ r i x d s. none r i (bounds_in x i) (tells h c r i x v d s))
