-- The names of other modules that the proofs here cite, passed on from one place. Declares nothing.
pub use Rattle.std.proofs.Common.{◌≡◌, ℕ, zero, suc, ◌+◌, ◌<◌, ◌≤◌, Bool, true, false, cond, ◌&&◌, ◌||◌, ◌≢◌, ◌⊎◌, List, [], ◌∷◌, ◌++◌, map, length, is_none}
pub use Rattle.std.proofs.Common.{nat_eq, nat_lt, slice_get, Some, None, Option, sym, refl, ap, ◌∙◌, subst, inl, inr, arith}
pub use Rattle.std.proofs.lemmas.Bool.{and_parts, cases_Bool, cases_eq, eq-eqb, eqb-true, false≢true, le-ltb, lt-ltb, ltb-false, not-false, or_parts}
pub use Rattle.std.specs.Option.{option_map, unwrap_or}
pub use Rattle.rollout_machine.proofs.Cuts.{IsOwnGroup, group_of, held, in_bounds, one_group}
pub use Rattle.rollout_machine.proofs.Induction.{accepted, admitted, either_numbered, invariant_of, never_started, no_record}
pub use Rattle.rollout_machine.proofs.Progressing.{positive}
pub use Rattle.rollout_machine.proofs.Recounts.{new_rollout_there, stays_there}
pub use Rattle.rollout_machine.proofs.TargetTies.{same_refl, same_true}
pub use Rattle.rollout_machine.proofs.Valid.{IsPlace, NoneHolds, found_action, has_started_is, its_group, none_holds}
pub use Rattle.rollout_machine.proofs.Whole.{IsAccepted, rollout_numbered}
pub use Rattle.rollout_machine.specs.Actions.{ActionPlace, action_of, action_place, action_places, cancel_stands, is_on_action, new_places}
pub use Rattle.rollout_machine.specs.Actions.{outcome}
pub use Rattle.rollout_machine.specs.ByteStrings.{item_numbered, same_bytes}
pub use Rattle.rollout_machine.specs.CommandList.{CommandList, Make, ◌▸◌}
pub use Rattle.rollout_machine.specs.Commands.{Bytes, Cancel, CancelFeedback, Command, Feedback}
pub use Rattle.rollout_machine.specs.Effects.{HasSoundPlan, IsInGroup, StartedOnly}
pub use Rattle.rollout_machine.specs.Groups.{holds_position}
pub use Rattle.rollout_machine.specs.Kinds.{TargetOffer}
pub use Rattle.rollout_machine.specs.Offers.{Offer, first_offer, offer}
pub use Rattle.rollout_machine.specs.Progress.{is_group_started}
pub use Rattle.rollout_machine.specs.Promises.{StartsGroup}
pub use Rattle.rollout_machine.specs.Ranges.{each_from}
pub use Rattle.rollout_machine.specs.Records.{Records, action_in, group_in, rollout_in}
pub use Rattle.rollout_machine.specs.Rollouts.{Rollout, bounds_in, rollout_at, size_of}
pub use Rattle.rollout_machine.specs.StateWords.{group_numbered, has_started, is_for, member_at}
pub use Rattle.rollout_machine.specs.Validity.{IsValid}
pub use Rattle.rollout_machine.specs.declared.bounds.Bounds.{Bounds}
pub use Rattle.rollout_machine.specs.declared.records.ActionRecord.{ActionRecord}
pub use Rattle.rollout_machine.specs.declared.records.GroupRecord.{GroupRecord}
pub use Rattle.rollout_machine.specs.declared.records.RolloutRecord.{RolloutRecord}
pub use Rattle.rollout_machine.specs.GroupOffers.{GroupOffersStay, GroupStarts, IsOnOther, OfferOfOthers, OffersAfterGroup, OffersAfterNoGroup, OffersAfterNone}
pub use Rattle.rollout_machine.specs.GroupOffers.{OffersAfterStart, OffersById, OffersOfActor, OffersOfNoStart, OffersOfStart, OffersStep, StartedByAny}
pub use Rattle.rollout_machine.specs.GroupOffers.{StartedByAnyThen, acted, actor, group_offers, lesser, member_of, offers_before_start, offers_from, put_offer}
pub use Rattle.rollout_machine.specs.GroupOffers.{put_offers, with_actor, with_offer_at}
pub use Rattle.std.proofs.Math.Bool.{and-false, or-false}
pub use Rattle.rollout_machine.proofs.Words.{is_action_place, is_start_of}
