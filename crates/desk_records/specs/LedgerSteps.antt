-- What statements make of a ledger.
use Rattle.std.specs.Prelude.{◌≡◌, ℕ, zero, suc, ◌+◌, Bool, true, false, not, cond, nat_eq, List, [], ◌∷◌, ◌++◌, length, map, set, Option, Some, None}
use Rattle.std.specs.List.{list_all, zip}
use Rattle.rollout_machine.specs.ByteStrings.{item_numbered, same_bytes}
use Rattle.rollout_machine.specs.Commands.{Bytes, RolloutPlan}
use Rattle.rollout_machine.specs.Ranges.{each_from}
use Rattle.rollout_machine.specs.Reports.{Reported}
use Rattle.rollout_machine.specs.declared.bounds.Bounds.{Bounds}
use Rattle.rollout_machine.specs.declared.records.GroupRecord.{GroupRecord}
use Rattle.rollout_machine.specs.declared.outcome.Outcome.{Outcome}
use Rattle.rollout_machine.specs.declared.records.ActionRecord.{ActionRecord}
use Rattle.rollout_machine.specs.declared.records.RolloutRecord.{RolloutRecord}
use Rattle.rollout_model.specs.declared.approval.Approval.{Approval}
use Rattle.rollout_model.specs.declared.group_rule.GroupRule.{GroupRule}
use Rattle.rollout_model.specs.declared.rollout.Offer.{Offer}
use Rattle.rollout_machine.specs.GroupOffers.{group_offers, put_offers}
use Rattle.desk_records.specs.declared.new_entry.NewEntry.{NewEntry}
use Rattle.desk_records.specs.declared.number_row.PlacedNumber.{PlacedNumber}
use Rattle.desk_records.specs.Actions.{Tally, tally_of}
use Rattle.desk_records.specs.FeedbackNumbers.{numbers_of}
use Rattle.desk_records.specs.NewEntries.{TellsEntry}
use Rattle.desk_records.specs.Holds.{Ledger}

-- another in place of the one of a number
abbrev pub set_numbered : {X : Type 0} → List X → ℕ → X → List X
set_numbered xs zero x = xs
set_numbered xs (suc k) x = set xs k x

abbrev pub with_rollouts : Ledger → List RolloutRecord → Ledger
with_rollouts l xs = record l { records = record l.records { rollouts = xs } }

abbrev pub with_actions : Ledger → List ActionRecord → List Tally → Ledger
with_actions l as' tallies = record l { records = record l.records { actions = as' }; tallies = tallies }

abbrev pub with_rules : Ledger → List (List GroupRule) → Ledger
with_rules l rules = record l { rules = rules }

abbrev pub with_numbers : Ledger → List (List PlacedNumber) → Ledger
with_numbers l numbers = record l { numbers = numbers }

-- ---- rollouts

-- neither started nor paused, before its members, its groups and what is said of them are added
abbrev pub bare_rollout : ℕ → RolloutPlan → Approval → RolloutRecord
bare_rollout number plan approval = record { number = number; plan = plan; members = []; approval = approval; started = false; paused = false; groups = [] }

-- the number is the next
pub record AddsRollout (number : ℕ) (plan : RolloutPlan) (approval : Approval) (l next : Ledger) : Type 0 where
  pub number_is : number ≡ length l.records.rollouts + 1
  pub next_is : next ≡ with_rules (with_rollouts l (l.records.rollouts ++ bare_rollout number plan approval ∷ [])) (l.rules ++ [] ∷ [])

abbrev pub turned : Approval → Bool → Bool → RolloutRecord → RolloutRecord
turned approval started paused x = record x { approval = approval; started = started; paused = paused }

-- the rollout is there
pub record SetsRollout (number : ℕ) (approval : Approval) (started paused : Bool) (l next : Ledger) : Type 0 where
  pub rollout : RolloutRecord
  pub is_there : item_numbered l.records.rollouts number ≡ Some rollout
  pub next_is : next ≡ with_rollouts l (set_numbered l.records.rollouts number (turned approval started paused rollout))

abbrev pub and_members : RolloutRecord → List Bytes → RolloutRecord
and_members x ids = record x { members = x.members ++ ids }

-- the rollout is there, the place is its next, where the first of these members goes, and no action is its yet
pub record AddsMembers (number place : ℕ) (ids : List Bytes) (l next : Ledger) : Type 0 where
  pub rollout : RolloutRecord
  pub is_there : item_numbered l.records.rollouts number ≡ Some rollout
  pub place_is : place ≡ length rollout.members + 1
  pub unacted : list_all (λ (a : ActionRecord). not (nat_eq a.rollout number)) l.records.actions ≡ true
  pub next_is : next ≡ with_rollouts l (set_numbered l.records.rollouts number (and_members rollout ids))

abbrev pub and_group : RolloutRecord → GroupRecord → RolloutRecord
and_group x g = record x { groups = x.groups ++ g ∷ [] }

-- not started, and none of its actions ended
abbrev pub cut_group : ℕ → Bounds → GroupRecord
cut_group number bounds = record { number = number; bounds = bounds; started = false; ok = 0; bad = 0; gone = 0 }

-- the rollout is there, and the number is that of its next group
pub record AddsGroup (number group : ℕ) (bounds : Bounds) (l next : Ledger) : Type 0 where
  pub rollout : RolloutRecord
  pub is_there : item_numbered l.records.rollouts number ≡ Some rollout
  pub group_is : group ≡ length rollout.groups + 1
  pub next_is : next ≡ with_rollouts l (set_numbered l.records.rollouts number (and_group rollout (cut_group group bounds)))

-- the rollout is there, and the number is that of its next group that nothing is said of
pub record AddsRule (number group : ℕ) (rule : GroupRule) (l next : Ledger) : Type 0 where
  pub its : List GroupRule
  pub is_there : item_numbered l.rules number ≡ Some its
  pub group_is : group ≡ length its + 1
  pub next_is : next ≡ with_rules l (set_numbered l.rules number (its ++ rule ∷ []))

abbrev pub group_counted : Bool → ℕ → ℕ → ℕ → GroupRecord → GroupRecord
group_counted started ok bad gone g = record g { started = started; ok = ok; bad = bad; gone = gone }

abbrev pub with_groups : RolloutRecord → List GroupRecord → RolloutRecord
with_groups x gs = record x { groups = gs }

-- the group is there
pub record SetsGroup (number group : ℕ) (started : Bool) (ok bad gone : ℕ) (l next : Ledger) : Type 0 where
  pub rollout : RolloutRecord
  pub is_there : item_numbered l.records.rollouts number ≡ Some rollout
  pub was : GroupRecord
  pub is_its : item_numbered rollout.groups group ≡ Some was
  pub next_is : next ≡ with_rollouts l (set_numbered l.records.rollouts number
      (with_groups rollout (set_numbered rollout.groups group (group_counted started ok bad gone was))))

-- ---- actions

-- open, and with no history
abbrev pub scheduled : ℕ → ℕ → ActionRecord
scheduled rollout place = record { rollout = rollout; position = place; canceling = false; outcome = None; history = [] }

-- an action for each of the places of a rollout, from 1 to a count
abbrev pub new_for : ℕ → ℕ → List ActionRecord
new_for rollout count = each_from (scheduled rollout) 1 count

-- actions are put behind those that are there, each with its tally and its numbers
abbrev pub and_actions : Ledger → List ActionRecord → Ledger
and_actions l new = with_numbers (with_actions l (l.records.actions ++ new) (l.tallies ++ map tally_of new)) (l.numbers ++ map numbers_of new)

-- the rollout is there, and each of its members gets an action of the next number
pub record AddsActions (number : ℕ) (l next : Ledger) : Type 0 where
  pub tallied : length l.tallies ≡ length l.records.actions
  pub rollout : RolloutRecord
  pub is_there : item_numbered l.records.rollouts number ≡ Some rollout
  pub next_is : next ≡ and_actions l (new_for number (length rollout.members))

abbrev pub action_turned : Bool → Option Outcome → ActionRecord → ActionRecord
action_turned canceling outcome a = record a { canceling = canceling; outcome = outcome }

-- the action is there
pub record SetsAction (number : ℕ) (canceling : Bool) (outcome : Option Outcome) (tally : Tally) (l next : Ledger) : Type 0 where
  pub action : ActionRecord × Tally
  pub is_there : item_numbered (zip l.records.actions l.tallies) number ≡ Some action
  pub next_is : next ≡ with_actions l (set_numbered l.records.actions number (action_turned canceling outcome action.0)) (set_numbered l.tallies number tally)

abbrev pub and_entry : ActionRecord → Reported → ActionRecord
and_entry a reported = record a { history = a.history ++ reported ∷ [] }

-- the action is there, the place is its history's next, and what is written tells the entry; the action's tally and its numbers stay
pub record AddsEntry (number sequence : ℕ) (new : NewEntry) (l next : Ledger) : Type 0 where
  pub action : ActionRecord
  pub is_there : item_numbered l.records.actions number ≡ Some action
  pub sequence_is : sequence ≡ length action.history + 1
  pub reported : Reported
  pub told : TellsEntry reported new
  pub next_is : next ≡ with_actions l (set_numbered l.records.actions number (and_entry action reported)) l.tallies

-- the action is there, and the place is that of its next number
pub record AddsNumber (number place : ℕ) (it : PlacedNumber) (l next : Ledger) : Type 0 where
  pub its : List PlacedNumber
  pub is_there : item_numbered l.numbers number ≡ Some its
  pub place_is : place ≡ length its + 1
  pub next_is : next ≡ with_numbers l (set_numbered l.numbers number (its ++ it ∷ []))

-- ---- offers

-- of one target another offer, or none
abbrev pub with_offer : Ledger → Bytes → Option Offer → Ledger
with_offer l id o = record l { offers = λ (t : Bytes). cond (same_bytes id t) o (l.offers t) }

-- another offer, or none, in place of that of an action
abbrev pub in_place_of : ℕ → Option Offer → Option Offer → Option Offer
in_place_of action o None = None
in_place_of action o (Some was) = cond (nat_eq was.action action) o (Some was)

-- of one target another offer, or none, in place of its offer of an action
abbrev pub reoffered : Ledger → Bytes → ℕ → Option Offer → Ledger
reoffered l id action o = with_offer l id (in_place_of action o (l.offers id))

-- each action of the rollout between the bounds is offered to its target, unless that is offered one of no greater number
pub record OffersGroup (number : ℕ) (bounds : Bounds) (l next : Ledger) : Type 0 where
  pub tallied : length l.tallies ≡ length l.records.actions
  pub next_is : next ≡ record l { offers = put_offers l.offers (group_offers l.records number bounds) }
