-- What the verdict on a command on rollouts rests on, what its change is, and that both are those of the records and of a command list.
use Rattle.std.specs.Prelude.{◌≡◌, ◌+◌, ℕ, zero, suc, Bool, true, false, ◌&&◌, ◌||◌, not, cond, nat_le, List, [], ◌∷◌, ◌++◌, map, length}
use Rattle.std.specs.Prelude.{Option, Some, None, is_none, is_some, Result, Ok, Err, ⊤}
use Rattle.std.specs.List.{list_any}
use Rattle.std.specs.Option.{option_map, option_or}
use Rattle.target_filter.specs.Profile.{filter_of}
use Rattle.rollout_machine.specs.Actions.{outcome_of_cancel, outcome_of_deployment}
use Rattle.rollout_machine.specs.ByteStrings.{item_numbered, same_bytes}
use Rattle.rollout_machine.specs.CommandList.{CommandList, ◌▸◌}
use Rattle.rollout_machine.specs.Commands.{Bytes, CancelWord, Command, Credential, DeploymentWord, RolloutPlan, RejectedCancel, Approve, Cancel}
use Rattle.rollout_machine.specs.Commands.{CancelFeedback, CreateRollout, Deny, Feedback, Pause, Resume, Start, TriggerNext}
use Rattle.rollout_machine.specs.Counts.{is_outcome}
use Rattle.rollout_machine.specs.Groupings.{Grouping, leaves_empty}
use Rattle.rollout_machine.specs.Ranges.{each_from, is_some_and}
use Rattle.rollout_machine.specs.RecordSteps.{begin_rollout, counted, is_same_action, last_started, new_actions, new_group, start_group, step_records, view_of}
use Rattle.rollout_machine.specs.Records.{Approval, Denied, Given, Records, Waiting, records}
use Rattle.rollout_machine.specs.declared.records.ActionRecord.{ActionRecord}
use Rattle.rollout_machine.specs.declared.records.GroupRecord.{GroupRecord}
use Rattle.rollout_machine.specs.declared.records.RolloutRecord.{RolloutRecord}
use Rattle.rollout_machine.specs.Reports.{OfDeployment, OfCancel, Reported, reported, says_old, standing_of}
use Rattle.rollout_machine.specs.Rollouts.{chosen}
use Rattle.rollout_machine.specs.StateWords.{RolloutWord, group_number_of, has_started, is_for, rollout_word}
use Rattle.rollout_machine.specs.Validity.{IsValid}
use Rattle.rollout_machine.specs.Verdicts.{check, first_refusal, is_device_action, is_known, notes_of, says_note}
use Rattle.rollout_machine.specs.Verdicts.{target_of, verdict}
use Rattle.rollout_machine.specs.declared.outcome.Outcome.{Outcome}
use Rattle.rollout_machine.specs.declared.outcome.Outcome.TheVariants.{Gone}
use Rattle.rollout_machine.specs.declared.standing.Standing.{Standing}
use Rattle.rollout_machine.specs.declared.standing.Standing.TheVariants.{Fresh}
use Rattle.rollout_machine.specs.declared.view.Effects.{Effects}
use Rattle.campaign_core.specs.OwnGroups.{OwnDecides, effects_by, following, own_view_of}
use Rattle.rollout_model.specs.Limits.{limits}
use Rattle.rollout_model.specs.declared.refusal.Refusal.{Refusal}
use Rattle.rollout_model.specs.declared.refusal.Refusal.TheVariants.{BadFilter, ClosedAction, Exists, NotFound, OldNumber, Quota, TooFewTargets}
use Rattle.rollout_model.specs.declared.refusal.Refusal.TheVariants.{Unauthorized, WrongState}
use Rattle.campaign_core.specs.declared.rollout_checks.RolloutCommandView.{RolloutCommandView}
use Rattle.campaign_core.specs.declared.rollout_checks.RolloutCommandView.TheVariants as seen
use Rattle.campaign_core.specs.declared.rollout_checks.RolloutChange.{RolloutChange}
use Rattle.campaign_core.specs.declared.rollout_checks.RolloutChange.TheVariants as change
use Rattle.campaign_core.specs.declared.rollout_checks.actions.ActionChange.{ActionChange}
use Rattle.campaign_core.specs.declared.rollout_checks.actions.ActionChange.TheVariants.{StaysOpen, Ends}
use Rattle.campaign_core.specs.declared.rollout_checks.actions.ActionView.{ActionView}
use Rattle.campaign_core.specs.declared.rollout_checks.actions.CancelView.{CancelView}
use Rattle.campaign_core.specs.declared.rollout_checks.actions.Ending.{Ending}
use Rattle.campaign_core.specs.declared.rollout_checks.of_devices.FeedbackView.{FeedbackView}
use Rattle.campaign_core.specs.declared.rollout_checks.of_devices.DeviceAction.{DeviceAction}
use Rattle.campaign_core.specs.declared.rollout_checks.plans.NewRollout.{NewRollout}
use Rattle.campaign_core.specs.declared.rollout_checks.plans.PlanView.{PlanView}
use Rattle.campaign_core.specs.declared.rollout_checks.progress.ResumeView.{ResumeView}
use Rattle.campaign_core.specs.declared.rollout_checks.progress.TriggerView.{TriggerView}
use Rattle.campaign_core.specs.declared.rollout_checks.standing.StandingView.{StandingView}

-- ---- records and their items

-- What the records of accepted commands have: rollout k has number k, no two actions have one place, none that has its outcome is canceling, and
-- what an outcome does to its rollout is told by the action's own group.
pub record AreSound (rs : Records) : Type 0 where
  pub numbered : (r : ℕ) (x : RolloutRecord) → item_numbered rs.rollouts r ≡ Some x → x.number ≡ r
  pub apart : (j k : ℕ) (a b : ActionRecord) → item_numbered rs.actions j ≡ Some a → item_numbered rs.actions k ≡ Some b → is_same_action a b ≡ true → j ≡ k
  pub over : (k : ℕ) (a : ActionRecord) (o : Outcome) → item_numbered rs.actions k ≡ Some a → a.outcome ≡ Some o → a.canceling ≡ false
  pub own : (k : ℕ) (a : ActionRecord) (x : RolloutRecord) → item_numbered rs.actions k ≡ Some a → item_numbered rs.rollouts a.rollout ≡ Some x → OwnDecides x a

-- the items after the one of this number, counted from 1, was changed
abbrev pub change_numbered : {X : Type 0} → ℕ → (X → X) → List X → List X
change_numbered n f [] = []
change_numbered zero f (x ∷ xs) = x ∷ xs
change_numbered (suc zero) f (x ∷ xs) = f x ∷ xs
change_numbered (suc (suc n)) f (x ∷ xs) = x ∷ change_numbered (suc n) f xs

-- neither is there, or both are and the fact holds of them
abbrev pub BothOrNone : {V X : Type 0} → (V → X → Type 0) → Option V → Option X → Type 0
BothOrNone P None None = ⊤
BothOrNone P (Some v) (Some x) = P v x
BothOrNone P _ _ = ⊥

abbrev pub ChangesRollout : ℕ → (RolloutRecord → RolloutRecord) → Records → Records → Type 0
ChangesRollout r f old new = new ≡ record old { rollouts = change_numbered r f old.rollouts }

-- ---- creating a rollout

-- of a plan, in these records
pub record IsPlanView (v : PlanView) (plan : RolloutPlan) (rs : Records) : Type 0 where
  pub bad_filter : v.bad_filter ≡ is_none (filter_of plan.filter_text)
  pub misses_set : v.misses_set ≡ is_none (item_numbered rs.sets plan.set_number)
  pub same_name : v.same_name ≡ list_any (λ (x : RolloutRecord). same_bytes x.plan.name plan.name) rs.rollouts
  pub members : v.members ≡ length (chosen (filter_of plan.filter_text) rs.targets)
  pub count : v.count ≡ length rs.rollouts
  pub approval : v.approval ≡ rs.approval

abbrev pub plan_refusal : PlanView → Grouping → Option Refusal
plan_refusal v groups = first_refusal ((v.bad_filter, BadFilter) ∷ (v.misses_set, NotFound) ∷ (v.same_name, Exists)
    ∷ (leaves_empty groups v.members, TooFewTargets) ∷ (nat_le limits.rollouts v.count, Quota) ∷ [])

-- that of a new rollout, on a desk with approval or without
abbrev pub approval_at : Bool → Approval
approval_at approval = cond approval Waiting Given

-- neither started nor paused, and cut into its groups
abbrev pub rollout_from : NewRollout → RolloutPlan → List Bytes → RolloutRecord
rollout_from n plan members = record {
  number = n.number;
  plan = plan;
  members = members;
  approval = n.approval;
  started = false;
  paused = false;
  groups = each_from (new_group plan (length members)) 1 plan.groups.count;
}

-- the rollout is put behind those that are there, under the next number, with the targets that its filter chooses
pub record AddsPlannedRollout (n : NewRollout) (plan : RolloutPlan) (old new : Records) : Type 0 where
  pub next : n.number ≡ length old.rollouts + 1
  pub approval : n.approval ≡ approval_at old.approval
  pub added : new ≡ record old { rollouts = old.rollouts ++ rollout_from n plan (chosen (filter_of plan.filter_text) old.targets) ∷ [] }

-- ---- approving, denying, starting, pausing

-- of rollout r, in these records
pub record IsStandingView (v : StandingView) (r : ℕ) (rs : Records) : Type 0 where
  pub word : v.word ≡ option_map rollout_word (item_numbered rs.rollouts r)

-- the rollout has to be there, and in a state that passes
abbrev pub word_refusal : (RolloutWord → Bool) → Option RolloutWord → Option Refusal
word_refusal passes None = Some NotFound
word_refusal passes (Some word) = first_refusal ((not (passes word), WrongState) ∷ [])

-- approved or denied
abbrev pub with_approval : Approval → RolloutRecord → RolloutRecord
with_approval approval x = record x { approval = approval }

abbrev pub paused : RolloutRecord → RolloutRecord
paused x = record x { paused = true }

-- the rollout is started, with its first group, and an action for each member is put behind those that are there
abbrev pub StartsRollout : ℕ → Records → Records → Type 0
StartsRollout r old new = new ≡ record old {
  rollouts = change_numbered r begin_rollout old.rollouts;
  actions = old.actions ++ new_actions (item_numbered old.rollouts r);
}

-- ---- going on

-- of this rollout, seen from its last started group
pub record IsResumeView (v : ResumeView) (x : RolloutRecord) : Type 0 where
  pub word : v.word ≡ rollout_word x
  pub rollout : v.rollout ≡ view_of x (last_started x.groups)

pub record IsTriggerView (v : TriggerView) (x : RolloutRecord) : Type 0 where
  pub word : v.word ≡ rollout_word x
  pub has_next : v.has_next ≡ list_any (λ (g : GroupRecord). not g.started) x.groups
  pub rollout : v.rollout ≡ view_of x (last_started x.groups)

-- a pause that was ends, and the group that the effects name is started
abbrev pub resumed_by : Effects → RolloutRecord → RolloutRecord
resumed_by effects x = record x { paused = effects.pauses; groups = map (start_group effects.starts) x.groups }

-- a pause that is stays, and the group that they name is started
abbrev pub moved_by : Effects → RolloutRecord → RolloutRecord
moved_by effects x = record x { paused = effects.pauses || x.paused; groups = map (start_group effects.starts) x.groups }

-- ---- actions

-- the action, and its rollout as the action's group sees it
pub record IsActionView (v : ActionView) (a : ActionRecord) (rs : Records) : Type 0 where
  pub outcome : v.outcome ≡ a.outcome
  pub canceling : v.canceling ≡ a.canceling
  pub number : v.number ≡ a.rollout
  pub rollout : Some v.rollout ≡ option_map (λ x. own_view_of x (group_number_of x a)) (item_numbered rs.rollouts a.rollout)

pub record IsCancelView (v : CancelView) (a : ActionRecord) (rs : Records) : Type 0 where
  pub started : v.started ≡ has_started rs a
  pub action : IsActionView v.action a rs

-- what is reported of the action; how it stands among its history matters while the action is open
pub record IsDeviceAction (v : DeviceAction) (a : ActionRecord) (new : Reported) (rs : Records) : Type 0 where
  pub notes : v.notes ≡ notes_of a
  pub standing : a.outcome ≡ None → v.standing ≡ standing_of a.history new
  pub action : IsActionView v.action a rs

-- what is there, where the test holds
abbrev pub only_if : {X : Type 0} → Bool → Option X → Option X
only_if b o = cond b o None

-- the action of this number, where the target is there and the action is the target's
abbrev pub action_for : Records → Bytes → ℕ → Option ActionRecord
action_for rs t k = only_if (is_some (target_of rs t) && is_some_and (is_for rs t) (item_numbered rs.actions k)) (item_numbered rs.actions k)

-- the action of this number, where it is the device's and its group is started
abbrev pub device_action : Records → Bytes → ℕ → Option ActionRecord
device_action rs t k = only_if (is_device_action rs t (item_numbered rs.actions k)) (item_numbered rs.actions k)

-- of what a device reports of action k, in these records
pub record IsFeedbackView (v : FeedbackView) (device : Credential) (k : ℕ) (new : Reported) (rs : Records) : Type 0 where
  pub misses_device : v.misses_device ≡ not (is_known rs device)
  pub own_action : BothOrNone (λ v a. IsDeviceAction v a new rs) v.own_action (device_action rs device.id k)

-- an open action is canceled, but one that is canceling already only by force
abbrev pub cancel_refusal : Option CancelView → Bool → Option Refusal
cancel_refusal None force = Some NotFound
cancel_refusal (Some v) force = first_refusal ((is_some v.action.outcome, ClosedAction) ∷ (not v.started || (v.action.canceling && not force), WrongState) ∷ [])

-- a second cancel by force ends the action, as gone
abbrev pub outcome_forced : Bool → Bool → Option Outcome
outcome_forced canceling force = cond (force && canceling) (Some Gone) None

-- the device has to be known, and the action its own
abbrev pub device_refusal : {A : Type 0} → Bool → Option A → Option Refusal
device_refusal misses_device found = first_refusal ((misses_device, Unauthorized) ∷ (is_none found, NotFound) ∷ [])

-- that of a known device's own action
abbrev pub of_device : DeviceAction → FeedbackView
of_device a = record { misses_device = false; own_action = Some a }

-- another outcome than this one, or none, is given
abbrev pub gives_other : Option Outcome → ActionView → Bool
gives_other gives v = is_some v.outcome && not (is_some_and (λ o. is_outcome o v.outcome) gives)

abbrev pub says_fresh : Standing → Bool
says_fresh Fresh = true
says_fresh _ = false

-- an open action gets a report that is new to it
abbrev pub is_fresh : DeviceAction → Bool
is_fresh v = is_none v.action.outcome && says_fresh v.standing

-- or one that was overtaken
abbrev pub is_overtaken : DeviceAction → Bool
is_overtaken v = is_none v.action.outcome && says_old v.standing

-- a note for which there is no room
abbrev pub lacks_room : Bool → DeviceAction → Bool
lacks_room note v = is_fresh v && (note && nat_le limits.notes v.notes)

-- what feedback of both kinds is refused with first
abbrev pub report_refusal : Option Outcome → DeviceAction → Option Refusal
report_refusal gives v = first_refusal ((gives_other gives v.action, ClosedAction) ∷ (is_overtaken v, OldNumber) ∷ [])

abbrev pub feedback_refusal : DeploymentWord → DeviceAction → Option Refusal
feedback_refusal word v = option_or (report_refusal (outcome_of_deployment word) v)
    (first_refusal ((lacks_room (says_note (OfDeployment word)) v, Quota) ∷ []))

abbrev pub cancel_feedback_refusal : CancelWord → DeviceAction → Option Refusal
cancel_feedback_refusal word v = option_or (report_refusal (outcome_of_cancel word) v)
    (first_refusal ((is_fresh v && not v.action.canceling, WrongState) ∷ (lacks_room (says_note (OfCancel word)) v, Quota) ∷ []))

-- the action ends so, in its own group
abbrev pub ended_by : ActionView → Outcome → Ending
ended_by v o = record { rollout = v.number; group = v.rollout.own.number; outcome = o; following = following v.rollout o }

-- an open action gets an outcome, or stays open, canceling or not
abbrev pub change_by : ActionView → Option Outcome → Bool → ActionChange
change_by v None canceling = StaysOpen canceling
change_by v (Some o) canceling = Ends (ended_by v o)

-- an action that has its outcome, or has heard the report, stays as it is
abbrev pub change_if_fresh : DeviceAction → Option Outcome → Bool → Option ActionChange
change_if_fresh v gives canceling = cond (is_fresh v) (Some (change_by v.action gives canceling)) None

-- whether it is canceling after a word on its cancel
abbrev pub canceling_after : CancelWord → Bool → Bool
canceling_after RejectedCancel canceling = false
canceling_after _ canceling = canceling

-- it is refused so, or makes of its action what its outcome says, and what it says of the canceling
abbrev pub JudgesFeedback : DeviceAction → Option Refusal → Option Outcome → Bool → Result (Option ActionChange) Refusal → Type 0
JudgesFeedback a refused gives canceling (Ok c) = (refused ≡ None) × (c ≡ change_if_fresh a gives canceling)
JudgesFeedback a refused gives canceling (Err refusal) = refused ≡ Some refusal

-- so does a cancel
abbrev pub JudgesCancel : CancelView → Bool → Result ActionChange Refusal → Type 0
JudgesCancel v force (Ok c) = (cancel_refusal (Some v) force ≡ None) × (c ≡ change_by v.action (outcome_forced v.action.canceling force) true)
JudgesCancel v force (Err refusal) = cancel_refusal (Some v) force ≡ Some refusal

abbrev pub action_with : ActionChange → ActionRecord → ActionRecord
action_with (StaysOpen canceling) a = record a { canceling = canceling }
action_with (Ends e) a = record a { outcome = Some e.outcome; canceling = false }

-- the outcome is counted in its group, and what follows is there
abbrev pub rollout_with : Ending → RolloutRecord → RolloutRecord
rollout_with e x = moved_by (effects_by e.group e.following) (record x { groups = map (counted e.outcome e.group) x.groups })

abbrev pub rollouts_with : ActionChange → List RolloutRecord → List RolloutRecord
rollouts_with (StaysOpen canceling) xs = xs
rollouts_with (Ends e) xs = change_numbered e.rollout (rollout_with e) xs

-- action k is changed, and what was reported of it is put at the end of its history
abbrev pub ChangesAction : ActionChange → List Reported → ℕ → Records → Records → Type 0
ChangesAction c reports k old new =
    new ≡ record old {
      rollouts = rollouts_with c old.rollouts;
      actions = change_numbered k (λ (a : ActionRecord). record (action_with c a) { history = a.history ++ reports }) old.actions;
    }

-- where there is no change, all stays
abbrev pub MayChangeAction : Option ActionChange → List Reported → ℕ → Records → Records → Type 0
MayChangeAction None reports k old new = new ≡ old
MayChangeAction (Some c) reports k old new = ChangesAction c reports k old new

-- ---- any command

-- the view is of the command, in these records
abbrev pub IsViewOf : RolloutCommandView → Command → Records → Type 0
IsViewOf (seen.Create v) (CreateRollout plan) rs = IsPlanView v plan rs
IsViewOf (seen.Approve v) (Approve r) rs = IsStandingView v r rs
IsViewOf (seen.Deny v) (Deny r) rs = IsStandingView v r rs
IsViewOf (seen.Start v) (Start r) rs = IsStandingView v r rs
IsViewOf (seen.Pause v) (Pause r) rs = IsStandingView v r rs
IsViewOf (seen.Resume v) (Resume r) rs = BothOrNone IsResumeView v (item_numbered rs.rollouts r)
IsViewOf (seen.TriggerNext v) (TriggerNext r) rs = BothOrNone IsTriggerView v (item_numbered rs.rollouts r)
IsViewOf (seen.Cancel v) (Cancel t k force) rs = BothOrNone (λ v a. IsCancelView v a rs) v (action_for rs t k)
IsViewOf (seen.Feedback v) (Feedback feedback) rs = IsFeedbackView v feedback.credential feedback.action (reported OfDeployment feedback) rs
IsViewOf (seen.CancelFeedback v) (CancelFeedback feedback) rs = IsFeedbackView v feedback.credential feedback.action (reported OfCancel feedback) rs
IsViewOf _ _ rs = ⊥

-- the change of the command takes the old records to the new ones
abbrev pub LeadsTo : RolloutChange → Command → Records → Records → Type 0
LeadsTo (change.Create n) (CreateRollout plan) old new = AddsPlannedRollout n plan old new
LeadsTo change.Approve (Approve r) old new = ChangesRollout r (with_approval Given) old new
LeadsTo change.Deny (Deny r) old new = ChangesRollout r (with_approval Denied) old new
LeadsTo change.Start (Start r) old new = StartsRollout r old new
LeadsTo change.Pause (Pause r) old new = ChangesRollout r paused old new
LeadsTo (change.Resume effects) (Resume r) old new = ChangesRollout r (resumed_by effects) old new
LeadsTo (change.TriggerNext effects) (TriggerNext r) old new = ChangesRollout r (moved_by effects) old new
LeadsTo (change.Cancel c) (Cancel t k force) old new = ChangesAction c [] k old new
LeadsTo (change.Feedback c) (Feedback feedback) old new = MayChangeAction c (reported OfDeployment feedback ∷ []) feedback.action old new
LeadsTo (change.CancelFeedback c) (CancelFeedback feedback) old new = MayChangeAction c (reported OfCancel feedback ∷ []) feedback.action old new
LeadsTo _ _ old new = ⊥

-- the machine's verdict over these records, and its step, by what an accepted command changes
abbrev pub DecidesAt : {C : Type 0} → (C → RolloutChange) → Records → Command → Result C Refusal → Type 0
DecidesAt its rs c (Ok it) = (check rs c ≡ None) × LeadsTo (its it) c rs (step_records rs c)
DecidesAt its rs c (Err refusal) = check rs c ≡ Some refusal

-- The verdict and the change are those of all sound records that the view is of.
abbrev pub DecidesAs : {C : Type 0} → (C → RolloutChange) → RolloutCommandView → Command → Result C Refusal → Type 0
DecidesAs its v c result = (rs : Records) → AreSound rs → IsViewOf v c rs → DecidesAt its rs c result

abbrev pub Decides : RolloutCommandView → Command → Result RolloutChange Refusal → Type 0
Decides v c result = DecidesAs (λ it. it) v c result

-- the machine's verdict at this list, and the records of the longer one
abbrev pub FollowsAt : CommandList → Command → Result RolloutChange Refusal → Type 0
FollowsAt h c (Ok change) = (verdict h c ≡ None) × LeadsTo change c (records h) (records (h ▸ c))
FollowsAt h c (Err refusal) = verdict h c ≡ Some refusal

-- The verdict and the change are those of every list of accepted commands that the view is of.
abbrev pub Follows : RolloutCommandView → Command → Result RolloutChange Refusal → Type 0
Follows v c result = (h : CommandList) → IsValid h → IsViewOf v c (records h) → FollowsAt h c result
