-- The rows of the verdicts on rollouts at their borders, by computing.
use Rattle.campaign_core.proofs.Common.{◌≡◌, ℕ, Bool, true, false, [], ◌∷◌, Option, Some, None, refl, Failed, Noted, Proceeding, Rejected, RejectedCancel}
use Rattle.campaign_core.proofs.Common.{CanceledCancel, NotedCancel, Resumed, PausedRollout, RunningRollout, is_at_pause, is_running, Outcome, Good, Bad, Gone}
use Rattle.campaign_core.proofs.Common.{Standing, Again, Fresh, Old, GroupView, BadFilter, ClosedAction, Exists, NotFound, OldNumber, Quota, TooFewTargets}
use Rattle.campaign_core.proofs.Common.{Unauthorized, WrongState, cancel_feedback_refusal, cancel_refusal, canceling_after, change_if_fresh, device_refusal}
use Rattle.campaign_core.proofs.Common.{feedback_refusal, outcome_forced, plan_refusal, word_refusal, ActionView, CancelView, DeviceAction}
use Rattle.rollout_model.specs.Groupings.{defined, evenly}
use Rattle.campaign_core.specs.declared.rollout_checks.plans.PlanView.{PlanView}

-- ---- creating in three groups

abbrev planned : (bad missing same : Bool) (members count : ℕ) → PlanView
planned bad missing same members count = record { bad_filter = bad; misses_set = missing; same_name = same; members = members; count = count; approval = false }

rollout_1000 : plan_refusal (planned false false false 3 999) (evenly 3) ≡ None
rollout_1000 = refl

rollout_1001 : plan_refusal (planned false false false 3 1000) (evenly 3) ≡ Some Quota
rollout_1001 = refl

rollout_of_two : plan_refusal (planned false false false 2 1000) (evenly 3) ≡ Some TooFewTargets
rollout_of_two = refl

-- half of two members, then a tenth, and then nobody is left
rollout_of_an_empty_group : plan_refusal (planned false false false 2 1000)
    (defined (record { percentage = 50; success = 1; error = 1 } ∷ record { percentage = 10; success = 1; error = 1 }
    ∷ record { percentage = 100; success = 1; error = 1 } ∷ [])) ≡ Some TooFewTargets
rollout_of_an_empty_group = refl

rollout_again : plan_refusal (planned false false true 2 1000) (evenly 3) ≡ Some Exists
rollout_again = refl

rollout_of_no_set : plan_refusal (planned false true true 2 1000) (evenly 3) ≡ Some NotFound
rollout_of_no_set = refl

rollout_of_no_filter : plan_refusal (planned true true true 2 1000) (evenly 3) ≡ Some BadFilter
rollout_of_no_filter = refl

-- ---- going on

paused_goes_on : word_refusal is_at_pause (Some PausedRollout) ≡ None
paused_goes_on = refl

running_goes_on : word_refusal is_at_pause (Some RunningRollout) ≡ Some WrongState
running_goes_on = refl

paused_is_triggered : word_refusal is_running (Some PausedRollout) ≡ Some WrongState
paused_is_triggered = refl

nothing_is_triggered : word_refusal is_running None ≡ Some NotFound
nothing_is_triggered = refl

-- ---- actions

abbrev group : GroupView
group = record { number = 1; size = 3; ok = 0; bad = 0; success = 50; error = 50 }

abbrev acted : (outcome : Option Outcome) (canceling : Bool) → ActionView
acted o canceling = record { outcome = o; canceling = canceling; number = 1; rollout = record { paused = false; own = group; next_waits = true } }

abbrev canceled : (outcome : Option Outcome) (started canceling : Bool) → Option CancelView
canceled o started canceling = Some (record { started = started; action = acted o canceling })

first_cancel : cancel_refusal (canceled None true false) false ≡ None
first_cancel = refl

first_force : outcome_forced false true ≡ None
first_force = refl

second_cancel : cancel_refusal (canceled None true true) false ≡ Some WrongState
second_cancel = refl

second_by_force : cancel_refusal (canceled None true true) true ≡ None
second_by_force = refl

gone_by_force : outcome_forced true true ≡ Some Gone
gone_by_force = refl

cancel_of_scheduled : cancel_refusal (canceled None false false) true ≡ Some WrongState
cancel_of_scheduled = refl

cancel_of_closed : cancel_refusal (canceled (Some Good) false false) true ≡ Some ClosedAction
cancel_of_closed = refl

-- ---- feedback

abbrev own_action : (standing : Standing) (outcome : Option Outcome) (canceling : Bool) (notes : ℕ) → DeviceAction
own_action standing o canceling notes = record { notes = notes; standing = standing; action = acted o canceling }

stranger : device_refusal {A = DeviceAction} true None ≡ Some Unauthorized
stranger = refl

action_of_another : device_refusal {A = DeviceAction} false None ≡ Some NotFound
action_of_another = refl

note_100 : feedback_refusal (Noted Proceeding) (own_action Fresh None false 99) ≡ None
note_100 = refl

note_101 : feedback_refusal (Noted Proceeding) (own_action Fresh None false 100) ≡ Some Quota
note_101 = refl

rejection_101 : feedback_refusal Rejected (own_action Fresh None false 100) ≡ Some Quota
rejection_101 = refl

failure_after_100 : feedback_refusal Failed (own_action Fresh None false 100) ≡ None
failure_after_100 = refl

failure_again : feedback_refusal Failed (own_action Fresh (Some Bad) false 100) ≡ None
failure_again = refl

failure_after_success : feedback_refusal Failed (own_action Fresh (Some Good) false 100) ≡ Some ClosedAction
failure_after_success = refl

note_after_success : feedback_refusal (Noted Proceeding) (own_action Fresh (Some Good) false 0) ≡ Some ClosedAction
note_after_success = refl

cancel_not_asked : cancel_feedback_refusal CanceledCancel (own_action Fresh None false 0) ≡ Some WrongState
cancel_not_asked = refl

rejection_after_100 : cancel_feedback_refusal RejectedCancel (own_action Fresh None true 100) ≡ None
rejection_after_100 = refl

cancel_note_101 : cancel_feedback_refusal (NotedCancel Resumed) (own_action Fresh None true 100) ≡ Some Quota
cancel_note_101 = refl

canceled_again : cancel_feedback_refusal CanceledCancel (own_action Fresh (Some Gone) false 0) ≡ None
canceled_again = refl

-- ---- feedback with a number

note_100_again : feedback_refusal (Noted Proceeding) (own_action Again None false 100) ≡ None
note_100_again = refl

again_changes_nothing : change_if_fresh (own_action Again None false 100) None false ≡ None
again_changes_nothing = refl

old_note_101 : feedback_refusal (Noted Proceeding) (own_action Old None false 100) ≡ Some OldNumber
old_note_101 = refl

old_note_after_success : feedback_refusal (Noted Proceeding) (own_action Old (Some Good) false 100) ≡ Some ClosedAction
old_note_after_success = refl

failure_again_as_old : feedback_refusal Failed (own_action Old (Some Bad) false 100) ≡ None
failure_again_as_old = refl

-- the rejection ended the canceling, and is sent again
rejection_again : cancel_feedback_refusal RejectedCancel (own_action Again None false 0) ≡ None
rejection_again = refl

-- it ends no newer one
rejection_ends_once : change_if_fresh (own_action Again None true 0) None (canceling_after RejectedCancel true) ≡ None
rejection_ends_once = refl

old_rejection : cancel_feedback_refusal RejectedCancel (own_action Old None false 0) ≡ Some OldNumber
old_rejection = refl
