-- What commands on actions come to, by the views of these actions, over sound records.
use native.Mathlib.Omega.{arith}
use Rattle.campaign_core.proofs.Common.{◌≡◌, ℕ, Bool, true, false, cond, ◌&&◌, List, [], ◌++◌, refl, sym, ◌∙◌, ap, subst, Option, Some, None, Ok}
use Rattle.campaign_core.proofs.Common.{Err, Result, is_none, is_some, map, nat_eq, option_or, unwrap_or, eq-eqb, cancel_standing_said}
use Rattle.campaign_core.proofs.Common.{outcome_given, item_numbered, Bytes, Cancel, Command, action_after, change_rollout, is_same_action}
use Rattle.campaign_core.proofs.Common.{outcome_if_new, own_group, rollout_after, rollouts_after_outcome, act_on, step_action, Records, Reported, is_again}
use Rattle.campaign_core.proofs.Common.{reported_by, ActionRecord, RolloutRecord, group_number_of, is_for, check, is_some_and}
use Rattle.campaign_core.proofs.Common.{target_of, Outcome, Refusal, ClosedAction, OwnDecides, own_view_of}
use Rattle.campaign_core.proofs.Common.{AreSound, BothOrNone, ChangesAction, DecidesAs, IsActionView, IsCancelView, JudgesCancel, action_for, action_with}
use Rattle.campaign_core.proofs.Common.{cancel_refusal, change_by, change_numbered, ended_by, outcome_forced, rollout_with, rollouts_with}
use Rattle.campaign_core.proofs.Common.{ActionChange, ActionView, CancelView}
use Rattle.rollout_machine.proofs.Actions.{append_none}
use Rattle.campaign_core.specs.declared.rollout_checks.RolloutChange.TheVariants as change
use Rattle.campaign_core.specs.declared.rollout_checks.RolloutCommandView.TheVariants as seen
use Rattle.campaign_core.proofs.ItemLemmas.{IsFound, changed_same, found, only_found, picked, same_item, unchanged}
use Rattle.campaign_core.proofs.RolloutLemmas.{rollouts_changed}

-- ---- the action

-- the actions of a place are the one that stands there
actions_changed : (rs : Records) → AreSound rs → (k : ℕ) (a : ActionRecord) (f : ActionRecord → ActionRecord) → item_numbered rs.actions k ≡ Some a
    → map (λ (b : ActionRecord). cond (is_same_action b a) (f b) b) rs.actions ≡ change_numbered k f rs.actions
actions_changed rs sound k a f at =
    picked (λ (b : ActionRecord). is_same_action b a) f k rs.actions (record {
      only = λ j b d t. sound.apart j k b a d at t;
      here = λ b d. subst (λ c. is_same_action c a ≡ true) (same_item (item_numbered rs.actions k) a b at d) itself;
    })
  where
    itself : (nat_eq a.rollout a.rollout && nat_eq a.position a.position) ≡ true
    itself = rw (eq-eqb a.rollout a.rollout refl, eq-eqb a.position a.position refl) refl

-- an action record with an outcome, its canceling and its history
abbrev set_to : ActionRecord → Option Outcome → Bool → List Reported → ActionRecord
set_to a o b es = record a { outcome = o; canceling = b; history = es }

-- an open action after a command that gives it this, or nothing
open_after : (c : Command) (a : ActionRecord) (v : ActionView) (gives : Option Outcome) (canceling : Bool) → a.outcome ≡ None → outcome_given c a.canceling
    ≡ gives → unwrap_or (cancel_standing_said c) a.canceling ≡ canceling
    → action_after c a ≡ record (action_with (change_by v gives canceling) a) { history = a.history ++ reported_by c }
open_after c a v gives canceling was given said = grind arith

-- one that has its outcome
closed_after : (c : Command) (a : ActionRecord) (o : Outcome) → a.outcome ≡ Some o → a.canceling ≡ false → action_after c a ≡ a
closed_after c a o had over =
    ap (λ p. set_to a (option_or p (outcome_given c a.canceling))
    (is_none (option_or p (outcome_given c a.canceling)) && unwrap_or (cancel_standing_said c) a.canceling)
    (a.history ++ cond (is_none p) (reported_by c) [])) had
    ∙ ap (λ p. set_to a p false (a.history ++ [])) (sym had)
    ∙ ap (λ b. set_to a a.outcome b (a.history ++ [])) (sym over)
    ∙ ap (λ es. set_to a a.outcome a.canceling es) (append_none a.history)

-- ---- its rollout

-- the rollout of the action, and what the view shows of it
record HasRollout (v : ActionView) (a : ActionRecord) (rs : Records) : Type 0 where
  rollout : RolloutRecord
  there : item_numbered rs.rollouts a.rollout ≡ Some rollout
  is : v.rollout ≡ own_view_of rollout (group_number_of rollout a)

has_rollout : (v : ActionView) (a : ActionRecord) (rs : Records) → IsActionView v a rs → HasRollout v a rs
has_rollout v a rs is = grind arith

rollout_ended : (v : ActionView) (o : Outcome) (x : RolloutRecord) (a : ActionRecord) → OwnDecides x a → v.rollout ≡ own_view_of x (group_number_of x a)
    → rollout_after o (group_number_of x a) x ≡ rollout_with (ended_by v o) x
rollout_ended v o x a decides is = grind arith

rollouts_ended : (rs : Records) → AreSound rs → (k : ℕ) (a : ActionRecord) (v : ActionView) → item_numbered rs.actions k ≡ Some a → IsActionView v a rs
    → (gives : Option Outcome) (canceling : Bool)
    → rollouts_after_outcome gives rs.rollouts a ≡ rollouts_with (change_by v gives canceling) rs.rollouts
rollouts_ended rs sound k a v at is None canceling = refl
rollouts_ended rs sound k a v at is (Some o) canceling =
    let it : HasRollout v a rs = has_rollout v a rs is in
    ap (λ q. change_rollout a.rollout (rollout_after o (own_group q a)) rs.rollouts) it.there
    ∙ rollouts_changed rs sound a.rollout (rollout_after o (group_number_of it.rollout a))
    ∙ changed_same (rollout_after o (group_number_of it.rollout a)) (rollout_with (ended_by v o)) a.rollout rs.rollouts
    (λ y d. subst (λ z. rollout_after o (group_number_of it.rollout a) z ≡ rollout_with (ended_by v o) z)
    (same_item (item_numbered rs.rollouts a.rollout) it.rollout y it.there d) (rollout_ended v o it.rollout a (sound.own k a it.rollout at it.there) it.is))
    ∙ ap (λ r. change_numbered r (rollout_with (ended_by v o)) rs.rollouts) (sym is.number)

-- ---- the step

both : (rs : Records) (xs ys : List RolloutRecord) (as' bs : List ActionRecord) → xs ≡ ys → as' ≡ bs → record rs { rollouts = xs; actions = as' }
    ≡ record rs { rollouts = ys; actions = bs }
both rs xs ys as' bs e d = rw (e, d) refl

-- what the action hears for the first time is acted on
heard : (rs : Records) (c : Command) (k : ℕ) (a : ActionRecord) → item_numbered rs.actions k ≡ Some a → is_again a.history c ≡ false
    → step_action rs c (item_numbered rs.actions k) ≡ act_on rs c a
heard rs c k a at new = ap (step_action rs c) at ∙ ap (λ b. cond b rs (act_on rs c a)) new

-- an open action gets what the command gives it, and its rollout what follows
pub acts : (rs : Records) → AreSound rs → (c : Command) (k : ℕ) (a : ActionRecord) (v : ActionView) (gives : Option Outcome) (canceling : Bool)
    → item_numbered rs.actions k ≡ Some a → is_again a.history c ≡ false → v.outcome ≡ None → IsActionView v a rs
    → outcome_given c a.canceling ≡ gives → unwrap_or (cancel_standing_said c) a.canceling ≡ canceling
    → ChangesAction (change_by v gives canceling) (reported_by c) k rs (step_action rs c (item_numbered rs.actions k))
acts rs sound c k a v gives canceling at new was is given said =
    heard rs c k a at new
    ∙ both rs _ _ _ _
    (ap (λ p. rollouts_after_outcome (outcome_if_new p (outcome_given c a.canceling)) rs.rollouts a) is_open
    ∙ ap (λ g. rollouts_after_outcome g rs.rollouts a) given ∙ rollouts_ended rs sound k a v at is gives canceling)
    (actions_changed rs sound k a (action_after c) at
    ∙ changed_same (action_after c) after k rs.actions
    (λ b d. subst (λ z. action_after c z ≡ after z) (same_item (item_numbered rs.actions k) a b at d)
    (open_after c a v gives canceling is_open given said)))
  where
    is_open : a.outcome ≡ None
    is_open = sym is.outcome ∙ was

    after : ActionRecord → ActionRecord
    after b = record (action_with (change_by v gives canceling) b) { history = b.history ++ reported_by c }

-- one that has its outcome stays as it is, whether it has heard this or not
pub stays : (rs : Records) → AreSound rs → (c : Command) (k : ℕ) (a : ActionRecord) (o : Outcome) → item_numbered rs.actions k ≡ Some a → a.outcome ≡ Some o
    → step_action rs c (item_numbered rs.actions k) ≡ rs
stays rs sound c k a o at had = ap (step_action rs c) at ∙ go (is_again a.history c)
  where
    go : (b : Bool) → cond b rs (act_on rs c a) ≡ rs
    go true = refl
    go false =
        both rs _ _ _ _
        (ap (λ p. rollouts_after_outcome (outcome_if_new p (outcome_given c a.canceling)) rs.rollouts a) had)
        (actions_changed rs sound k a (action_after c) at
        ∙ unchanged (action_after c) k rs.actions
        (λ b d. subst (λ z. action_after c z ≡ z) (same_item (item_numbered rs.actions k) a b at d) (closed_after c a o had (sound.over k a o at had))))

-- ---- cancels

pub cancel_row : (rs : Records) (t : Bytes) (k : ℕ) (force : Bool) (v : Option CancelView) → BothOrNone (λ w a. IsCancelView w a rs) v (action_for rs t k)
    → check rs (Cancel t k force) ≡ cancel_refusal v force
cancel_row rs t k force v is = grind arith

open_if : (o : Option Outcome) (rest : Option Refusal) → cond (is_some o) (Some ClosedAction) rest ≡ None → o ≡ None
open_if o rest e = grind arith

pub cancels : (v : CancelView) (t : Bytes) (k : ℕ) (force : Bool) (result : Result ActionChange Refusal) → JudgesCancel v force result
    → DecidesAs change.Cancel (seen.Cancel (Some v)) (Cancel t k force) result
cancels v t k force (Ok c) e rs sound is =
    let it : IsFound (λ w a. IsCancelView w a rs) v (action_for rs t k) = found (λ w a. IsCancelView w a rs) (Some v) v (action_for rs t k) refl is in
    let at : item_numbered rs.actions k ≡ Some it.item = only_found (is_some (target_of rs t) && is_some_and (is_for rs t) (item_numbered rs.actions k))
    (item_numbered rs.actions k) it.item it.there in (
      cancel_row rs t k force (Some v) is ∙ e.0,
      subst (λ d. ChangesAction d [] k rs (step_action rs (Cancel t k force) (item_numbered rs.actions k))) (sym e.1)
          (acts rs sound (Cancel t k force) k it.item v.action (outcome_forced v.action.canceling force) true at refl (open_if v.action.outcome _ e.0)
          it.is.action (ap (λ b. outcome_forced b force) (sym it.is.action.canceling)) refl),
    )
cancels v t k force (Err refusal) e rs sound is = cancel_row rs t k force (Some v) is ∙ e
