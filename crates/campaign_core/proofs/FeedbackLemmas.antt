-- What feedback comes to, by their views, over sound records.
use Rattle.campaign_core.proofs.Common.{◌≡◌, ℕ, Bool, true, false, cond, ◌&&◌, List, [], ◌∷◌, refl, sym, ◌∙◌, ap, Option, Some, None, is_none, is_some}
use Rattle.campaign_core.proofs.Common.{nat_le, not, option_or, unwrap_or, cancel_standing_said, outcome_given, outcome_of_cancel, outcome_of_deployment}
use Rattle.campaign_core.proofs.Common.{item_numbered, CancelFeedback, CancelWord, CanceledCancel, ClosedCancel, Command, Credential, DeploymentWord, Feedback}
use Rattle.campaign_core.proofs.Common.{DeviceFeedback, NotedCancel, RejectedCancel, act_on, step_action, Records, OfCancel, OfDeployment, Reported, Said}
use Rattle.campaign_core.proofs.Common.{is_again, reported, reported_by, says_again, says_old, standing_of, Standing, Again, Fresh, Old, ActionRecord, check}
use Rattle.campaign_core.proofs.Common.{first_refusal, is_device_action, is_known, notes_of, is_some_and, same_outcome, says_note, Outcome, Refusal}
use Rattle.campaign_core.proofs.Common.{ClosedAction}
use Rattle.campaign_core.proofs.Common.{NotFound, OldNumber, Quota, Unauthorized, WrongState, AreSound, IsFeedbackView, IsDeviceAction, MayChangeAction}
use Rattle.campaign_core.proofs.Common.{canceling_after, change_by, change_if_fresh, is_fresh, is_overtaken, arith, option_map}
use Rattle.campaign_core.proofs.Common.{device_refusal, Result, LeadsTo, DecidesAt, JudgesFeedback, of_device, step_records, report_refusal}
use Rattle.campaign_core.proofs.Common.{says_fresh, ActionChange, DeviceAction}
use Rattle.rollout_machine.specs.Verdicts as row
use Rattle.rollout_model.specs.Limits.{limits}
use Rattle.campaign_core.specs.declared.rollout_checks.RolloutChange.{RolloutChange}
use Rattle.campaign_core.proofs.ActionLemmas.{acts, stays}
use Rattle.campaign_core.proofs.ItemLemmas.{found}

-- ---- the action that it is on

record IsOfDevice (w : DeviceAction) (device : Credential) (k : ℕ) (new : Reported) (rs : Records) : Type 0 where
  pub action : ActionRecord
  pub numbered : item_numbered rs.actions k ≡ Some action
  pub is : IsDeviceAction w action new rs
  pub known : not (is_known rs device) ≡ false
  pub own : is_device_action rs device.id (item_numbered rs.actions k) ≡ true

own_action : (w : DeviceAction) (device : Credential) (k : ℕ) (new : Reported) (rs : Records) → IsFeedbackView (of_device w) device k new rs
    → IsOfDevice w device k new rs
own_action w device k new rs is = grind arith

past_device : (b d : Bool) (rest : Option Refusal) → b ≡ false → d ≡ true → cond b (Some Unauthorized) (cond (not d) (Some NotFound) rest) ≡ rest
past_device b d rest e f = rw (e, f) refl

-- ---- feedback of both kinds

-- a row that goes on so, where the action is open and the report isn't sent again
abbrev machine_row : Option Outcome → Option Outcome → Standing → (Bool → List (Bool × Refusal)) → Option Refusal
machine_row gives had s more =
    first_refusal ((is_some had && not (same_outcome gives had), ClosedAction) ∷ (is_none had && says_old s, OldNumber)
    ∷ more (is_none had && not (says_again s)))

abbrev view_row : Option Outcome → Option Outcome → Standing → (Bool → List (Bool × Refusal)) → Option Refusal
view_row gives had s more =
    option_or (first_refusal ((is_some had && not (same_outcome gives had), ClosedAction) ∷ (is_none had && says_old s, OldNumber) ∷ []))
    (first_refusal (more (is_none had && says_fresh s)))

-- the view's standing is that of the record where it is asked
same_row : (gives had : Option Outcome) (s t : Standing) (more : Bool → List (Bool × Refusal)) → (had ≡ None → t ≡ s) → machine_row gives had s more
    ≡ view_row gives had t more
same_row gives had s t more is = grind arith

-- What feedback on action k says of it, and the tests that its kind alone has: by the action's notes, whether it is canceling, and whether
-- it is open and the report isn't sent again.
pub record IsReport (c : Command) (device : Credential) (k : ℕ) (new : Reported) (gives : Option Outcome) (canceling : Bool → Bool)
    (tests : ℕ → Bool → Bool → List (Bool × Refusal)) : Type 0 where
  pub row : Option ActionRecord → Option Refusal
  pub check_is : (rs : Records) → check rs c
      ≡ cond (not (is_known rs device)) (Some Unauthorized)
      (cond (not (is_device_action rs device.id (item_numbered rs.actions k))) (Some NotFound) (row (item_numbered rs.actions k)))
  pub row_is : (a : ActionRecord) → row (Some a) ≡ machine_row gives a.outcome (standing_of a.history new) (tests (notes_of a) a.canceling)
  pub again : (reports : List Reported) → is_again reports c ≡ says_again (standing_of reports new)
  pub given : (b : Bool) → outcome_given c b ≡ gives
  pub said : (b : Bool) → unwrap_or (cancel_standing_said c) b ≡ canceling b

abbrev note_test : Said → ℕ → Bool → Bool × Refusal
note_test said notes asked = (asked && (says_note said && nat_le limits.notes notes), Quota)

pub on_deployment : (feedback : DeviceFeedback DeploymentWord) → IsReport (Feedback feedback) feedback.credential feedback.action
    (reported OfDeployment feedback) (outcome_of_deployment feedback.word)
    (λ b. b) (λ notes canceling asked. note_test (OfDeployment feedback.word) notes asked ∷ [])
on_deployment feedback = let new : Reported = reported OfDeployment feedback in record {
  row = λ o. first_refusal ((is_some_and (λ a. is_some a.outcome && not (same_outcome (outcome_of_deployment feedback.word) a.outcome)) o, ClosedAction)
      ∷ (is_some_and (row.is_old new) o, OldNumber)
      ∷ (is_some_and (λ a. row.is_new new a && row.is_beyond new a) o, Quota) ∷ []);
  check_is = λ rs. refl;
  row_is = λ a. refl;
  again = λ reports. refl;
  given = λ b. refl;
  said = λ b. refl;
}

pub on_cancel : (feedback : DeviceFeedback CancelWord) → IsReport (CancelFeedback feedback) feedback.credential feedback.action (reported OfCancel feedback)
    (outcome_of_cancel feedback.word)
    (canceling_after feedback.word) (λ notes canceling asked. (asked && not canceling, WrongState) ∷ note_test (OfCancel feedback.word) notes asked ∷ [])
on_cancel feedback = let new : Reported = reported OfCancel feedback in record {
  row = λ o. first_refusal ((is_some_and (λ a. is_some a.outcome && not (same_outcome (outcome_of_cancel feedback.word) a.outcome)) o, ClosedAction)
      ∷ (is_some_and (row.is_old new) o, OldNumber)
      ∷ (is_some_and (λ a. row.is_new new a && not a.canceling) o, WrongState) ∷ (is_some_and (λ a. row.is_new new a && row.is_beyond new a) o, Quota) ∷ []);
  check_is = λ rs. refl;
  row_is = λ a. refl;
  again = λ reports. refl;
  given = λ b. refl;
  said = said_is feedback.word;
}
  where
    said_is : (word : CancelWord) (b : Bool) → unwrap_or (elim word [ RejectedCancel ↦ Some false | _ ↦ None ]) b ≡ canceling_after word b
    said_is ClosedCancel b = refl
    said_is CanceledCancel b = refl
    said_is RejectedCancel b = refl
    said_is (NotedCancel p) b = refl

-- what isn't refused wasn't overtaken
not_old : (gives : Option Outcome) (w : DeviceAction) (more : Option Refusal) → option_or (report_refusal gives w) more ≡ None → is_overtaken w ≡ false
not_old gives w more accepted = grind arith

module _ {c : Command} {device : Credential} {k : ℕ} {new : Reported} {gives : Option Outcome} {canceling : Bool → Bool} {tests : ℕ → Bool → Bool
    → List (Bool × Refusal)}
    (report : IsReport c device k new gives canceling tests) (w : DeviceAction) (rs : Records) (is : IsFeedbackView (of_device w) device k new rs) where
  it : IsOfDevice w device k new rs
  it = own_action w device k new rs is

  report_row : check rs c ≡ option_or (report_refusal gives w) (first_refusal (tests w.notes w.action.canceling (is_fresh w)))
  report_row =
      report.check_is rs
      ∙ past_device (not (is_known rs device)) (is_device_action rs device.id (item_numbered rs.actions k)) (report.row (item_numbered rs.actions k)) it.known
      it.own
      ∙ ap report.row it.numbered
      ∙ report.row_is it.action
      ∙ same_row gives it.action.outcome (standing_of it.action.history new) w.standing (tests (notes_of it.action) it.action.canceling) it.is.standing
      ∙ ap (λ o. view_row gives o w.standing (tests (notes_of it.action) it.action.canceling)) (sym it.is.action.outcome)
      ∙ ap (λ b. view_row gives w.action.outcome w.standing (tests (notes_of it.action) b)) (sym it.is.action.canceling)
      ∙ ap (λ n. view_row gives w.action.outcome w.standing (tests n w.action.canceling)) (sym it.is.notes)

  abbrev Makes : Option ActionChange → Type 0
  Makes d = MayChangeAction d (reported_by c) k rs (step_action rs c (item_numbered rs.actions k))

  -- what an open action heard, or an action that is closed, leaves all as it is
  may_act : AreSound rs → is_overtaken w ≡ false → Makes (change_if_fresh w gives (canceling w.action.canceling))
  may_act sound still = go w.action.outcome w.standing refl refl still
    where
      is_open : w.action.outcome ≡ None → it.action.outcome ≡ None
      is_open e = sym it.is.action.outcome ∙ e

      sent : (s : Standing) → w.action.outcome ≡ None → w.standing ≡ s → is_again it.action.history c ≡ says_again s
      sent s e d = report.again it.action.history ∙ ap says_again (sym (it.is.standing (is_open e)) ∙ d)

      go : (o : Option Outcome) (s : Standing) → w.action.outcome ≡ o → w.standing ≡ s → (is_none o && says_old s) ≡ false
          → Makes (cond (is_none o && says_fresh s) (Some (change_by w.action gives (canceling w.action.canceling))) None)
      go None Fresh e d f =
          acts rs sound c k it.action w.action gives (canceling w.action.canceling) it.numbered (sent Fresh e d) e it.is.action
          (report.given it.action.canceling)
          (report.said it.action.canceling ∙ ap canceling (sym it.is.action.canceling))
      go None Again e d f = ap (step_action rs c) it.numbered ∙ ap (λ b. cond b rs (act_on rs c it.action)) (sent Again e d)
      go None Old e d f = cc
      go (Some o) s e d f = stays rs sound c k it.action o it.numbered (sym it.is.action.outcome ∙ e)

  pub reports : (its : Option ActionChange → RolloutChange) → ((d : Option ActionChange) → Makes d → LeadsTo (its d) c rs (step_records rs c)) → AreSound rs
      → (result : Result (Option ActionChange) Refusal)
      → JudgesFeedback w (option_or (report_refusal gives w) (first_refusal (tests w.notes w.action.canceling (is_fresh w)))) gives
      (canceling w.action.canceling) result → DecidesAt its rs c result
  reports its leads sound result e = grind (arith, report_row, may_act, not_old)

-- on no action of the device it is refused
module _ {c : Command} {device : Credential} {k : ℕ} {new : Reported} {gives : Option Outcome} {canceling : Bool → Bool} {tests : ℕ → Bool → Bool
    → List (Bool × Refusal)} (report : IsReport c device k new gives canceling tests) (rs : Records) {refusal : Refusal} where
  pub refuses_device : {A : Type 0} (misses : Bool) (found : Option A) (view : A → DeviceAction)
      → IsFeedbackView (record { misses_device = misses; own_action = option_map view found }) device k new rs
      → device_refusal misses found ≡ Some refusal → check rs c ≡ Some refusal
  refuses_device misses found view is e = report.check_is rs ∙ grind arith
