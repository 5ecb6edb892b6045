-- Commands on actions, by what was seen of the action and what the rule of the command made of it.
use Rattle.desk_commands.proofs.Common.{arith, ◌≡◌, ℕ, Bool, true, false, cond, List, [], ◌∷◌, Option, Some, None, option_map, Ok, refl, sym, ap, ◌∙◌, subst}
use Rattle.desk_commands.proofs.Common.{is_some}
use Rattle.desk_commands.proofs.Common.{is_none, and_parts, item_numbered, CommandList, IsWellFormed, Bytes, Cancel, Command, Credential, step_records, Records}
use Rattle.desk_commands.proofs.Common.{records, Reported, IsValid, check, Outcome, AreSound, DecidesAs, JudgesCancel, of_device, ActionRecord, same_true}
use Rattle.desk_commands.proofs.Common.{ChangesAction, IsFeedbackView, MayChangeAction, cancel_refusal, change_by, change_if_fresh, is_fresh, outcome_forced}
use Rattle.desk_commands.proofs.Common.{says_fresh, ActionChange, records_are_sound, numbers_of, ledger_of, actor, Acts, WritesFeedback, CountsNumbers}
use Rattle.desk_commands.proofs.Common.{TellsReports, IsSeen, MaySee, SeesFeedback, SeesTarget, action_view_seen, cancel_view_seen, only_of, only_started}
use Rattle.desk_commands.proofs.Common.{device_action_seen, Told, SeenAction, SeenFeedback}
use Rattle.std.proofs.lemmas.Option.{same_Some}
use Rattle.campaign_core.specs.declared.rollout_checks.RolloutChange.TheVariants as change
use Rattle.campaign_core.specs.declared.rollout_checks.RolloutCommandView.TheVariants as view
use Rattle.campaign_core.specs.declared.rollout_checks.actions.CancelView.{CancelView}
use Rattle.campaign_core.specs.declared.rollout_checks.of_devices.DeviceAction.{DeviceAction}
use Rattle.desk_commands.proofs.ActingEnds.{acts}
use Rattle.desk_commands.proofs.KnownActions.{cancel_viewed, feedback_viewed, heard_whole, known}

-- ---- which action was seen

-- it was found, and is of the target
of_target : (id : Bytes) (found : Option SeenAction) (s : SeenAction) → only_of id found ≡ Some s → (found ≡ Some s) × (s.action.target ≡ id)
of_target id found s is = grind (arith, same_Some, same_true)

started_too : (found : Option SeenAction) (s : SeenAction) → only_started found ≡ Some s → (found ≡ Some s) × (s.own.started ≡ true)
started_too found s is = grind (arith, same_Some)

-- ---- what is made of it

module _ (h : CommandList) (c : Command) (valid : IsValid h) (formed : IsWellFormed c) (accepted : check (records h) c ≡ None) (k : ℕ) (told : Option Told)
    (reports : List Reported) (tells : TellsReports reports told) where
  -- what is made of it
  abbrev ActsOn : SeenAction → Type 0
  ActsOn s = actor c ≡ Some s.action.target → is_none s.action.outcome ≡ true → s.own.started ≡ true → (gives : Option Outcome) (canceling : Bool)
      → ChangesAction (change_by (action_view_seen s) gives canceling) reports k (records h) (step_records (records h) c)
      → Acts s (change_by (action_view_seen s) gives canceling) told (ledger_of (records h)) (ledger_of (step_records (records h) c))

  acts_on : (s : SeenAction) → IsSeen (ledger_of (records h)) k s
      → ((a : ActionRecord) → item_numbered (records h).actions k ≡ Some a → CountsNumbers told (numbers_of a)) → ActsOn s
  acts_on s sees counted =
      let it = known h valid k s sees in
      subst ActsOn (sym it.is) (acts h c valid formed accepted k it.placed told reports tells (counted it.placed.action it.placed.at))

-- ---- feedback, on a deployment or on its cancel

module _ {seen : SeenFeedback} {s : SeenAction} (own : (seen.misses_device ≡ false) × (seen.action ≡ Some s)) (device : Credential) (k : ℕ) (new : Reported)
  where
    pub own_viewed : (h : CommandList) → IsValid h → SeesFeedback device k new (records h) seen
        → IsFeedbackView (of_device (device_action_seen seen.report.standing s)) device k new (records h)
    own_viewed h valid w = subst (λ v. IsFeedbackView v device k new (records h))
        (λ i. record { misses_device = own.0 i; own_action = option_map (device_action_seen seen.report.standing) (own.1 i) })
        (feedback_viewed h valid k device new seen w)

    module _ {after : Option ActionChange} (gives : Option Outcome) (canceling : Bool)
        (judged : after ≡ change_if_fresh (device_action_seen seen.report.standing s) gives canceling) (c : Command) (by : actor c ≡ Some device.id)
        (formed : IsWellFormed c)
        (decides : (rs : Records) → AreSound rs → IsFeedbackView (of_device (device_action_seen seen.report.standing s)) device k new rs → (check rs c ≡ None)
        × MayChangeAction after (new ∷ []) k rs (step_records rs c)) where
      module _ (h : CommandList) (valid : IsValid h) (w : SeesFeedback device k new (records h) seen) where
        it : (check (records h) c ≡ None) × MayChangeAction after (new ∷ []) k (records h) (step_records (records h) c)
        it = decides (records h) (records_are_sound h valid) (own_viewed h valid w)

        abbrev Writes : Option ActionChange → Type 0
        Writes o = WritesFeedback s o seen.report.numbers new (ledger_of (records h)) (ledger_of (step_records (records h) c))

        changes : (o : Option ActionChange) → after ≡ o → MayChangeAction o (new ∷ []) k (records h) (step_records (records h) c)
        changes o is = subst (λ o. MayChangeAction o (new ∷ []) k (records h) (step_records (records h) c)) is it.1

        writes : (fresh : Bool) → is_fresh (device_action_seen seen.report.standing s) ≡ fresh
            → after ≡ cond fresh (Some (change_by (action_view_seen s) gives canceling)) None → Writes after
        writes true at is =
            let on = started_too (only_of device.id w.found) s (sym w.action ∙ own.1) in
            let its = of_target device.id w.found s on.0 in
            let unended = (and_parts (is_none s.action.outcome) _ at).0 in
            subst Writes (sym is) (λ told tells numbers. acts_on h c valid formed it.0 k (Some told) (new ∷ []) tells s
            (subst (λ o. MaySee k (ledger_of (records h)) o) its.0 w.sees)
            (λ r there bears. numbers
            ∙ (heard_whole h valid k device new seen w s own.1 (grind (arith, unended)) r there).numbers (sym (ap is_some tells.number) ∙ bears))
            (by ∙ ap (λ t. Some t) (sym its.1)) unended on.1 gives canceling (changes _ is))
        writes false at is = subst Writes (sym is) (ap ledger_of (changes _ is))

        pub feedback_taken : (check (records h) c ≡ None) × Writes after
        feedback_taken = (it.0, writes (is_fresh (device_action_seen seen.report.standing s)) refl judged)

-- it acts only where the report is new
pub acts_on_fresh : (v : DeviceAction) {after : Option ActionChange} (gives : Option Outcome) (canceling : Bool) → after ≡ change_if_fresh v gives canceling
    → is_some after ≡ true → says_fresh v.standing ≡ true
acts_on_fresh v gives canceling judged some = grind (arith, and_parts, is_none, is_some)

-- ---- cancels

-- what is canceled is open, and its group is started
cancels : (v : CancelView) (force : Bool) → cancel_refusal (Some v) force ≡ None → (is_none v.action.outcome ≡ true) × (v.started ≡ true)
cancels v force none = grind (arith, is_some, is_none)

module _ (id : Bytes) (k : ℕ) (force : Bool) {s : SeenAction} {after : ActionChange} (formed : IsWellFormed (Cancel id k force))
    (decides : DecidesAs change.Cancel (view.Cancel (Some (cancel_view_seen s))) (Cancel id k force) (Ok after))
    (judged : JudgesCancel (cancel_view_seen s) force (Ok after)) where
  pub cancel_taken : (h : CommandList) → IsValid h → SeesTarget id k (records h) (Some s) → (check (records h) (Cancel id k force) ≡ None)
      × Acts s after None (ledger_of (records h)) (ledger_of (step_records (records h) (Cancel id k force)))
  cancel_taken h valid w =
      let it = decides (records h) (records_are_sound h valid) (cancel_viewed h valid k id (Some s) w) in
      let its = of_target id w.found s (grind (arith, w.action)) in
      let may = cancels (cancel_view_seen s) force judged.0 in (
        it.0,
        subst (λ o. Acts s o None (ledger_of (records h)) (ledger_of (step_records (records h) (Cancel id k force)))) (sym judged.1)
            (acts_on h (Cancel id k force) valid formed it.0 k None [] tt s (subst (λ o. MaySee k (ledger_of (records h)) o) its.0 w.sees) (λ a at. tt)
            (ap (λ t. Some t) (sym its.1)) may.0 may.1
            (outcome_forced s.action.canceling force) true
            (subst (λ o. ChangesAction o [] k (records h) (step_records (records h) (Cancel id k force))) judged.1 it.1)),
      )
