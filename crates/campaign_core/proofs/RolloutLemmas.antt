-- The verdicts on commands on rollouts by their views, and the steps of sound records.
use native.Mathlib.Omega.{arith}
use Rattle.campaign_core.proofs.Common.{◌≡◌, ℕ, Bool, true, false, List, [], ◌∷◌, sym, ◌∙◌, ap, Option, Some, None, Ok, nat_eq}
use Rattle.campaign_core.proofs.Common.{nat_lt, not, is_none, option_map, eq-eqb, eqb-true, item_numbered, Resume, Start, TriggerNext, next_if}
use Rattle.campaign_core.proofs.Common.{starts_next, change_rollout, group_view, last_started, resumed, step_records}
use Rattle.campaign_core.proofs.Common.{triggered, view_of, Records, RolloutRecord, RolloutWord, rollout_word}
use Rattle.campaign_core.proofs.Common.{first_refusal, has_next, is_at_pause, is_running, same_word, rollout_word_row, word_is, Effects, RolloutView, Refusal}
use Rattle.campaign_core.proofs.Common.{NotFound}
use Rattle.campaign_core.proofs.Common.{WrongState, AreSound, ChangesRollout, Decides, IsResumeView, IsStandingView, IsTriggerView, StartsRollout}
use Rattle.campaign_core.proofs.Common.{change_numbered, moved_by, resumed_by, word_refusal}
use Rattle.campaign_core.specs.declared.rollout_checks.RolloutChange.TheVariants as change
use Rattle.campaign_core.specs.declared.rollout_checks.RolloutCommandView.TheVariants as seen
use Rattle.campaign_core.specs.declared.rollout_checks.progress.ResumeView.{ResumeView}
use Rattle.campaign_core.specs.declared.rollout_checks.progress.TriggerView.{TriggerView}
use Rattle.campaign_core.specs.declared.rollout_checks.standing.StandingView.{StandingView}
use Rattle.campaign_core.proofs.ItemLemmas.{IsFound, changed_same, found, picked}

-- ---- rollouts

-- the rollouts of a number are the one that stands there
pub rollouts_changed : (rs : Records) → AreSound rs → (r : ℕ) (f : RolloutRecord → RolloutRecord) → change_rollout r f rs.rollouts
    ≡ change_numbered r f rs.rollouts
rollouts_changed rs sound r f =
    picked (λ (x : RolloutRecord). nat_eq x.number r) f r rs.rollouts (record {
      only = λ j x at t. sym (sound.numbered j x at) ∙ eqb-true x.number r t;
      here = λ x at. eq-eqb x.number r (sound.numbered r x at);
    })

pub changes_rollout : (rs : Records) → AreSound rs → (r : ℕ) (f : RolloutRecord → RolloutRecord)
    → ChangesRollout r f rs (record rs { rollouts = change_rollout r f rs.rollouts })
changes_rollout rs sound r f = ap (λ (xs : List RolloutRecord). record rs { rollouts = xs }) (rollouts_changed rs sound r f)

pub changes_found : (rs : Records) → AreSound rs → (r : ℕ) (f g : RolloutRecord → RolloutRecord) (x : RolloutRecord) → item_numbered rs.rollouts r ≡ Some x
    → f x ≡ g x → ChangesRollout r g rs (record rs { rollouts = change_rollout r f rs.rollouts })
changes_found rs sound r f g x at same = grind (arith, rollouts_changed, changed_same)

pub starts_rollout : (rs : Records) → AreSound rs → (r : ℕ) → StartsRollout r rs (step_records rs (Start r))
starts_rollout rs sound r = grind (arith, rollouts_changed)

-- the number of a group's view
pub number_is : (x : RolloutRecord) (i : ℕ) → (group_view x i).number ≡ i
number_is x i = grind arith

-- ---- words

row_is : (p : RolloutWord → Bool) (o : Option RolloutRecord) → first_refusal ((is_none o, NotFound) ∷ (not (word_is p o), WrongState) ∷ [])
    ≡ word_refusal p (option_map rollout_word o)
row_is p o = grind arith

-- the row of a command on a rollout, by its state
pub word_row : (word : RolloutWord) (v : StandingView) (r : ℕ) (rs : Records) (result : Option Refusal) → IsStandingView v r rs
    → word_refusal (same_word word) v.word ≡ result → first_refusal (rollout_word_row rs r word) ≡ result
word_row word v r rs result is e = row_is (same_word word) (item_numbered rs.rollouts r) ∙ sym (ap (word_refusal (same_word word)) is.word) ∙ e

-- the same where the rollout is there
pub found_row : (p : RolloutWord → Bool) (o : Option RolloutRecord) (x : RolloutRecord) (word : RolloutWord) → o ≡ Some x → word ≡ rollout_word x
    → word_refusal p (Some word) ≡ None → first_refusal ((is_none o, NotFound) ∷ (not (word_is p o), WrongState) ∷ []) ≡ None
found_row p o x word at is e = row_is p o ∙ ap (λ q. word_refusal p (option_map rollout_word q)) at ∙ ap (λ w. word_refusal p (Some w)) (sym is) ∙ e

trigger_row : (o : Option RolloutRecord) (x : RolloutRecord) (word : RolloutWord) → o ≡ Some x → word ≡ rollout_word x → word_refusal is_running (Some word)
    ≡ None → has_next (Some x) ≡ true
    → first_refusal ((is_none o, NotFound) ∷ (not (word_is is_running o), WrongState) ∷ (not (has_next o), WrongState) ∷ []) ≡ None
trigger_row o x word at is e next = grind arith

-- ---- going on

same_resumed : (effects : Effects) (w : RolloutView) (x : RolloutRecord) → effects.pauses ≡ false → effects.starts ≡ starts_next w false w.last.ok
    → w ≡ view_of x (last_started x.groups) → resumed x ≡ resumed_by effects x
same_resumed effects w x pauses starts is = grind arith

pub resumes : (v : Option ResumeView) (w : ResumeView) (r : ℕ) (effects : Effects) → v ≡ Some w → word_refusal is_at_pause (Some w.word) ≡ None → effects.pauses
    ≡ false → effects.starts ≡ starts_next w.rollout false w.rollout.last.ok
    → Decides (seen.Resume v) (Resume r) (Ok (change.Resume effects))
resumes v w r effects e word pauses starts rs sound is =
    let it : IsFound IsResumeView w (item_numbered rs.rollouts r) = found IsResumeView v w (item_numbered rs.rollouts r) e is in (
      found_row is_at_pause (item_numbered rs.rollouts r) it.item w.word it.there it.is.word word,
      changes_found rs sound r resumed (resumed_by effects) it.item it.there (same_resumed effects w.rollout it.item pauses starts it.is.rollout),
    )

same_moved : (effects : Effects) (w : RolloutView) (x : RolloutRecord) → effects.pauses ≡ false → effects.starts
    ≡ next_if (nat_lt w.last.number w.groups) w.last.number → w ≡ view_of x (last_started x.groups) → triggered x ≡ moved_by effects x
same_moved effects w x pauses starts is = grind arith

pub triggers : (v : Option TriggerView) (w : TriggerView) (r : ℕ) (effects : Effects) → v ≡ Some w → word_refusal is_running (Some w.word) ≡ None → w.has_next
    ≡ true → effects.pauses ≡ false → effects.starts ≡ next_if (nat_lt w.rollout.last.number w.rollout.groups) w.rollout.last.number
    → Decides (seen.TriggerNext v) (TriggerNext r) (Ok (change.TriggerNext effects))
triggers v w r effects e word next pauses starts rs sound is =
    let it : IsFound IsTriggerView w (item_numbered rs.rollouts r) = found IsTriggerView v w (item_numbered rs.rollouts r) e is in (
      trigger_row (item_numbered rs.rollouts r) it.item w.word it.there it.is.word word (sym it.is.has_next ∙ next),
      changes_found rs sound r triggered (moved_by effects) it.item it.there (same_moved effects w.rollout it.item pauses starts it.is.rollout),
    )
