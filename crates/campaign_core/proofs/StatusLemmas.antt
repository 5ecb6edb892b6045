-- The words of statuses are those of the records of a command list.
use native.Mathlib.Omega.{arith}
use Rattle.campaign_core.proofs.Common.{◌≡◌, ℕ, zero, suc, Bool, true, false, ◌&&◌, cond, List, [], ◌∷◌, Option, Some, None, refl, ap, sym, ◌∙◌, is_none}
use Rattle.campaign_core.proofs.Common.{or_parts, CommandList, each_from, Approval, group_in, approval_of, action_in, records, GroupRecord}
use Rattle.campaign_core.proofs.Common.{ActionRecord, is_rollout_started, is_paused, Rollout, RolloutWord, ActionWord, all_final, word_from}
use Rattle.campaign_core.proofs.Common.{has_started, TargetWord, Unknown, Pending, InSync, InError, word_by_last, started_actions_of, has_started_is, Outcome}
use Rattle.campaign_core.proofs.Common.{Good, Bad, Gone}
use Rattle.std.specs.List.{list_all, list_any}
use Rattle.campaign_core.specs.StatusWords.{is_final, action_word_from, status_of_group, FollowsRollout, FollowsAction}
use Rattle.campaign_core.specs.StatusWords.{last_word, last_outcome, target_word_from, FollowsTarget}
use Rattle.campaign_core.specs.declared.status_words.RolloutStatus.{RolloutStatus}
use Rattle.campaign_core.specs.declared.status_words.GroupStatus.{GroupStatus}
use Rattle.campaign_core.specs.declared.status_words.ActionStatus.{ActionStatus}
use Rattle.campaign_core.specs.declared.status_words.TargetStatus.{TargetStatus}

abbrev is_over : GroupStatus → Bool
is_over g = g.started && is_final g

abbrev is_over_in : GroupRecord → Bool
is_over_in g = g.started && all_final g

-- every group of the statuses is over where every one of the records is
groups_over : (x : Rollout) (r : ℕ) (h : CommandList) (a n : ℕ) → list_all is_over (each_from (status_of_group x r h) a n)
    ≡ list_all is_over_in (each_from (group_in x r h) a n)
groups_over x r h a zero = refl
groups_over x r h a (suc n) = ap (λ b. is_over_in (group_in x r h a) && b) (groups_over x r h (suc a) n)

same_word : (a b : Approval) (s t f g p q : Bool) → a ≡ b → s ≡ t → f ≡ g → p ≡ q → word_from a s f p ≡ word_from b t g q
same_word a b s t f g p q approval started over paused = λ i. word_from (approval i) (started i) (over i) (paused i)

pub rollout_follows : (s : RolloutStatus) (groups : List GroupStatus) (over : Bool) (word : RolloutWord)
    → over ≡ list_all (λ (g : GroupStatus). g.started && is_final g) groups
    → word ≡ word_from s.approval s.started over s.paused → FollowsRollout s groups word
rollout_follows s groups over word all is x r h status whole =
    is ∙ same_word _ (approval_of r h) _ (is_rollout_started r h) _ _ _ (is_paused x r h) status.approval status.started
    (all ∙ ap (list_all is_over) whole ∙ groups_over x r h 1 x.plan.groups.count) status.paused

pub action_follows : (s : ActionStatus) (word : ActionWord) → word ≡ action_word_from s → FollowsAction s word
action_follows s word is x i p h status =
    let begun : s.started ≡ has_started (records h) (action_in h p) = status.started
    ∙ sym (has_started_is h h p x i status.there status.sound (record { first = status.first; last = status.last; within = status.within })) in
    is ∙ (λ j. action_word_from (record { outcome = status.outcome j; started = begun j; canceling = status.canceling j }))

-- ---- targets

-- the word after an action that ended so
abbrev word_by_ending : Option Outcome → TargetWord
word_by_ending o = elim o [ None ↦ Pending | Some x ↦ elim x [ Good ↦ InSync | Bad ↦ InError | Gone ↦ Unknown ] ]

abbrev is_open : ActionRecord → Bool
is_open a = is_none a.outcome

by_last : (w : TargetWord) (a : ActionRecord) (as' : List ActionRecord) → list_any is_open (a ∷ as') ≡ false → word_by_last w (a ∷ as')
    ≡ last_word (last_outcome (a ∷ as'))
by_last w a [] e = grind arith
by_last w a (b ∷ as') e = by_last (word_by_ending a.outcome) b as' (or_parts _ _ e).1

ended_words : (all : List ActionRecord) → cond (list_any is_open all) Pending (last_word (last_outcome all))
    ≡ cond (list_any is_open all) Pending (word_by_last Unknown all)
ended_words [] = refl
ended_words (a ∷ as') = go (list_any is_open (a ∷ as')) refl where
  go : (b : Bool) → list_any is_open (a ∷ as') ≡ b → cond b Pending (last_word (last_outcome (a ∷ as'))) ≡ cond b Pending (word_by_last Unknown (a ∷ as'))
  go true e = refl
  go false e = sym (by_last Unknown a as' e)

pub target_follows : (s : TargetStatus) (word : TargetWord) → word ≡ target_word_from s → FollowsTarget s word
target_follows s word is t h status = is ∙ (λ i. cond (status.any_open i) Pending (last_word (status.last i))) ∙ ended_words (started_actions_of (records h) t)
