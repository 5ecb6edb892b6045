-- From typed reads to the word of a target.
use Rattle.desk_views.proofs.Common.{arith, ◌≡◌, ℕ, suc, ◌+◌, Bool, true, false, cond, ◌&&◌, List, [], ◌∷◌, map, filter, Option, Some, None, is_none, refl}
use Rattle.desk_views.proofs.Common.{sym, ap}
use Rattle.desk_views.proofs.Common.{◌∙◌, list_any, zip, is_some, tally_of, has_begun, ending_of, stored_action, ListedAction, Bytes, Offer, first_offer, offer}
use Rattle.desk_views.proofs.Common.{Records, ActionRecord, GroupRecord, group_holding, group_is_started, has_started, is_for, started_actions_of, target_word}
use Rattle.desk_views.proofs.Common.{word_by_last, InError, InSync, Pending, TargetWord, Unknown, is_begun, numbered_from, ◌⊎◌}
use Rattle.std.specs.List.{last_or}
use Rattle.campaign_core.specs.StatusWords.{last_word, target_word_from}
use Rattle.desk_records.specs.RolloutRow.{ended_for}
use Rattle.rollout_machine.specs.declared.outcome.Outcome.{Outcome}
use Rattle.rollout_machine.specs.declared.outcome.Outcome.TheVariants.{Bad, Gone, Good}

-- ---- groups

-- the place of a group doesn't say whether it is started
group_same : (j n : ℕ) (gs : List GroupRecord) → group_is_started (group_holding j (numbered_from n gs)) ≡ group_is_started (group_holding j gs)
group_same j n [] = refl
group_same j n (g ∷ gs) = grind (arith, group_same j (n + 1) gs)

pub begun_is : (r : Records) (a : ActionRecord) → is_begun r (stored_action r.rollouts (a, tally_of a)) ≡ has_started r a
begun_is r a = grind (arith, group_same)

-- ---- the word

abbrev is_open : ActionRecord → Bool
is_open a = is_none a.outcome

-- the word after an action that ended so
abbrev word_by_ending : Option Outcome → TargetWord
word_by_ending o = elim o [ None ↦ Pending | Some x ↦ elim x [ Good ↦ InSync | Bad ↦ InError | Gone ↦ Unknown ] ]

module _ (r : Records) (t : Bytes) where
  abbrev own : List ActionRecord → List ActionRecord
  own actions = filter (λ a. is_for r t a && has_started r a) actions

  -- something is offered while an action is open
  offered_open : (k : ℕ) (actions : List ActionRecord) → is_some (first_offer r t k actions) ≡ list_any is_open (own actions)
  offered_open k [] = refl
  offered_open k (a ∷ more) = grind (arith, offered_open (suc k) more, is_some)

  -- those that ended, the first of all of a number
  abbrev pub ended_from : ℕ → List ActionRecord → List ListedAction
  ended_from n actions = ended_for r.rollouts t n (zip actions (map tally_of actions))

  pub ending_is : (n : ℕ) (actions : List ActionRecord) (last : Option ListedAction) (w : TargetWord)
      → (has_begun r last ≡ false) ⊎ (last_word (ending_of last) ≡ w) → list_any is_open (own actions) ≡ false
      → has_begun r (last_or last (ended_from n actions)) ≡ true
      → last_word (ending_of (last_or last (ended_from n actions))) ≡ word_by_last w (own actions)
  ending_is n [] last w is closed begun = grind arith
  ending_is n (a ∷ more) last w is closed begun =
      let it : Option ListedAction = Some (record { number = n; action = stored_action r.rollouts (a, tally_of a) }) in
      grind (
        arith,
        begun_is r a,
        ending_is (n + 1) more last w is,
        ending_is (n + 1) more it w,
        ending_is (n + 1) more it (word_by_ending a.outcome),
      )

  module _ (found : Option Offer) (is : found ≡ offer r t) where
    pub open_is : (b : Bool) → is_some found ≡ b → list_any is_open (started_actions_of r t) ≡ b
    open_is b found_is = sym (offered_open 1 r.actions) ∙ ap is_some (sym is) ∙ found_is

    pub word_pending : is_some found ≡ true → target_word_from (record { any_open = true; last = None }) ≡ target_word r t
    word_pending there = sym (ap (λ b. cond b Pending (word_by_last Unknown (started_actions_of r t))) (open_is true there))
