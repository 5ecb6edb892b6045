-- The outcome of an action fits its history.
use native.Mathlib.Omega.{arith}
use Rattle.rollout_machine.proofs.Common.{◌≡◌, ℕ, Bool, true, false, cond, ◌&&◌, List, [], ◌∷◌, ◌++◌, refl, sym, ◌∙◌, subst, inl, inr, Option, Some, None}
use Rattle.rollout_machine.proofs.Common.{is_none, option_or, history, outcome, outcome_given, outcome_said, CommandList, Make, ◌▸◌}
use Rattle.rollout_machine.proofs.Common.{Command, Cancel, CancelFeedback, Feedback, Outcome, Gone, HistoryEntry, Reported, entries_in, reported_by}
use Rattle.std.specs.Prelude.{◌⊎◌}
use Rattle.rollout_machine.specs.ByteStrings.{item_numbered}
use Rattle.rollout_machine.specs.private.Histories.{first_outcome}
use Rattle.rollout_machine.specs.Records.{ActionRecord, records}
use Rattle.rollout_machine.proofs.Actions.{append_none, entries_both}
use Rattle.rollout_machine.proofs.AtNumbers.{has_place}
use Rattle.rollout_machine.proofs.Tallies.{or_none}

-- Where entries give outcomes, the action has that of the first. Where none gives one, it is open, or gone: by a forced cancel, which leaves no entry.
pub record FitsHistory (outcome : Option Outcome) (history : List HistoryEntry) : Type 0 where
  pub given : (said : Outcome) → first_outcome history ≡ Some said → outcome ≡ Some said
  pub not_given : first_outcome history ≡ None → (outcome ≡ None) ⊎ (outcome ≡ Some Gone)

-- so it is with each action of the records
abbrev pub OutcomesFitHistories : Type 0
OutcomesFitHistories = (h : CommandList) (k : ℕ) (a : ActionRecord) → item_numbered (records h).actions k ≡ Some a
    → FitsHistory a.outcome (entries_in a.history)

-- entries behind a history that gives no outcome
first_behind : (es fs : List HistoryEntry) → first_outcome es ≡ None → first_outcome (es ++ fs) ≡ first_outcome fs
first_behind [] fs none = refl
first_behind (e ∷ es) fs none = go (outcome_said e.said) none (first_behind es fs)
  where
    go : (o : Option Outcome) → option_or o (first_outcome es) ≡ None → (first_outcome es ≡ None → first_outcome (es ++ fs) ≡ first_outcome fs)
        → option_or o (first_outcome (es ++ fs)) ≡ first_outcome fs
    go None d ih = ih d
    go (Some x) d ih = cc

-- where a history gives an outcome the action has it
given_fits : (o : Option Outcome) (es : List HistoryEntry) → first_outcome es ≡ o → FitsHistory o es
given_fits o es e = record { given = λ said d. sym e ∙ d; not_given = λ none. inl (sym e ∙ none) }

-- the entries of a command on an open action give the outcome that the command gives; a forced cancel has no entry
entries_fit : (c : Command) (canceling : Bool) → FitsHistory (outcome_given c canceling) (entries_in (reported_by c))
entries_fit (Feedback report) canceling = given_fits _ _ (or_none _)
entries_fit (CancelFeedback report) canceling = given_fits _ _ (or_none _)
entries_fit (Cancel t k force) canceling = go (force && canceling)
  where
    go : (b : Bool) → FitsHistory (cond b (Some Gone) None) []
    go true = record { given = λ said d. cc; not_given = λ none. inr refl }
    go false = given_fits None [] refl
entries_fit _ canceling = given_fits None [] refl

-- the history of an open action gives no outcome
open_gives_none : (es : List HistoryEntry) → FitsHistory None es → first_outcome es ≡ None
open_gives_none es v = go (first_outcome es) refl
  where
    go : (o : Option Outcome) → first_outcome es ≡ o → o ≡ None
    go None e = refl
    go (Some said) e = let never : None ≡ Some said = v.given said e in cc

-- one more command: on a closed action, or not on the action, or on an open one
fits_after : (o given : Option Outcome) (es fs : List HistoryEntry) (on : Bool) → FitsHistory o es → FitsHistory given fs
    → FitsHistory (option_or o (cond on given None)) (es ++ cond (on && is_none o) fs [])
fits_after (Some x) given es fs true v w = rw append_none v
fits_after (Some x) given es fs false v w = rw append_none v
fits_after None given es fs false v w = rw append_none v
fits_after None given es fs true v w = let same = first_behind es fs (open_gives_none es v) in
    record { given = λ said e. w.given said (sym same ∙ e); not_given = λ none. w.not_given (sym same ∙ none) }

entries_if : (b : Bool) (reports : List Reported) → entries_in (cond b reports []) ≡ cond b (entries_in reports) []
entries_if b reports = grind arith

fits : (h : CommandList) (r j : ℕ) → FitsHistory (outcome h r j) (entries_in (history h r j))
fits (Make approval) r j = given_fits None [] refl
fits (h ▸ c) r j = grind (arith, fits h r j, entries_both, entries_if, fits_after, entries_fit)

pub outcomes_fit_histories : OutcomesFitHistories
outcomes_fit_histories h k a e =
    let at = has_place h k a e in
    subst (λ b. FitsHistory b.outcome (entries_in b.history)) (sym at.is) (fits h at.place.rollout at.place.position)
