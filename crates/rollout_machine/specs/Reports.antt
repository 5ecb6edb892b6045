-- What devices report of an action, and the numbers by which they tell what they send again.
use Rattle.std.specs.Prelude.{ℕ, Bool, true, false, ◌&&◌, cond, nat_eq, nat_lt, List, [], ◌∷◌, map, Option, Some, None}
use Rattle.std.specs.Cmp.Lexicographic.{pointwise}
use Rattle.std.specs.Option.{option_map, option_map_or, option_or}
use Rattle.rollout_machine.specs.ByteStrings.{same_bytes}
use Rattle.rollout_machine.specs.Commands.{NoteWord, Proceeding, Scheduled, Resumed, Succeeded, Failed, Rejected, Noted}
use Rattle.rollout_machine.specs.Commands.{ClosedCancel, CanceledCancel, RejectedCancel, NotedCancel, Command, Feedback, CancelFeedback, DeviceFeedback}
-- an entry of an action's history, with its number or without, and what a device says of an action
pub use Rattle.rollout_model.specs.declared.feedback.HistoryEntry.{HistoryEntry}
pub use Rattle.rollout_model.specs.declared.feedback.Reported.{Reported}
pub use Rattle.rollout_model.specs.declared.feedback.Said.{Said}
pub use Rattle.rollout_model.specs.declared.feedback.Said.TheVariants.{Deployment as OfDeployment, Cancel as OfCancel}
-- how a report stands among those before it: new, the same again, or overtaken
pub use Rattle.rollout_machine.specs.declared.standing.Standing.{Standing}
pub use Rattle.rollout_machine.specs.declared.standing.Standing.TheVariants.{Fresh, Again, Old}

-- what is kept of feedback
abbrev pub reported : {W : Type 0} → (W → Said) → DeviceFeedback W → Reported
reported said feedback = record { entry = record { said = said feedback.word; details = feedback.details }; number = feedback.number }

abbrev pub reported_by : Command → List Reported
reported_by (Feedback feedback) = reported OfDeployment feedback ∷ []
reported_by (CancelFeedback feedback) = reported OfCancel feedback ∷ []
reported_by _ = []

abbrev pub entries_in : List Reported → List HistoryEntry
entries_in reports = map (λ (it : Reported). it.entry) reports

-- ---- the same kind, word and details

abbrev pub same_note : NoteWord → NoteWord → Bool
same_note Proceeding Proceeding = true
same_note Scheduled Scheduled = true
same_note Resumed Resumed = true
same_note _ _ = false

abbrev pub same_said : Said → Said → Bool
same_said (OfDeployment Succeeded) (OfDeployment Succeeded) = true
same_said (OfDeployment Failed) (OfDeployment Failed) = true
same_said (OfDeployment Rejected) (OfDeployment Rejected) = true
same_said (OfDeployment (Noted a)) (OfDeployment (Noted b)) = same_note a b
same_said (OfCancel ClosedCancel) (OfCancel ClosedCancel) = true
same_said (OfCancel CanceledCancel) (OfCancel CanceledCancel) = true
same_said (OfCancel RejectedCancel) (OfCancel RejectedCancel) = true
same_said (OfCancel (NotedCancel a)) (OfCancel (NotedCancel b)) = same_note a b
same_said _ _ = false

abbrev pub same_entry : HistoryEntry → HistoryEntry → Bool
same_entry a b = same_said a.said b.said && pointwise same_bytes a.details b.details

-- ---- numbers

-- an entry that bears a number
pub record Numbered : Type 0 where
  pub entry : HistoryEntry
  pub number : ℕ

-- the last that bears one. Since numbers rise, its number is the greatest
abbrev pub bearing : List Reported → Option Numbered
bearing [] = None
bearing (it ∷ more) = option_or (bearing more) (option_map (λ n. record { entry = it.entry; number = n }) it.number)

-- a report of this number, where this one is the last that bears one
abbrev pub against : Option Numbered → ℕ → HistoryEntry → Standing
against None n entry = Fresh
against (Some last) n entry = cond (nat_lt last.number n) Fresh (cond (nat_eq last.number n && same_entry last.entry entry) Again Old)

abbrev pub standing_of : List Reported → Reported → Standing
standing_of reports new = option_map_or (λ n. against (bearing reports) n new.entry) new.number Fresh

abbrev pub says_again : Standing → Bool
says_again Again = true
says_again _ = false

abbrev pub says_old : Standing → Bool
says_old Old = true
says_old _ = false

-- a report that was made before, by its number, and is sent again
abbrev pub is_again : List Reported → Command → Bool
is_again reports (Feedback feedback) = says_again (standing_of reports (reported OfDeployment feedback))
is_again reports (CancelFeedback feedback) = says_again (standing_of reports (reported OfCancel feedback))
is_again reports _ = false
