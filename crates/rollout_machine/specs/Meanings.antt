-- What the computing definitions mean, in words about the commands of a list.
use Rattle.rollout_machine.specs.Actions.{is_canceling, is_heard, is_on_action, ActionPlace, outcome, action_of, action_place, cancel_standing_said, reports}
use Rattle.rollout_machine.specs.ByteStrings.{item_numbered, same_bytes, contains_word}
use Rattle.rollout_machine.specs.CommandList.{Make, followed_by, ◌▸◌, CommandList}
use Rattle.rollout_machine.specs.Commands.{CanceledCancel, Bad, Feedback, Start, CancelFeedback, Resume, Outcome, Pause, Gone, TriggerNext, Command}
use Rattle.rollout_machine.specs.Commands.{TargetRow, Failed, ClosedCancel, PutTargets, Succeeded, Good, Bytes, Cancel, Attribute, PutAttributes}
use Rattle.rollout_machine.specs.Counts.{success_holds, error_holds}
use Rattle.rollout_machine.specs.Effects.{IsInGroup}
use Rattle.rollout_machine.specs.Offers.{Offer, offer}
use Rattle.rollout_machine.specs.Progress.{is_paused, is_group_started}
use Rattle.rollout_machine.specs.Records.{records, group_in}
use Rattle.rollout_machine.specs.Reports.{is_again}
use Rattle.rollout_machine.specs.Rollouts.{rollout_at, Rollout, size_of}
use Rattle.rollout_machine.specs.StateWords.{all_final}
use Rattle.rollout_machine.specs.Targets.{import_rows_of, last_row_of, has_tag, tags_in, target_ids, attributes_in}
use Rattle.rollout_machine.specs.Validity.{IsValid}
use Rattle.std.specs.Option.{option_or}
use Rattle.std.specs.Prelude.{cond, ◌≡◌, ◌⊎◌, ⊤, ℕ, suc, ◌+◌, ◌≤◌, ◌<◌, Bool, true, false, List, [], ◌∷◌, ◌++◌, Option, Some, None, is_some}

-- ---- a prefix of h that ends in a command
pub record EndsInCommand (h : CommandList) : Type 0 where
  pub before : CommandList
  pub command : Command
  pub rest : List Command
  pub whole : followed_by (before ▸ command) rest ≡ h

-- ---- numbers of actions: the member's position plus the sizes of the rollouts started before
abbrev pub size_at : Option Rollout → ℕ
size_at None = 0
size_at (Some x) = size_of x

abbrev pub started_by : CommandList → Command → ℕ
started_by h (Start r) = size_at (rollout_at h r)
started_by h _ = 0

abbrev pub started_sizes : CommandList → ℕ
started_sizes (Make approval) = 0
started_sizes (h ▸ c) = started_sizes h + started_by h c

abbrev pub NumbersActions : Type 0
NumbersActions = (before : CommandList) (r : ℕ) (x : Rollout) (rest : List Command) (j : ℕ) → rollout_at before r ≡ Some x → 1 ≤ j → j ≤ size_of x
    → action_place (followed_by (before ▸ Start r) rest) (started_sizes before + j) ≡ Some (record { rollout = r; position = j })

-- ---- the row of a target: the last row that names it
abbrev pub NotNamed : Bytes → List TargetRow → Type 0
NotNamed t [] = ⊤
NotNamed t (row ∷ rows) = (same_bytes row.id t ≡ false) × NotNamed t rows

abbrev pub NeverNamed : Bytes → List Command → Type 0
NeverNamed t [] = ⊤
NeverNamed t (c ∷ cs) = NotNamed t (import_rows_of c) × NeverNamed t cs

pub record LastRow (h : CommandList) (t : Bytes) (row : TargetRow) : Type 0 where
  pub before : CommandList
  pub earlier : List TargetRow
  pub later : List TargetRow
  pub rest : List Command
  pub whole : followed_by (before ▸ PutTargets (earlier ++ row ∷ later)) rest ≡ h
  pub names : same_bytes row.id t ≡ true
  pub last_in_command : NotNamed t later
  pub last : NeverNamed t rest

abbrev pub RowIsLast : Type 0
RowIsLast = (h : CommandList) (t : Bytes) (row : TargetRow) → (last_row_of t h ≡ Some row → LastRow h t row) × (LastRow h t row → last_row_of t h ≡ Some row)

-- a target is listed where some row names it
abbrev pub TargetsAreNamed : Type 0
TargetsAreNamed = (t : Bytes) (h : CommandList) → contains_word t (target_ids h) ≡ is_some (last_row_of t h)

-- the value of a key among attributes, and the last that was given to it
abbrev pub value_of : Bytes → List Attribute → Option Bytes
value_of k [] = None
value_of k (a ∷ more) = cond (same_bytes a.key k) (Some a.value) (value_of k more)

abbrev pub last_given : Bytes → List Attribute → Option Bytes
last_given k [] = None
last_given k (a ∷ more) = option_or (last_given k more) (cond (same_bytes a.key k) (Some a.value) None)

abbrev pub value_given : Bytes → Bytes → Command → Option Bytes
value_given t k (PutAttributes device attributes) = cond (same_bytes t device.id) (last_given k attributes) None
value_given t k _ = None

abbrev pub last_value : Bytes → Bytes → CommandList → Option Bytes
last_value t k (Make approval) = None
last_value t k (h ▸ c) = option_or (value_given t k c) (last_value t k h)

abbrev pub ValueIsLast : Type 0
ValueIsLast = (t k : Bytes) (h : CommandList) → value_of k (attributes_in t h) ≡ last_value t k h

-- a word is among the listed tags where the last command that spoke of it says so
abbrev pub TagsAreSaid : Type 0
TagsAreSaid = (t x : Bytes) (h : CommandList) → contains_word x (tags_in t h) ≡ has_tag t x h

-- ---- the first command on the action, but what is sent again, that gives an outcome
abbrev pub Says : CommandList → Command → ℕ → ℕ → Outcome → Type 0
Says before (Feedback feedback) r j o = ((feedback.word ≡ Succeeded) × (o ≡ Good)) ⊎ ((feedback.word ≡ Failed) × (o ≡ Bad))
Says before (CancelFeedback feedback) r j o = ((feedback.word ≡ ClosedCancel) ⊎ (feedback.word ≡ CanceledCancel)) × (o ≡ Gone)
Says before (Cancel t a force) r j o = (force ≡ true) × (is_canceling before r j ≡ true) × (o ≡ Gone)
Says before _ r j o = ⊥

abbrev pub GivesOutcome : CommandList → Command → ℕ → ℕ → Outcome → Type 0
GivesOutcome before c r j o = (action_of before c ≡ Some (record { rollout = r; position = j })) × (is_again (reports before r j) c ≡ false)
    × Says before c r j o

-- no command of the list gives one
abbrev pub NoneGave : CommandList → ℕ → ℕ → Type 0
NoneGave (Make approval) r j = ⊤
NoneGave (h ▸ c) r j = NoneGave h r j × ((o : Outcome) → GivesOutcome h c r j o → ⊥)

pub record FirstOutcome (h : CommandList) (r j : ℕ) (o : Outcome) : Type 0 where
  pub at_end : EndsInCommand h
  pub gives : GivesOutcome at_end.before at_end.command r j o
  pub first : NoneGave at_end.before r j

abbrev pub OutcomeIsFirst : Type 0
OutcomeIsFirst = (h : CommandList) (r j : ℕ) (o : Outcome) → (outcome h r j ≡ Some o → FirstOutcome h r j o) × (FirstOutcome h r j o → outcome h r j ≡ Some o)

-- ---- canceling: open, and the last among the action's cancels and rejections is a cancel
abbrev pub SpeaksOfCancel : CommandList → Command → ℕ → ℕ → Type 0
SpeaksOfCancel before c r j = (is_heard before c r j ≡ true) × (is_some (cancel_standing_said c) ≡ true)

abbrev pub NoneSpeaks : CommandList → List Command → ℕ → ℕ → Type 0
NoneSpeaks h [] r j = ⊤
NoneSpeaks h (c ∷ cs) r j = (SpeaksOfCancel h c r j → ⊥) × NoneSpeaks (h ▸ c) cs r j

pub record LastIsCancel (h : CommandList) (r j : ℕ) : Type 0 where
  pub before : CommandList
  pub target : Bytes
  pub action : ℕ
  pub force : Bool
  pub rest : List Command
  pub whole : followed_by (before ▸ Cancel target action force) rest ≡ h
  pub on : is_on_action before (Cancel target action force) r j ≡ true
  pub last : NoneSpeaks (before ▸ Cancel target action force) rest r j

abbrev pub CancelingIsLast : Type 0
CancelingIsLast = (h : CommandList) (r j : ℕ) → (is_canceling h r j ≡ true → (outcome h r j ≡ None) × LastIsCancel h r j)
    × ((outcome h r j ≡ None) × LastIsCancel h r j → is_canceling h r j ≡ true)

-- ---- a pause begins: by the command, or by a group whose error condition begins to hold
pub record ErrorBegins (x : Rollout) (r : ℕ) (before : CommandList) (c : Command) : Type 0 where
  pub group : ℕ
  pub first : 1 ≤ group
  pub last : group ≤ x.plan.groups.count
  pub now : error_holds x r group (before ▸ c) ≡ true
  pub not_before : error_holds x r group before ≡ false

abbrev pub PauseBegins : Rollout → ℕ → CommandList → Command → Type 0
PauseBegins x r before c = (c ≡ Pause r) ⊎ ErrorBegins x r before c

abbrev pub NoResume : ℕ → List Command → Type 0
NoResume r [] = ⊤
NoResume r (c ∷ cs) = (c ≡ Resume r → ⊥) × NoResume r cs

-- a pause begins at some prefix of h, and no resume follows
pub record SomePause (x : Rollout) (r : ℕ) (h : CommandList) : Type 0 where
  pub at_end : EndsInCommand h
  pub begins : PauseBegins x r at_end.before at_end.command
  pub no_resume : NoResume r at_end.rest

abbrev pub PausedIs : Type 0
PausedIs = (x : Rollout) (r : ℕ) (h : CommandList) → (is_paused x r h ≡ true → SomePause x r h) × (SomePause x r h → is_paused x r h ≡ true)

-- ---- the next group is started: at some prefix with this group started, by success while not paused, or by a trigger
abbrev pub StartsNext : Rollout → ℕ → ℕ → CommandList → Command → Type 0
StartsNext x r i before c =
    ((is_paused x r (before ▸ c) ≡ false) × (success_holds x r i (before ▸ c) ≡ true))
    ⊎ ((c ≡ TriggerNext r) × (is_group_started x r i before ≡ true) × (is_group_started x r (suc i) before ≡ false))

pub record NextIsStarted (x : Rollout) (r i : ℕ) (h : CommandList) : Type 0 where
  pub at_end : EndsInCommand h
  pub this_group : is_group_started x r i (at_end.before ▸ at_end.command) ≡ true
  pub starts : StartsNext x r i at_end.before at_end.command

-- for the groups i + 1 that there are
abbrev pub StartedIs : Type 0
StartedIs = (x : Rollout) (r i : ℕ) (h : CommandList) → 1 ≤ i → i < x.plan.groups.count
    → (is_group_started x r (suc i) h ≡ true → NextIsStarted x r i h) × (NextIsStarted x r i h → is_group_started x r (suc i) h ≡ true)

-- the first group is, where the start is in h
abbrev pub StartIsIn : ℕ → CommandList → Type 0
StartIsIn r h = (at_end : EndsInCommand h) × (at_end.command ≡ Start r)

abbrev pub FirstStartedIs : Type 0
FirstStartedIs = (x : Rollout) (r : ℕ) (h : CommandList) → (is_group_started x r 1 h ≡ true → StartIsIn r h) × (StartIsIn r h → is_group_started x r 1 h ≡ true)

-- ---- no two numbers have one action
abbrev pub NumbersDiffer : Type 0
NumbersDiffer = (h : CommandList) (a b : ℕ) (p : ActionPlace) → IsValid h → action_place h a ≡ Some p → action_place h b ≡ Some p → a ≡ b

-- ---- offers: the action of number k is the target's, its group is started, and it is open
pub record IsOfferable (h : CommandList) (t : Bytes) (k : ℕ) (p : ActionPlace) : Type 0 where
  pub numbered : action_place h k ≡ Some p
  pub rollout : Rollout
  pub there : rollout_at h p.rollout ≡ Some rollout
  pub member : item_numbered rollout.members p.position ≡ Some t
  pub group : ℕ
  pub first : 1 ≤ group
  pub within : IsInGroup rollout group p.position
  pub started : is_group_started rollout p.rollout group h ≡ true
  pub is_open : outcome h p.rollout p.position ≡ None

-- the offer is the one of the least number, as a cancel while it is canceling
pub record IsLeastOffer (h : CommandList) (t : Bytes) (o : Offer) : Type 0 where
  pub place : ActionPlace
  pub offerable : IsOfferable h t o.action place
  pub kind : o.canceling ≡ is_canceling h place.rollout place.position
  pub least : (k : ℕ) (p : ActionPlace) → k < o.action → IsOfferable h t k p → ⊥

abbrev pub OfferIsLeast : Type 0
OfferIsLeast = (h : CommandList) (t : Bytes) → IsValid h
    → ((o : Offer) → offer (records h) t ≡ Some o → IsLeastOffer h t o) × (offer (records h) t ≡ None → (k : ℕ) (p : ActionPlace) → IsOfferable h t k p → ⊥)

-- ---- a group's actions are all final where each of its members has an outcome
abbrev pub FinalIsAll : Type 0
FinalIsAll = (x : Rollout) (r i : ℕ) (h : CommandList)
    → (all_final (group_in x r h i) ≡ true → (j : ℕ) → IsInGroup x i j → is_some (outcome h r j) ≡ true)
    × (((j : ℕ) → IsInGroup x i j → is_some (outcome h r j) ≡ true) → all_final (group_in x r h i) ≡ true)
