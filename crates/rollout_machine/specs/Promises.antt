-- What users of a desk rely on, said of every list of accepted commands.
use Rattle.std.specs.Prelude.{List, None, Option, Some, cond, false, filter, is_none, length, nat_eq, suc, true, ℕ, ◌+◌, ◌<◌, ◌≡◌, ◌≢◌, ◌≤◌, ◌⊎◌}
use Rattle.std.specs.List.{list_any}
use Rattle.std.specs.Option.{option_map}
use Rattle.rollout_machine.specs.Actions.{ActionPlace, action_of, action_place, outcome}
use Rattle.rollout_machine.specs.Effects.{IsInGroup}
use Rattle.rollout_machine.specs.RecordSteps.{action_after}
use Rattle.rollout_machine.specs.Verdicts.{notes_of, says_note}
use Rattle.rollout_machine.specs.Answers.{answer, artifact_named}
use Rattle.rollout_machine.specs.ByteStrings.{item_numbered}
use Rattle.rollout_machine.specs.CommandList.{CommandList, ◌▸◌}
use Rattle.rollout_machine.specs.Commands.{Bytes, Command, Credential, Approve, Deny, Start, Pause, Resume, TriggerNext}
use Rattle.rollout_machine.specs.Counts.{success_holds}
use Rattle.rollout_machine.specs.Kinds.{recounted, uncounted_records}
use Rattle.rollout_machine.specs.Meanings.{IsOfferable}
use Rattle.rollout_machine.specs.Objects.{modules_of_action}
use Rattle.rollout_machine.specs.Offers.{Offer, offer}
use Rattle.rollout_machine.specs.Progress.{is_group_started, is_paused}
use Rattle.rollout_machine.specs.Records.{ActionRecord, ArtifactRecord, records, rollout_in}
use Rattle.rollout_machine.specs.Replies.{Reply, PollShown, DeploymentShown, CancelShown, ContentsShown}
use Rattle.rollout_machine.specs.Reports.{HistoryEntry, Reported, entries_in, reported_by}
use Rattle.rollout_machine.specs.Requests.{Query, Download, Ask, Asks}
use Rattle.rollout_machine.specs.Rollouts.{Rollout, rollout_at}
use Rattle.rollout_machine.specs.Validity.{IsValid}

-- ---- starts

-- the command starts group i of rollout r
pub record StartsGroup (x : Rollout) (r i : ℕ) (h : CommandList) (c : Command) : Type 0 where
  pub before : is_group_started x r i h ≡ false
  pub now : is_group_started x r i (h ▸ c) ≡ true

-- a command starts at most one group, of all groups of all rollouts
abbrev pub OneGroupStarts : Type 0
OneGroupStarts = (h : CommandList) (c : Command) (r i q j : ℕ) (x y : Rollout) → IsValid (h ▸ c) → rollout_at h r ≡ Some x → rollout_at h q ≡ Some y
    → StartsGroup x r i h c → StartsGroup y q j h c → (r ≡ q) × (i ≡ j)

-- the rollout that a command is on, itself or by one of its actions
abbrev pub rollout_of : CommandList → Command → Option ℕ
rollout_of h (Approve r) = Some r
rollout_of h (Deny r) = Some r
rollout_of h (Start r) = Some r
rollout_of h (Pause r) = Some r
rollout_of h (Resume r) = Some r
rollout_of h (TriggerNext r) = Some r
rollout_of h c = option_map (λ (p : ActionPlace). p.rollout) (action_of h c)

-- a command leaves all rollouts as they are but the one that it is on: their groups, counts, pauses and approvals
abbrev pub OthersStay : Type 0
OthersStay = (h : CommandList) (c : Command) (r : ℕ) (x : Rollout) → IsValid (h ▸ c) → rollout_at h r ≡ Some x → rollout_of h c ≢ Some r
    → rollout_in (h ▸ c) r x ≡ rollout_in h r x

-- after a command no group is left to start: behind a started one with success the next is started, unless the rollout is paused
abbrev pub NoGroupIsLeft : Type 0
NoGroupIsLeft = (h : CommandList) (r i : ℕ) (x : Rollout) → 1 ≤ i → i < x.plan.groups.count → is_group_started x r i h ≡ true → is_paused x r h ≡ false
    → success_holds x r i h ≡ true → is_group_started x r (suc i) h ≡ true

-- ---- offers

-- the action that an answer to a device names
abbrev pub named_action : Reply → Option ℕ
named_action (PollShown t o) = option_map (λ (x : Offer). x.action) o
named_action (DeploymentShown d) = Some d.action
named_action (CancelShown k) = Some k
named_action _ = None

-- it is open, of a device's member, and its group is started
abbrev pub NamedIsOfferable : Type 0
NamedIsOfferable = (h : CommandList) (query : Query) (k : ℕ) → IsValid h → named_action (answer h (Asks (Ask query))).reply ≡ Some k → (t : Bytes)
    × (p : ActionPlace) × IsOfferable h t k p

-- the artifact with these contents is of a module of the set that the target is offered as a deployment
pub record IsDownloadable (h : CommandList) (t : Bytes) (m : ℕ) (filename contents : Bytes) : Type 0 where
  pub offered : Offer
  pub is_offered : offer (records h) t ≡ Some offered
  pub as_deployment : offered.canceling ≡ false
  pub installs : list_any (λ n. nat_eq n m) (modules_of_action (records h) (item_numbered (records h).actions offered.action)) ≡ true
  pub artifact : ArtifactRecord
  pub is_stored : artifact_named m filename (records h).artifacts ≡ Some artifact
  pub contents_are : artifact.contents ≡ contents

abbrev pub DownloadsAreOffered : Type 0
DownloadsAreOffered = (h : CommandList) (device : Credential) (m : ℕ) (filename contents : Bytes)
    → (answer h (Asks (Ask (Download device m filename)))).reply ≡ ContentsShown contents → IsDownloadable h device.id m filename contents

-- ---- what is stored

-- the records are found again from the stored kinds: the counts of groups are those of their actions
abbrev pub StoredSayAll : Type 0
StoredSayAll = (h : CommandList) → IsValid h → recounted (uncounted_records (records h)) ≡ records h

-- ---- what one command does to offers and notes

-- the command is on no action of the target, and starts no group with it
pub record IsUntouched (h : CommandList) (c : Command) (t : Bytes) : Type 0 where
  pub own : (p : ActionPlace) (x : Rollout) → action_of h c ≡ Some p → rollout_at h p.rollout ≡ Some x → item_numbered x.members p.position ≡ Some t → ⊥
  pub starting : (r i j : ℕ) (x : Rollout) → rollout_at h r ≡ Some x → StartsGroup x r i h c → 1 ≤ i → IsInGroup x i j → item_numbered x.members j ≡ Some t → ⊥

-- the offers of the targets that a command doesn't touch stay
abbrev pub OffersStay : Type 0
OffersStay = (h : CommandList) (c : Command) (t : Bytes) → IsValid (h ▸ c) → IsUntouched h c t → offer (records (h ▸ c)) t ≡ offer (records h) t

-- the action is offerable, and the command gives it no outcome
pub record StaysOfferable (h : CommandList) (c : Command) (t : Bytes) (k : ℕ) (p : ActionPlace) : Type 0 where
  pub offerable : IsOfferable h t k p
  pub is_open : outcome (h ▸ c) p.rollout p.position ≡ None

-- the command starts the group of the target's action
pub record BecomesOfferable (h : CommandList) (c : Command) (t : Bytes) (k : ℕ) (p : ActionPlace) : Type 0 where
  pub numbered : action_place (h ▸ c) k ≡ Some p
  pub rollout : Rollout
  pub there : rollout_at h p.rollout ≡ Some rollout
  pub member : item_numbered rollout.members p.position ≡ Some t
  pub group : ℕ
  pub first : 1 ≤ group
  pub within : IsInGroup rollout group p.position
  pub starts : StartsGroup rollout p.rollout group h c

-- what can be offered to a target after a command: what could be before it and got no outcome, and its action in the group that the command starts
abbrev pub OffersFollow : Type 0
OffersFollow = (h : CommandList) (c : Command) (t : Bytes) (k : ℕ) (p : ActionPlace) → IsValid (h ▸ c)
    → (IsOfferable (h ▸ c) t k p → StaysOfferable h c t k p ⊎ BecomesOfferable h c t k p)
    × (StaysOfferable h c t k p ⊎ BecomesOfferable h c t k p → IsOfferable (h ▸ c) t k p)

-- an action has as many notes more as its feedback adds, and a closed one none
abbrev pub NotesGrow : Type 0
NotesGrow = (c : Command) (a : ActionRecord)
    → notes_of (action_after c a)
    ≡ notes_of a + cond (is_none a.outcome) (length (filter (λ (entry : HistoryEntry). says_note entry.said) (entries_in (reported_by c)))) 0

-- ---- numbers of feedback

-- of two entries that bear numbers the later bears the greater
abbrev pub NumbersRiseIn : List Reported → Type 0
NumbersRiseIn history = (i j m n : ℕ) (a b : Reported) → i < j → item_numbered history i ≡ Some a → item_numbered history j ≡ Some b
    → a.number ≡ Some m → b.number ≡ Some n → m < n

-- so it is in each history: the last numbered report is the one of the greatest number
abbrev pub NumbersRise : Type 0
NumbersRise = (h : CommandList) (k : ℕ) (a : ActionRecord) → IsValid h → item_numbered (records h).actions k ≡ Some a → NumbersRiseIn a.history
