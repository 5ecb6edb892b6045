-- What devices and operators rely on in an answer to a query, at any list that the desk stands for.
use Rattle.std.specs.Prelude.{◌≡◌, ℕ, true, false, length, Option, Some, None}
use Rattle.sqlite.specs.Store.{Ghosts}
use Rattle.rollout_machine.specs.Actions.{ActionPlace}
use Rattle.rollout_machine.specs.Answers.{artifact_named, artifact_of_module}
use Rattle.rollout_machine.specs.CommandList.{CommandList}
use Rattle.rollout_machine.specs.Commands.{Bytes, Credential, TargetRow}
use Rattle.rollout_machine.specs.Digests.{digest_of}
use Rattle.rollout_machine.specs.Meanings.{IsOfferable, IsLeastOffer}
use Rattle.rollout_machine.specs.Offers.{Offer}
use Rattle.rollout_machine.specs.Promises.{IsDownloadable}
use Rattle.rollout_machine.specs.Records.{ArtifactRecord, records}
use Rattle.rollout_machine.specs.Replies.{Reply, PollShown, DeploymentShown, CancelShown, ContentsShown}
use Rattle.rollout_machine.specs.Requests.{Query, Poll, ShowDeployment, ShowCancel, Download, ShowContents}
use Rattle.rollout_machine.specs.Standing.{DeskState, StandsFor}
use Rattle.rollout_machine.specs.Targets.{last_row_of}
use Rattle.rollout_desk.specs.DeskStates.{desk_state}
use Rattle.rollout_desk.specs.declared.desk.Desk.{Desk}

-- it holds of each list that the desk stood for
abbrev pub IsPromised : {File : Type 0} → DeskState File → DeskState File → (CommandList → Type 0) → Type 0
IsPromised old new Holds = (h : CommandList) → new.is_clean → StandsFor old h → Holds h

-- ---- who asks

-- the device that asks, with the digest of the token that it shows
abbrev pub asker : Query → Option Credential
asker (Poll device) = Some device
asker (ShowDeployment device k) = Some device
asker (ShowCancel device k) = Some device
asker (Download device m filename) = Some device
asker _ = None

-- the device is a target, and its token is the one that the last row of the target has
pub record IsTarget (h : CommandList) (device : Credential) : Type 0 where
  pub row : TargetRow
  pub is_last : last_row_of device.id h ≡ Some row
  pub token : row.digest ≡ device.digest

-- ---- what a device is told

-- the offer that an answer names: an action to install, or one to cancel
abbrev pub offer_named : Reply → Option Offer
offer_named (PollShown t o) = o
offer_named (DeploymentShown d) = Some (record { action = d.action; canceling = false })
offer_named (CancelShown k) = Some (record { action = k; canceling = true })
offer_named _ = None

-- An action that is named is the asking device's own: of its open actions whose groups are started the one of the least number, to cancel while it
-- is canceling.
pub record NamesItsOffer (h : CommandList) (query : Query) (o : Offer) : Type 0 where
  pub device : Credential
  pub asks : asker query ≡ Some device
  pub known : IsTarget h device
  pub least : IsLeastOffer h device.id o

-- The asking device downloads an artifact of a module of the set that it is offered as a deployment.
pub record DownloadsItsOffer (h : CommandList) (device : Credential) (m : ℕ) (filename contents : Bytes) : Type 0 where
  pub known : IsTarget h device
  pub downloadable : IsDownloadable h device.id m filename contents

-- an answer keeps to what the asking device is offered
pub record KeepsToOffers (h : CommandList) (query : Query) (reply : Reply) : Type 0 where
  pub names : (o : Offer) → offer_named reply ≡ Some o → NamesItsOffer h query o
  -- a device that polls and is told of no action has none that is open in a started group
  pub withholds_none : (device : Credential) → query ≡ Poll device → reply ≡ PollShown device.id None → (k : ℕ) (p : ActionPlace)
      → IsOfferable h device.id k p → ⊥
  pub hands_out : (device : Credential) (m : ℕ) (filename contents : Bytes) → query ≡ Download device m filename → reply ≡ ContentsShown contents
      → DownloadsItsOffer h device m filename contents

-- ---- contents

-- the size and the digest that the record tells of an artifact are those of these contents
pub record Describes (a : ArtifactRecord) (contents : Bytes) : Type 0 where
  pub contents_are : a.contents ≡ contents
  pub size : a.size ≡ length contents
  pub digest : a.digest ≡ digest_of contents

-- contents that are shown are of the artifact that was asked for, with the size and the digest that are told of it
abbrev pub ShowsWhole : CommandList → Query → Reply → Type 0
ShowsWhole h (ShowContents m k) (ContentsShown contents) = (a : ArtifactRecord) × (artifact_of_module (records h) m k ≡ Some a) × Describes a contents
ShowsWhole h (Download device m filename) (ContentsShown contents) = (a : ArtifactRecord)
    × (artifact_named m filename (records h).artifacts ≡ Some a) × Describes a contents
ShowsWhole h _ _ = Unit {0}

-- all of it, of a desk's answer
pub record KeepsPromises {S : Type 0} (g : Ghosts S) (old new : Desk S) (query : Query) (reply : Reply) : Type 0 where
  pub offered : IsPromised (desk_state g old) (desk_state g new) (λ h. KeepsToOffers h query reply)
  pub whole : IsPromised (desk_state g old) (desk_state g new) (λ h. ShowsWhole h query reply)
