-- Downloads: what a desk says of them beside the words of `request_handler`.
use Rattle.std.specs.Prelude.{◌≡◌, ◌⊎◌, ℕ, ◌*◌, Bool, true, false, take, drop, Vec, Option, Some, None, Result, Ok, Err, IfOk, IfErr}
use Rattle.std.specs.declared.alloc.Global.{Global}
use Rattle.std.specs.Option.{option_map}
use Rattle.sqlite.specs.Held.{state}
use Rattle.sqlite.specs.Store.{Ghosts}
use Rattle.request_handler.specs.Downloads.{HandsPieces, Sends, Begins as BeginsAnswered}
use Rattle.request_handler.specs.declared.answered.Answered.TheVariants as answered
use Rattle.request_handler.specs.declared.download.Download.{Download}
use Rattle.rollout_machine.specs.ByteStrings.{item_numbered}
use Rattle.rollout_machine.specs.CommandList.{CommandList, ◌▸◌}
use Rattle.rollout_machine.specs.Commands.{Bytes, Command}
use Rattle.rollout_machine.specs.Records.{ArtifactRecord, records}
use Rattle.rollout_machine.specs.Replies as answers
use Rattle.rollout_machine.specs.Replies.{Refused}
use Rattle.rollout_machine.specs.Requests.{Asked, Query, ShowContents, Download as DownloadOf}
use Rattle.rollout_machine.specs.Standing.{DeskState, StandsFor, IsInDoubt}
use Rattle.rollout_machine.specs.Views.{reply_of}
use Rattle.rollout_model.specs.Limits.{limits}
use Rattle.rollout_model.specs.declared.artifact.Artifact.{Artifact}
use Rattle.rollout_model.specs.declared.refusal.Refusal.{Refusal}
use Rattle.rollout_model.specs.declared.refusal.Refusal.TheVariants.{NoMemory, StoreFailed, Stopped}
use Rattle.rollout_model.specs.declared.request.Reply.{Reply}
use Rattle.rollout_model.specs.declared.request.Reply.TheVariants as reply
use Rattle.rollout_desk.specs.DeskStates.{desk_state}
use Rattle.rollout_desk.specs.Promises.{DownloadsItsOffer, IsPromised}
use Rattle.rollout_desk.specs.Sizes.{BeginsKept}
use Rattle.rollout_desk.specs.declared.desk.Desk.{Desk}

-- the artifact that a reply shows, or else the reply
abbrev pub artifact_in : Reply → Result Artifact Reply
artifact_in (reply.Artifact a) = Ok a
artifact_in r = Err r

-- a download begins, or else what was asked is answered by a reply
abbrev pub Begins : {File : Type 0} → DeskState File → DeskState File → Asked → Result Download Reply → Type 0
Begins old new asked (Ok p) = BeginsAnswered old new asked (answered.Contents p)
Begins old new asked (Err r) = BeginsAnswered old new asked (answered.Reply r)

-- a device's download that begins is of what the device is offered as a deployment
abbrev pub BeginsOffered : CommandList → Query → Download → Type 0
BeginsOffered h (DownloadOf device m filename) p = (contents : Bytes) × Sends h p contents × DownloadsItsOffer h device m filename contents
BeginsOffered h _ p = Unit {0}

-- a query of contents that begins no download is refused: its answer never has the contents
abbrev pub RefusesContents : {File : Type 0} → DeskState File → DeskState File → Query → answers.Reply → Type 0
RefusesContents old new (ShowContents m k) r = (h : CommandList) → new.is_clean → StandsFor old h → (refusal : Refusal) × (r ≡ Refused refusal)
RefusesContents old new (DownloadOf device m filename) r = (h : CommandList) → new.is_clean → StandsFor old h → (refusal : Refusal) × (r ≡ Refused refusal)
RefusesContents old new _ r = Unit {0}

-- What begins keeps to what the device is offered, and to what the tables keep of that; a stopped desk begins nothing. Contents are refused where none
-- begins. What is told of the last command's work stays.
pub record KeepsToQuery {S : Type 0} (g : Ghosts S) (old new : Desk S) (query : Query) (result : Result Download Reply) : Type 0 where
  pub offered : IfOk result (λ p. IsPromised (desk_state g old) (desk_state g new) (λ h. BeginsOffered h query p))
  pub refuses : IfErr result (λ reply. RefusesContents (desk_state g old) (desk_state g new) query (reply_of reply))
  pub kept : BeginsKept (state g old.store.calls.conn) (state g new.store.calls.conn) query result
  pub runs : IfOk result (λ _. (desk_state g old).is_stopped ≡ false)
  pub work : new.work ≡ old.work

-- these bytes are the next piece of the artifact that has the download's number at the list h
pub record IsNextOf (h : CommandList) (p : Download) (piece : Bytes) : Type 0 where
  pub contents : Bytes
  pub artifact : option_map (λ (a : ArtifactRecord). a.contents) (item_numbered (records h).artifacts p.number) ≡ Some contents
  pub next : piece ≡ take limits.piece_length (drop (p.pieces * limits.piece_length) contents)

-- at the list h, for which the desk stands as before
abbrev pub StaysAt : {File : Type 0} → CommandList → DeskState File → Download → Result (Option (Vec ℕ Global)) Refusal → Type 0
StaysAt h new p (Ok (Some piece)) = StandsFor new h × IsNextOf h p piece.items
StaysAt h new p (Ok None) = StandsFor new h
StaysAt h new p (Err refusal) = ((refusal ≡ NoMemory) × StandsFor new h) ⊎ ((refusal ≡ StoreFailed) × IsInDoubt new h None)

-- Whatever the download is of, be it of another desk: what is handed out is of this desk's artifact of its number, and the desk stands for the list as before.
-- Or memory was wanted, and it does; or the store failed, and a crash leaves the list.
abbrev pub HandsItsArtifact : {File : Type 0} → DeskState File → DeskState File → Download → Result (Option (Vec ℕ Global)) Refusal → Type 0
HandsItsArtifact old new p result = (h : CommandList) → new.is_clean → StandsFor old h → StaysAt h new p result

-- The next piece, of a download of this desk and of any other.
pub record HandsOut {S : Type 0} (g : Ghosts S) (old new : Desk S) (p q : Download) (result : Result (Option (Vec ℕ Global)) Refusal) : Type 0 where
  pub pieces : HandsPieces (desk_state g old) (desk_state g new) p q result
  pub own : HandsItsArtifact (desk_state g old) (desk_state g new) p result

-- memory was wanted, the store failed, or the desk was stopped before
abbrev pub IsInterruption : Bool → Refusal → Type 0
IsInterruption was_stopped refusal = (refusal ≡ NoMemory) ⊎ (refusal ≡ StoreFailed) ⊎ ((refusal ≡ Stopped) × (was_stopped ≡ true))

-- what an artifact's contents are, they stay
abbrev pub DownloadsGoOn : Type 0
DownloadsGoOn = (h : CommandList) (c : Command) (d : Download) (contents : Bytes) → Sends h d contents → Sends (h ▸ c) d contents
