-- Downloads: the contents of an artifact, piece by piece.
use Rattle.std.specs.Prelude.{◌≡◌, ◌≤◌, ◌⊎◌, ℕ, ◌+◌, ◌-◌, ◌*◌, ◌++◌, min, take, drop, length, Vec, Option, Some, None, Result, Ok, Err}
use Rattle.std.specs.declared.alloc.Global.{Global}
use Rattle.std.specs.Option.{option_map}
use Rattle.rollout_machine.specs.Answers.{answer}
use Rattle.rollout_machine.specs.ByteStrings.{item_numbered}
use Rattle.rollout_machine.specs.CommandList.{CommandList}
use Rattle.rollout_machine.specs.Commands.{Bytes}
use Rattle.rollout_machine.specs.Records.{ArtifactRecord, records}
use Rattle.rollout_machine.specs.Replies.{ContentsShown}
use Rattle.rollout_machine.specs.Requests.{Asked}
use Rattle.rollout_machine.specs.Standing.{DeskState, StandsFor, IsInDoubt, Applies}
use Rattle.rollout_machine.specs.Views.{reply_of}
use Rattle.rollout_model.specs.Limits.{limits}
use Rattle.rollout_model.specs.declared.refusal.Refusal.{Refusal}
use Rattle.rollout_model.specs.declared.refusal.Refusal.TheVariants.{NoMemory, StoreFailed}
use Rattle.rollout_model.specs.declared.request.Reply.{Reply}
use Rattle.request_handler.specs.declared.download.Download.{Download}
use Rattle.request_handler.specs.declared.answered.Answered.{Answered}
use Rattle.request_handler.specs.declared.answered.Answered.TheVariants as answered

-- how many bytes were handed out: whole pieces, or all there are
abbrev pub sent : Download → ℕ
sent p = min (p.pieces * limits.piece_length) p.size

-- how many bytes the next piece has
abbrev pub next_length : Download → ℕ
next_length p = min limits.piece_length (p.size - p.pieces * limits.piece_length)

-- at the list h these are the contents of the artifact, and its size is their length
pub record Sends (h : CommandList) (p : Download) (contents : Bytes) : Type 0 where
  pub artifact : option_map (λ (a : ArtifactRecord). a.contents) (item_numbered (records h).artifacts p.number) ≡ Some contents
  pub size : p.size ≡ length contents

-- the answer to what was asked is the contents that are sent, and none of them were handed out yet
pub record BeginsAt {File : Type 0} (h : CommandList) (new : DeskState File) (asked : Asked) (p : Download) : Type 0 where
  pub stands : StandsFor new h
  pub contents : Bytes
  pub answer : answer h asked ≡ record { reply = ContentsShown contents; accepted = None }
  pub sends : Sends h p contents
  pub start : sent p ≡ 0

-- of contents, what is said of their download
abbrev pub IfContents : Answered → (Download → Type 0) → Type 0
IfContents (answered.Contents p) Is = Is p
IfContents (answered.Reply r) Is = Unit {0}

-- of a reply, what is said of it
abbrev pub IfReply : Answered → (Reply → Type 0) → Type 0
IfReply (answered.Contents p) Is = Unit {0}
IfReply (answered.Reply r) Is = Is r

-- a download begins, or what was asked is answered as ever
abbrev pub Begins : {File : Type 0} → DeskState File → DeskState File → Asked → Answered → Type 0
Begins old new asked (answered.Contents p) = (h : CommandList) → new.is_clean → StandsFor old h → BeginsAt h new asked p
Begins old new asked (answered.Reply r) = Applies old new asked (reply_of r)

-- the next piece of the contents is handed out; with it, what was handed out so far is a first part of the contents
pub record HandsOutPiece (contents : Bytes) (p q : Download) (piece : Bytes) : Type 0 where
  pub next : piece ≡ take limits.piece_length (drop (sent p) contents)
  pub joined : take (sent q) contents ≡ take (sent p) contents ++ piece

-- The next piece at the list h, or all were handed out. Or memory was wanted, and the same piece is next; or the store failed, and a crash leaves the list.
abbrev pub HandsAt : {File : Type 0} → CommandList → Bytes → DeskState File → Download → Download → Result (Option (Vec ℕ Global)) Refusal → Type 0
HandsAt h contents new p q (Ok (Some piece)) = StandsFor new h × Sends h q contents × HandsOutPiece contents p q piece.items
HandsAt h contents new p q (Ok None) = StandsFor new h × (q ≡ p) × (sent p ≡ length contents)
HandsAt h contents new p q (Err refusal) = (q ≡ p) × (((refusal ≡ NoMemory) × StandsFor new h) ⊎ ((refusal ≡ StoreFailed) × IsInDoubt new h None))

-- on a desk that stands for any list, of any contents that are sent
abbrev pub HandsPieces : {File : Type 0} → DeskState File → DeskState File → Download → Download → Result (Option (Vec ℕ Global)) Refusal → Type 0
HandsPieces old new p q result = (h : CommandList) (contents : Bytes) → new.is_clean → StandsFor old h → Sends h p contents → HandsAt h contents new p q result

-- the same artifact
abbrev pub IsSame : Download → Download → Type 0
IsSame p q = (q.number ≡ p.number) × (q.size ≡ p.size)

-- whatever the disk returns, the artifact's size says how many bytes are handed out: no more, and it ends only once all of them were
abbrev pub KeepsCount : Download → Download → Result (Option (Vec ℕ Global)) Refusal → Type 0
KeepsCount p q (Ok (Some piece)) = IsSame p q × (sent q ≡ sent p + length piece.items) × (1 ≤ length piece.items)
KeepsCount p q (Ok None) = (q ≡ p) × (sent p ≡ p.size)
KeepsCount p q (Err refusal) = q ≡ p
