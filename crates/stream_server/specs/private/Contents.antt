-- A reply with contents, as it is written piece by piece. Of the functions in this crate alone.
use Rattle.std.specs.Prelude.{◌≡◌, ◌≤◌, ◌++◌, ℕ, false, if◌then◌else◌, List, length, Option, Some, None}
use Rattle.std.specs.Io.KnownBytes.{Appends}
use Rattle.request_handler.specs.Downloads.{Sends, sent}
use Rattle.request_handler.specs.declared.download.Download.{Download}
use Rattle.http_wire.specs.Replies.{reply_head}
use Rattle.http_wire.specs.declared.reply.ContentType.TheVariants.{Octets}
use Rattle.rollout_machine.specs.CommandList.{CommandList}
use Rattle.rollout_machine.specs.Commands.{Bytes}
use Rattle.rollout_machine.specs.Standing.{DeskState, StandsFor, IsInDoubt}
use Rattle.rollout_machine.specs.StoreFailures.{is_store}
use Rattle.rollout_model.specs.declared.refusal.Refusal.{Refusal}
use Rattle.stream_server.specs.declared.served.ServeFault.{ServeFault}
use Rattle.stream_server.specs.declared.served.ServeFault.TheVariants as serve_fault

-- the head of a reply with so many bytes of contents
unfoldable pub contents_head : ℕ → List ℕ
contents_head size = reply_head 200 Octets false size

-- why a download is interrupted: its store failed, or memory was wanted
abbrev pub download_fault : Refusal → ServeFault
download_fault refusal = if is_store refusal then serve_fault.Store else serve_fault.Memory

-- what the desk is where this part of the reply was written: after a failed store at least one byte was
abbrev pub StopsWithin : {File : Type 0} → DeskState File → CommandList → ServeFault → List ℕ → Type 0
StopsWithin s h serve_fault.Read part = ⊥
StopsWithin s h serve_fault.Write part = StandsFor s h
StopsWithin s h serve_fault.Store part = IsInDoubt s h None × (1 ≤ length part)
StopsWithin s h serve_fault.Memory part = StandsFor s h

-- this text was written, or a beginning of it
abbrev pub WritesOut : {File : Type 0} → DeskState File → CommandList → Option (List ℕ) → Option (List ℕ) → List ℕ → Option ServeFault → Type 0
WritesOut s h out out_new text None = StandsFor s h × Appends out out_new text
WritesOut s h out out_new text (Some fault) = (part : List ℕ) × (left : List ℕ) × (text ≡ part ++ left) × Appends out out_new part × StopsWithin s h fault part

-- head and contents of a download that begins, at any list
abbrev pub SendsContents : {File : Type 0} → DeskState File → DeskState File → Option (List ℕ) → Option (List ℕ) → Download → Option ServeFault → Type 0
SendsContents old new out out_new d fault =
    (h : CommandList) (contents : Bytes) → new.is_clean → StandsFor old h → Sends h d contents → sent d ≡ 0
    → WritesOut new h out out_new (contents_head d.size ++ contents) fault
