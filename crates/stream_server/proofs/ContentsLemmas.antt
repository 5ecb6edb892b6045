-- A reply with contents, piece by piece, and the exchange that it is.
use Rattle.stream_server.proofs.Common.{◌≡◌, ◌≢◌, ◌≤◌, ◌⊎◌, ℕ, false, List, [], ◌∷◌, ◌++◌, length, take, drop, Vec, Option, Some, None, Ok, Err, inl, inr}
use Rattle.stream_server.proofs.Common.{refl, sym, ap, ◌∙◌, subst, arith, append_assoc, take-append-drop, codes, Appends, Appends-nil}
use Rattle.stream_server.proofs.Common.{Appends-trans, false≢true, HandsPieces, Sends, sent, WireMessage, Refusal, StoreFailed, MayAnswer, CommandList, Bytes}
use Rattle.stream_server.proofs.Common.{Refused, ContentsShown, DeskState, StandsFor, Interface, ServeFault, reading, Conduct, running, BeginsDownload, Comes}
use Rattle.stream_server.proofs.Common.{Serves}
use Rattle.std.specs.declared.alloc.Global.{Global}
use Rattle.std.specs.Fmt.{decimal}
use Rattle.request_handler.specs.Downloads.{Begins}
use Rattle.request_handler.specs.declared.download.Download.{Download}
use Rattle.request_handler.specs.declared.answered.Answered.TheVariants.{Contents}
use Rattle.http_wire.specs.Replies.{reason}
use Rattle.stream_server.specs.declared.served.ServeFault.TheVariants as serve_fault
use Rattle.stream_server.specs.private.Contents.{contents_head, download_fault, SendsContents, WritesOut}
use Rattle.stream_server.specs.Interfaces.{reply_text}
use Rattle.stream_server.specs.Run.{ByMachine}
use Rattle.stream_server.proofs.AskLemmas.{by_machine}
use Rattle.stream_server.proofs.PartLemmas.{whole_one, broken_one}

-- the head is made of what stands before the size, the size, and what stands behind it
pub head_text : (size : ℕ) → (codes "HTTP/1.1 200 OK\r\nContent-Type: application/octet-stream\r\nContent-Length: " ++ decimal size) ++ codes "\r\n\r\n"
    ≡ contents_head size
unfolding contents_head reason
head_text size = simp append_assoc

-- ---- the exchange

-- head and contents are the reply, whatever the message
pub contents_text : (m : WireMessage) (contents : Bytes) → reply_text m (ContentsShown contents) ≡ contents_head (length contents) ++ contents
unfolding reply_text contents_head
contents_text m contents = refl

begun_or_not : (contents : Bytes) (part : List ℕ) → (part ≡ []) ⊎ BeginsDownload (ContentsShown contents) None part
begun_or_not contents [] = inl refl
begun_or_not contents (x ∷ part) = inr (record { contents = contents; shows = refl; none = refl; begun = omega arith })

module _ (File : Type 0) (interface : Interface) (new : DeskState File) (m : WireMessage) (h : CommandList) (contents : Bytes)
    (may : ByMachine interface h m (ContentsShown contents) None) where
  abbrev C : Conduct File
  C = running File interface

  not_refused : (refusal : Refusal) → ContentsShown contents ≢ Refused refusal
  not_refused refusal e = cc

  comes : (a b : Option (List ℕ)) (text : List ℕ) (fault : Option ServeFault) → reply_text m (ContentsShown contents) ≡ text → WritesOut new h a b text fault
      → (written : List ℕ) × Appends a b written × Comes C h new (m ∷ []) written fault
  comes a b text None same w = (
    reply_text m (ContentsShown contents),
    subst (λ (t : List ℕ). Appends a b t) (sym same) w.1,
    whole_one File C h new m (ContentsShown contents)
        (record { accepted = None; answers = may; goes_to = record { in_doubt = λ e. absurd (not_refused StoreFailed e); stands = λ goes. w.0 } })
        (not_refused StoreFailed),
  )
  comes a b text (Some serve_fault.Read) same w = absurd w.4
  comes a b text (Some serve_fault.Write) same w = (
    w.0,
    w.3,
    broken_one File C h new m (ContentsShown contents) None w.0 w.1 serve_fault.Write may (same ∙ w.2)
        (record { in_doubt = λ e. absurd (not_refused StoreFailed e); stands = λ goes. w.4 }),
  )
  comes a b text (Some serve_fault.Store) same w = (
    w.0,
    w.3,
    broken_one File C h new m (ContentsShown contents) None w.0 w.1 serve_fault.Store may (same ∙ w.2)
        (w.4.0, inr (record { contents = contents; shows = refl; none = refl; begun = w.4.1 })),
  )
  comes a b text (Some serve_fault.Memory) same w =
      (w.0, w.3, broken_one File C h new m (ContentsShown contents) None w.0 w.1 serve_fault.Memory may (same ∙ w.2) (w.4, begun_or_not contents w.0))

pub serves_download : {File : Type 0} (interface : Interface) (old begun new : DeskState File) (m : WireMessage) (d : Download) (a b : Option (List ℕ))
    (fault : Option ServeFault)
    → (begun.is_clean → old.is_clean) → Begins old begun (reading interface m) (Contents d) → old.is_stopped ≡ false
    → (new.is_clean → begun.is_clean) → SendsContents begun new a b d fault → Serves interface old new a b (m ∷ []) fault
serves_download interface old begun new m d a b fault clean_before begins runs clean_after sends = record {
  clean = λ clean. clean_before (clean_after clean);
  by_machine = λ h clean stands.
      let at = begins h (clean_after clean) stands in
      let not_failed : ContentsShown at.contents ≢ Refused StoreFailed = λ e. cc in
      let same : reply_text m (ContentsShown at.contents) ≡ contents_head d.size ++ at.contents = contents_text m at.contents
      ∙ ap (λ (n : ℕ). contents_head n ++ at.contents) (sym at.sends.size) in
      let may : MayAnswer h (reading interface m) (ContentsShown at.contents) None = inr (inr (not_failed, sym at.answer)) in
      comes _ interface new m h at.contents (by_machine interface h m (ContentsShown at.contents) None stands.valid may) a b
      (contents_head d.size ++ at.contents) fault same
      (sends h at.contents clean at.stands at.sends at.start);
  by_stopped = λ h none over. absurd (false≢true (sym runs ∙ over));
  stays = λ over. absurd (false≢true (sym runs ∙ over));
}

-- ---- the pieces

-- behind the head, the contents as far as they were handed out
pub record HandedOn {File : Type 0} (old new : DeskState File) (out out_new : Option (List ℕ)) (first now : Download) : Type 0 where
  pub clean : new.is_clean → old.is_clean
  pub handed : (h : CommandList) (contents : Bytes) → new.is_clean → StandsFor old h → Sends h first contents → sent first ≡ 0
      → StandsFor new h × Sends h now contents × Appends out out_new (contents_head first.size ++ take (sent now) contents)

head_begun : (n : ℕ) (more : List ℕ) → 1 ≤ length (contents_head n ++ more)
unfolding contents_head
head_begun n more = omega arith

module _ {File : Type 0} (old : DeskState File) (out : Option (List ℕ)) (d : Download) where
  -- the reply stopped in its head
  pub head_cut : (a : Option (List ℕ)) (part left : List ℕ) → contents_head d.size ≡ part ++ left → Appends out a part
      → SendsContents old old out a d (Some serve_fault.Write)
  head_cut a part left whole written h contents clean stands sends start =
      (part, left ++ contents, ap (λ (t : List ℕ). t ++ contents) whole ∙ append_assoc part left contents, written, stands)

  -- there was no memory for it
  pub head_none : SendsContents old old out out d (Some serve_fault.Memory)
  head_none h contents clean stands sends start = ([], contents_head d.size ++ contents, refl, Appends-nil out, stands)

  module _ (s t : DeskState File) (a : Option (List ℕ)) (p q : Download) (on : HandedOn old s out a d p) (clean : t.is_clean → s.is_clean) where
    pub piece_handed : (b : Option (List ℕ)) (piece : Vec ℕ Global) → HandsPieces s t p q (Ok (Some piece)) → Appends a b piece.items → HandedOn old t out b d q
    piece_handed b piece hands written = record {
      clean = λ is. on.clean (clean is);
      handed = λ h contents is stands sends start.
          let so_far = on.handed h contents (clean is) stands sends start in
          let next = hands h contents is so_far.0 so_far.1 in
          let all = Appends-trans out a b (contents_head d.size ++ take (sent p) contents) piece.items so_far.2 written in (
            next.0,
            next.1,
            subst (λ (x : List ℕ). Appends out b x) (append_assoc (contents_head d.size) (take (sent p) contents) piece.items
                ∙ ap (λ (x : List ℕ). contents_head d.size ++ x) (sym next.2.joined)) all,
          );
    }

    -- the reply stopped in a piece
    pub piece_cut : (b : Option (List ℕ)) (piece : Vec ℕ Global) (part left : List ℕ) → HandsPieces s t p q (Ok (Some piece)) → piece.items ≡ part ++ left
        → Appends a b part
        → SendsContents old t out b d (Some serve_fault.Write)
    piece_cut b piece part left hands whole written h contents is stands sends start =
        let so_far = on.handed h contents (clean is) stands sends start in
        let next = hands h contents is so_far.0 so_far.1 in
        let head = contents_head d.size in
        let before = take (sent p) contents in
        let behind = drop (sent q) contents in
        let text : contents ≡ (before ++ (part ++ left)) ++ behind = sym (take-append-drop (sent q) contents)
        ∙ ap (λ (x : List ℕ). x ++ behind) (next.2.joined ∙ ap (λ (x : List ℕ). before ++ x) whole) in (
          (head ++ before) ++ part,
          left ++ behind,
          ap (λ (x : List ℕ). head ++ x) text ∙ simp append_assoc,
          Appends-trans out a b (head ++ before) part so_far.2 written,
          next.0,
        )

    -- what was written of the text, and what was left
    cut_at : (contents : Bytes) → contents_head d.size ++ contents ≡ (contents_head d.size ++ take (sent p) contents) ++ drop (sent p) contents
    cut_at contents = grind (arith, take-append-drop, append_assoc)

    -- memory was wanted, or the store failed
    pub interrupted : (refusal : Refusal) → HandsPieces s t p q (Err refusal) → SendsContents old t out a d (Some (download_fault refusal))
    interrupted refusal hands h contents is stands sends start =
        let so_far = on.handed h contents (clean is) stands sends start in
        let next = hands h contents is so_far.0 so_far.1 in
        let part = contents_head d.size ++ take (sent p) contents in
        let left = drop (sent p) contents in
        let text = contents_head d.size ++ contents in
        elim next.1 [
          | inl memory ↦ subst (λ (r : Refusal). WritesOut t h out a text (Some (download_fault r))) (sym memory.0)
              (part, left, cut_at contents, so_far.2, memory.1)
          | inr store ↦ subst (λ (r : Refusal). WritesOut t h out a text (Some (download_fault r))) (sym store.0)
              (part, left, cut_at contents, so_far.2, (store.1, head_begun d.size (take (sent p) contents)))
        ]
