-- The headline from the parts.
use native.Mathlib.Omega.{arith}
use Rattle.stream_server.proofs.Common.{All, ◌≡◌, ◌≢◌, ℕ, ◌⊎◌, Bool, true, false, List, [], ◌∷◌, ◌++◌, Option, None, Result, Err, inl, inr, refl, sym, ap}
use Rattle.stream_server.proofs.Common.{◌∙◌, subst, append_assoc, append-nil, StoreFailed, Command, CommandList, followed_by, Make, Reply, Refused, one}
use Rattle.stream_server.proofs.Common.{DeskState, IsInDoubt, Interface, ServeFault, Served, Exchange, accepted_in, texts_of, IsRun, AnswersEnd, CutsDownload}
use Rattle.stream_server.proofs.Common.{Exits, HoldsFirstPart, Stops, Transcript, Headline, IsRefusedAsStopped, BeginsDownload, Conduct, Whole, Broken}
use Rattle.stream_server.proofs.Common.{CutsReply, running, stopped, ByStopped, Answers, Serves, ServesStream, WireMessage, Begins, End, Input, Appends}
use Rattle.stream_server.proofs.Common.{Consumes, Appends-trans, All-nil, All-cons, reply_text, end_text}
use Rattle.stream_server.specs.declared.served.ServeFault.TheVariants as serve_fault
use Rattle.std.proofs.lemmas.Bool.{false≢true}
use Rattle.std.proofs.lemmas.List.{same_from_push}
use Rattle.rollout_machine.proofs.Once.{repeats_leave_no_trace}
use Rattle.stream_server.proofs.RunLemmas.{accepted_append, texts_append, led}

is_store_failed : (reply : Reply) → (reply ≡ Refused StoreFailed) ⊎ (reply ≢ Refused StoreFailed)
is_store_failed (Refused StoreFailed) = inl refl
is_store_failed reply = inr (λ e. cc)

-- an exchange of a list is its last one or stands before it
place : (front : List Exchange) (last : Exchange) (before : List Exchange) (x : Exchange) (behind : List Exchange) → front ++ last ∷ [] ≡ before ++ x ∷ behind
    → (last ≡ x) ⊎ ((more : List Exchange) × (front ≡ before ++ x ∷ more))
place [] last [] x behind e = inl cc
place [] last (y ∷ []) x behind e = cc
place [] last (y ∷ z ∷ before) x behind e = cc
place (w ∷ front) last [] x behind e = let head : w ≡ x = cc in inr (front, ap (λ (y : Exchange). y ∷ front) head)
place (w ∷ front) last (y ∷ before) x behind e =
    let head : w ≡ y = cc in
    let tail : front ++ last ∷ [] ≡ before ++ x ∷ behind = cc in
    elim (place front last before x behind tail) [ inl same ↦ inl same | inr found ↦ inr (found.0, (λ i. head i ∷ found.1 i)) ]

-- the commands of a list are those up to an exchange and those after it
up_to : (xs before : List Exchange) (x : Exchange) (behind : List Exchange) → xs ≡ before ++ x ∷ behind → accepted_in xs
    ≡ accepted_in before ++ one x.accepted ++ accepted_in behind
up_to xs before x behind e = grind (arith, accepted_append, append_assoc)

after_last : (h : CommandList) (front : List Exchange) (last : Exchange) → followed_by (followed_by h (accepted_in front)) (one last.accepted)
    ≡ followed_by h (accepted_in (front ++ last ∷ []))
after_last h front last = ap (followed_by (followed_by h (accepted_in front))) (sym (append-nil (one last.accepted))) ∙ led h front (last ∷ [])

module _ (File : Type 0) (s : DeskState File) (h : CommandList) where
  all_kept : (run : List Exchange) (written : List ℕ) (file : File) → s.holds file (followed_by h (accepted_in run)) → HoldsFirstPart s h run written file
  all_kept run written file holds = record {
    kept = accepted_in run;
    lost = [];
    parts = sym (append-nil (accepted_in run));
    in_doubt = inl refl;
    acknowledged = λ before x behind ack. (accepted_in behind, up_to run before x behind ack.place);
    holds = holds;
  }

  -- the last one's command isn't in the file
  one_lost : (front : List Exchange) (last : Exchange) (written : List ℕ) (file : File) → last.reply ≡ Refused StoreFailed
      → s.holds file (followed_by h (accepted_in front))
      → HoldsFirstPart s h (front ++ last ∷ []) written file
  one_lost front last written file store holds = record {
    kept = accepted_in front;
    lost = one last.accepted;
    parts = accepted_append front (last ∷ []) ∙ ap (λ (cs : List Command). accepted_in front ++ cs) (append-nil (one last.accepted));
    in_doubt = inr (record { before = front; last = last; place = refl; reply = store; command = refl });
    acknowledged = λ before x behind ack. elim (place front last before x behind ack.place) [
      | inl same ↦ absurd (ack.success StoreFailed (ap (λ (y : Exchange). y.reply) (sym same) ∙ store))
      | inr found ↦ (accepted_in found.0, up_to front before x found.0 found.1)
    ];
    holds = holds;
  }

-- ---- what was read and written

-- the same transcript, of whose run this is known
pub retold : {P Q : List Exchange → Type 0} {stream unread out out_new : Option (List ℕ)} {result : Result Served ServeFault}
    → (t : Transcript P stream unread out out_new result) → Q t.run → Transcript Q stream unread out out_new result
retold t is = record {
  given = t.given;
  reads = t.reads;
  written = t.written;
  writes = t.writes;
  run = t.run;
  is_run = is;
  rest = t.rest;
  messages = t.messages;
  end = t.end;
  ends = t.ends;
  unwritten = t.unwritten;
  begins = t.begins;
  whole = t.whole;
  exit = t.exit;
}

all_refused : (h : CommandList) (run : List Exchange) → IsRun ByStopped h run → All IsRefusedAsStopped run
all_refused h [] is = All-nil IsRefusedAsStopped
all_refused h (x ∷ xs) is = All-cons IsRefusedAsStopped x xs is.0 (all_refused (followed_by h (one x.accepted)) xs is.2)

-- where the desk is, seen from the run: it goes on, or it is stopped and its last command, if there is one, is in doubt
pub record GoesOnAfter {File : Type 0} (C : Conduct File) (h : CommandList) (s : DeskState File) (run : List Exchange) (result : Result Served ServeFault) :
    Type 0 where
  pub stands : C.stands s (followed_by h (accepted_in run))
  pub not_store : result ≢ Err serve_fault.Store

pub record IsInDoubtAfter {File : Type 0} (h : CommandList) (s : DeskState File) (run : List Exchange) (result : Result Served ServeFault) : Type 0 where
  pub before : List Exchange
  pub last : Exchange
  pub place : run ≡ before ++ last ∷ []
  pub lacks : (last.reply ≡ Refused StoreFailed) ⊎ (last.accepted ≡ None)
  pub doubt : IsInDoubt s (followed_by h (accepted_in before)) last.accepted
  pub stopped_by : (result ≡ Err serve_fault.Store) ⊎ (result ≡ Err serve_fault.Write)

pub record AtExit {File : Type 0} (C : Conduct File) (h : CommandList) (s : DeskState File) (stream unread out out_new : Option (List ℕ))
    (result : Result Served ServeFault) : Type 0 where
  pub transcript : Transcript (IsRun C.answers h) stream unread out out_new result
  pub after : GoesOnAfter C h s transcript.run result ⊎ IsInDoubtAfter h s transcript.run result

stops_while_standing : (is_stopped : Bool) (result : Result Served ServeFault) → is_stopped ≡ false → result ≢ Err serve_fault.Store → Stops is_stopped result
stops_while_standing is_stopped result runs other = grind arith

stops_in_doubt : (is_stopped : Bool) (result : Result Served ServeFault) → is_stopped ≡ true → (result ≡ Err serve_fault.Store)
    ⊎ (result ≡ Err serve_fault.Write) → Stops is_stopped result
stops_in_doubt is_stopped result over by = grind arith

-- nothing was accepted last
none_last : (h : CommandList) (before : List Exchange) (last : Exchange) → last.accepted ≡ None → followed_by h (accepted_in before)
    ≡ followed_by h (accepted_in (before ++ last ∷ []))
none_last h before last none = ap (λ (a : Option Command). followed_by (followed_by h (accepted_in before)) (one a)) (sym none) ∙ after_last h before last

kept_in_doubt : {File : Type 0} (s : DeskState File) (h : CommandList) (before : List Exchange) (last : Exchange) (written : List ℕ)
    → (last.reply ≡ Refused StoreFailed) ⊎ (last.accepted ≡ None)
    → IsInDoubt s (followed_by h (accepted_in before)) last.accepted → (file : File) → s.may_leave file → HoldsFirstPart s h (before ++ last ∷ []) written file
kept_in_doubt s h before last written lacks doubt file leaves = grind (arith, one_lost, all_kept, none_last, after_last)

headline_of : {File : Type 0} (interface : Interface) (h : CommandList) (s : DeskState File) (stream unread out out_new : Option (List ℕ))
    (result : Result Served ServeFault)
    → AtExit (running File interface) h s stream unread out out_new result → Headline interface h s stream unread out out_new result
headline_of interface h s stream unread out out_new result at =
    let t = at.transcript in elim at.after [
      | inl on ↦ record {
        transcript = t;
        desk = inr on.stands;
        traceless = λ runs. repeats_leave_no_trace (followed_by h (accepted_in t.run)) on.stands.valid;
        stops = stops_while_standing s.is_stopped result on.stands.runs on.not_store;
        crash = λ file leaves. all_kept _ s h t.run t.written file (on.stands.crash file leaves);
      }
      | inr last ↦ record {
        transcript = t;
        desk = inl last.doubt.stopped;
        traceless = λ runs. absurd (false≢true (sym runs ∙ last.doubt.stopped));
        stops = stops_in_doubt s.is_stopped result last.doubt.stopped last.stopped_by;
        crash = λ file leaves. subst (λ (run : List Exchange). HoldsFirstPart s h run t.written file) (sym last.place)
            (kept_in_doubt s h last.before last.last t.written last.lacks last.doubt file leaves);
      }
    ]

-- the promise of `serve` from one account of the exit, of any conduct
pub both : {File : Type 0} (interface : Interface) (old new : DeskState File) (stream unread out middle out_new : Option (List ℕ)) (ms : List WireMessage)
    (fault : Option ServeFault) (result : Result Served ServeFault)
    → ((C : Conduct File) → Answers C old new out middle ms fault → (h : CommandList) → C.premise new → C.stands old h
    → AtExit C h new stream unread out out_new result)
    → Serves interface old new out middle ms fault → ServesStream interface old new stream unread out out_new result
both interface old new stream unread out middle out_new ms fault result exit serves = record {
  clean = serves.clean;
  headline = λ h clean stands. headline_of interface h new stream unread out out_new result (exit (running _ interface) serves.by_machine h clean stands);
  stopped = λ over. record {
    transcript =
        let told = (exit (stopped _) serves.by_stopped (Make false) tt over).transcript in retold told (all_refused (Make false) told.run told.is_run);
    stays = serves.stays over;
  };
}

-- ---- an exit from the parts

module _ (File : Type 0) (C : Conduct File) (h : CommandList) (s : DeskState File) (stream unread out middle out_new : Option (List ℕ)) where
  -- every reply was written whole, and then a part of the fault's
  pub whole_exit : (given rest : List ℕ) (ms : List WireMessage) (sent part left : List ℕ) (end : End) (result : Result Served ServeFault)
      → (a : Whole C h s ms sent) → Consumes stream unread given → Begins given ms rest → Appends out middle sent → Appends middle out_new part
      → AnswersEnd a.run rest end → end_text end ≡ part ++ left
      → Exits stream unread a.run (sent ++ part) rest result → result ≢ Err serve_fault.Store → AtExit C h s stream unread out out_new result
  whole_exit given rest ms sent part left end result a reads begins writes more ends cut exit other = record {
    transcript = record {
      given = given;
      reads = reads;
      written = sent ++ part;
      writes = Appends-trans out middle out_new sent part writes more;
      run = a.run;
      is_run = a.is_run;
      rest = rest;
      messages = subst (λ (xs : List WireMessage). Begins given xs rest) (sym a.messages) begins;
      end = end;
      ends = ends;
      unwritten = left;
      begins = (λ i. sym a.texts i ++ cut i) ∙ sym (append_assoc sent part left);
      whole = λ before last e. (
        reply_text last.message last.reply ++ part,
        ap (λ (t : List ℕ). t ++ part) (a.texts ∙ ap texts_of e ∙ texts_append before (last ∷ [])
            ∙ ap (λ (t : List ℕ). texts_of before ++ t) (append-nil (reply_text last.message last.reply)))
            ∙ append_assoc (texts_of before) (reply_text last.message last.reply) part,
      );
      exit = exit;
    };
    after = inl (record { stands = a.stands; not_store = other });
  }

  broken_after : (ms : List WireMessage) (sent : List ℕ) (fault : ServeFault) (b : Broken C h s ms sent fault)
      → GoesOnAfter C h s (b.before ++ b.last ∷ []) (Err fault) ⊎ IsInDoubtAfter h s (b.before ++ b.last ∷ []) (Err fault)
  broken_after ms sent fault b =
      let goes : C.stands s (followed_by (followed_by h (accepted_in b.before)) (one b.last.accepted))
      → C.stands s (followed_by h (accepted_in (b.before ++ b.last ∷ []))) =
      λ stands. subst (λ (k : CommandList). C.stands s k) (after_last h b.before b.last) stands in
      elim fault as (λ f. CutsReply C s (followed_by h (accepted_in b.before)) f b.last.reply b.last.accepted b.part b.left
      → GoesOnAfter C h s (b.before ++ b.last ∷ []) (Err f) ⊎ IsInDoubtAfter h s (b.before ++ b.last ∷ []) (Err f)) [
        | serve_fault.Read ↦ λ cut. absurd cut
        | serve_fault.Write ↦ λ cut. elim (is_store_failed b.last.reply) [
          | inl store ↦ inr (record { before = b.before; last = b.last; place = refl; lacks = inl store; doubt = cut.in_doubt store; stopped_by = inr refl })
          | inr other ↦ inl (record { stands = goes (cut.stands other); not_store = λ e. cc })
        ]
        | serve_fault.Store ↦ λ cut.
            let lacks : (b.last.reply ≡ Refused StoreFailed) ⊎ (b.last.accepted ≡ None) = elim cut.1 [ inl whole ↦ inl whole.0 | inr begun ↦ inr begun.none ] in
            inr (record { before = b.before; last = b.last; place = refl; lacks = lacks; doubt = cut.0; stopped_by = inl refl })
        | serve_fault.Memory ↦ λ cut. inl (record { stands = goes cut.0; not_store = λ e. cc })
      ] b.cut

  cuts : (ms : List WireMessage) (sent : List ℕ) (fault : ServeFault) (b : Broken C h s ms sent fault) → BeginsDownload b.last.reply b.last.accepted b.part
      → CutsDownload (b.before ++ b.last ∷ []) sent
  cuts ms sent fault b begun = record {
    before = b.before;
    last = b.last;
    place = refl;
    contents = begun.contents;
    reply = begun.shows;
    part = b.part;
    left = b.left;
    begins = b.whole;
    begun = begun.begun;
    all_written = b.texts;
  }

  broken_says : (rest : List ℕ) (ms : List WireMessage) (sent : List ℕ) (fault : ServeFault) (b : Broken C h s ms sent fault)
      → Exits stream unread (b.before ++ b.last ∷ []) sent rest (Err fault)
  broken_says rest ms sent serve_fault.Read b = absurd b.cut
  broken_says rest ms sent serve_fault.Write b = tt
  broken_says rest ms sent serve_fault.Store b =
      elim b.cut.1 [
        | inl store ↦
            let all : reply_text b.last.message b.last.reply ≡ b.part = b.whole ∙ ap (λ (t : List ℕ). b.part ++ t) store.1 ∙ append-nil b.part in
            inl (
              one b.last.accepted,
              record { before = b.before; last = b.last; place = refl; reply = store.0; command = refl },
              b.texts ∙ ap (λ (t : List ℕ). texts_of b.before ++ t) (sym (append-nil (reply_text b.last.message b.last.reply) ∙ all))
                  ∙ sym (texts_append b.before (b.last ∷ [])),
            )
        | inr begun ↦ inr (cuts ms sent serve_fault.Store b begun)
      ]
  broken_says rest ms sent serve_fault.Memory b =
      elim b.cut.1 [
        | inl none ↦ inr (inl (
          b.before,
          b.last,
          refl,
          b.texts ∙ ap (λ (t : List ℕ). texts_of b.before ++ t) none
              ∙ append-nil (texts_of b.before),
        ))
        | inr begun ↦ inr (inr (cuts ms sent serve_fault.Memory b begun))
      ]

  -- it stopped within an exchange
  pub broken_exit : (given rest : List ℕ) (ms : List WireMessage) (sent : List ℕ) (fault : ServeFault) → Broken C h s ms sent fault
      → Consumes stream unread given → Begins given ms rest → Appends out out_new sent
      → AtExit C h s stream unread out out_new (Err fault)
  broken_exit given rest ms sent fault b reads begins writes =
      let run : List Exchange = b.before ++ b.last ∷ [] in record {
        transcript = record {
          given = given;
          reads = reads;
          written = sent;
          writes = writes;
          run = run;
          is_run = b.is_run;
          rest = rest;
          messages = subst (λ (xs : List WireMessage). Begins given xs rest) (sym b.messages) begins;
          end = Input;
          ends = tt;
          unwritten = b.left;
          begins = append-nil (texts_of run) ∙ texts_append b.before (b.last ∷ [])
              ∙ ap (λ (t : List ℕ). texts_of b.before ++ t) (append-nil (reply_text b.last.message b.last.reply) ∙ b.whole)
              ∙ sym (append_assoc (texts_of b.before) b.part b.left) ∙ ap (λ (t : List ℕ). t ++ b.left) (sym b.texts);
          whole = λ before last e. (b.part, b.texts ∙ ap (λ (xs : List Exchange). texts_of xs ++ b.part) (same_from_push b.before before b.last last e).0);
          exit = broken_says rest ms sent fault b;
        };
        after = broken_after ms sent fault b;
      }
