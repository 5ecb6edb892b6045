-- The exits of the loop, for a desk of any conduct.
use Rattle.stream_server.proofs.Common.{◌≡◌, ◌≢◌, ℕ, ◌-◌, ◌^◌, ◌<◌, ◌≤◌, min, Bool, true, false, List, [], ◌++◌, length, Option, Some, None, Result, Ok}
use Rattle.stream_server.proofs.Common.{Err, inl, refl, sym, ap, ◌∙◌, subst, append-nil, arith, length-append, Appends, Consumes, IsAtEnd, Appends-nil}
use Rattle.stream_server.proofs.Common.{Consumes-nil, Consumes-trans, End, Input, Fault, WireMessage, IsUndecided, IsFault, Begins}
use Rattle.stream_server.proofs.Common.{CommandList, Refused, DeskState, ServeFault, Served, end_text, Exchange, messages_of, texts_of, GoesOn, AnswersEnd}
use Rattle.std.specs.Prelude.{IsSomeAnd}
use Rattle.stream_server.proofs.Common.{Exits, Conduct, Answers, SendsPart}
use Rattle.std.proofs.lemmas.List.{length-map}
use Rattle.http_wire.specs.declared.fault.WireFault.{WireFault}
use Rattle.stream_server.specs.declared.served.ServeFault.TheVariants as serve_fault
use Rattle.http_wire.specs.Faults.{refusal_of}
use Rattle.http_wire.specs.Replies.{refusal_text}
use Rattle.stream_server.specs.Headline.{Ended}
use Rattle.stream_server.specs.private.Reading.{ReadsOn, GrowsTo}
use Rattle.stream_server.proofs.HeadlineLemmas.{AtExit, whole_exit, broken_exit}

-- a read that gave nothing
pub no_more : (stream a b : Option (List ℕ)) (fed : List ℕ) → Consumes stream a fed → Consumes a b [] → Consumes stream b fed
no_more stream a b fed before step = subst (λ (t : List ℕ). Consumes stream b t) (append-nil fed) (Consumes-trans stream a b fed [] before step)

counted : (run : List Exchange) (ms : List WireMessage) (answered : ℕ) → messages_of run ≡ ms → answered ≡ min (length ms) (2 ^ 64 - 1) → answered
    ≡ min (length run) (2 ^ 64 - 1)
counted run ms answered same e = e ∙ ap (λ (n : ℕ). min n (2 ^ 64 - 1)) (sym (ap length same) ∙ length-map run (λ (x : Exchange). x.message))

module _ (File : Type 0) (C : Conduct File) (old new : DeskState File) (stream : Option (List ℕ)) where
  -- answering stopped within a message
  pub exits_broken : (unread out out_new : Option (List ℕ)) (given rest : List ℕ) (ms : List WireMessage) (fault : ServeFault)
      → Consumes stream unread given → Begins given ms rest → Answers C old new out out_new ms (Some fault)
      → (h : CommandList) → C.premise new → C.stands old h → AtExit C h new stream unread out out_new (Err fault)
  exits_broken unread out out_new given rest ms fault reads begins answers h premise stands =
      let r = answers h premise stands in broken_exit File C h new stream unread out out_new out_new given rest ms r.0 fault r.2 reads begins r.1

  -- every message was answered, and then a part of a fault's reply was written
  exits_whole : (unread out middle out_new : Option (List ℕ)) (given rest : List ℕ) (ms : List WireMessage) (part left : List ℕ) (end : End)
      (result : Result Served ServeFault)
      → Consumes stream unread given → Begins given ms rest → Answers C old new out middle ms None → Appends middle out_new part → end_text end ≡ part ++ left
      → ((run : List Exchange) → GoesOn run → AnswersEnd run rest end)
      → ((run : List Exchange) (written : List ℕ) → messages_of run ≡ ms → GoesOn run → written ≡ texts_of run ++ part
      → Exits stream unread run written rest result)
      → result ≢ Err serve_fault.Store
      → (h : CommandList) → C.premise new → C.stands old h → AtExit C h new stream unread out out_new result
  exits_whole unread out middle out_new given rest ms part left end result reads begins answers more cut ends exit other h premise stands =
      let r = answers h premise stands in
      let a = r.2 in
      whole_exit File C h new stream unread out middle out_new given rest ms r.0 part left end result a reads begins r.1 more (ends a.run a.goes_on) cut
      (exit a.run (r.0 ++ part) a.messages a.goes_on (ap (λ (t : List ℕ). t ++ part) a.texts)) other

  -- and nothing more
  exits_all : (unread out out_new : Option (List ℕ)) (given rest : List ℕ) (ms : List WireMessage) (result : Result Served ServeFault)
      → Consumes stream unread given → Begins given ms rest → Answers C old new out out_new ms None
      → ((run : List Exchange) (written : List ℕ) → messages_of run ≡ ms → GoesOn run → written ≡ texts_of run → Exits stream unread run written rest result)
      → result ≢ Err serve_fault.Store
      → (h : CommandList) → C.premise new → C.stands old h → AtExit C h new stream unread out out_new result
  exits_all unread out out_new given rest ms result reads begins answers exit other =
      exits_whole unread out out_new out_new given rest ms [] [] Input result reads begins answers (Appends-nil out_new) refl (λ run goes. tt)
      (λ run written same goes e. exit run written same goes (e ∙ append-nil (texts_of run))) other

  pub exits_fault : (unread out middle out_new : Option (List ℕ)) (given rest : List ℕ) (ms : List WireMessage) (fault : WireFault) (answered : ℕ)
      → Consumes stream unread given → Begins given ms rest → Answers C old new out middle ms None → Appends middle out_new (refusal_text (refusal_of fault))
      → IsFault rest fault
      → answered ≡ min (length ms) (2 ^ 64 - 1)
      → (h : CommandList) → C.premise new → C.stands old h → AtExit C h new stream unread out out_new (Ok (record { answered = answered; end = Fault fault }))
  exits_fault unread out middle out_new given rest ms fault answered reads begins answers more is count =
      let text : List ℕ = refusal_text (refusal_of fault) in
      exits_whole unread out middle out_new given rest ms text [] (Fault fault) (Ok (record { answered = answered; end = Fault fault })) reads begins answers
      more
      (sym (append-nil text)) (λ run goes. (goes, is))
      (λ run written same goes e. record { all_written = e; goes_on = goes; answered = counted run ms answered same count; ended = is }) (λ e. cc)

  pub exits_fault_part : (unread out middle out_new : Option (List ℕ)) (given rest : List ℕ) (ms : List WireMessage) (fault : WireFault) (failed : Bool)
      (stop : ServeFault)
      → Consumes stream unread given → Begins given ms rest → Answers C old new out middle ms None
      → SendsPart middle out_new (refusal_text (refusal_of fault)) (Refused (refusal_of fault)) failed stop → IsFault rest fault
      → (h : CommandList) → C.premise new → C.stands old h → AtExit C h new stream unread out out_new (Err stop)
  exits_fault_part unread out middle out_new given rest ms fault failed serve_fault.Read reads begins answers part is = absurd part
  exits_fault_part unread out middle out_new given rest ms fault failed serve_fault.Store reads begins answers part is = absurd part
  exits_fault_part unread out middle out_new given rest ms fault failed serve_fault.Write reads begins answers part is =
      exits_whole unread out middle out_new given rest ms part.1 part.2 (Fault fault) (Err serve_fault.Write) reads begins answers part.4 part.3
      (λ run goes. (goes, is))
      (λ run written same goes e. tt) (λ e. cc)
  exits_fault_part unread out middle out_new given rest ms fault failed serve_fault.Memory reads begins answers part is =
      exits_whole unread out middle out_new given rest ms [] (refusal_text (refusal_of fault)) (Fault fault) (Err serve_fault.Memory) reads begins answers
      part.1 refl (λ run goes. (goes, is))
      (λ run written same goes e. inl (goes, e ∙ append-nil (texts_of run))) (λ e. cc)

  pub exits_unread : (a unread out out_new : Option (List ℕ)) (fed held held_new : List ℕ) (ms : List WireMessage) (failed : Bool) (stop : ServeFault)
      → Consumes stream a fed → Begins fed ms held → Answers C old new out out_new ms None → IsUndecided held → ReadsOn a unread held held_new failed (Err stop)
      → (h : CommandList) → C.premise new → C.stands old h → AtExit C h new stream unread out out_new (Err stop)
  exits_unread a unread out out_new fed held held_new ms failed serve_fault.Read reads begins answers partial read =
      exits_all unread out out_new fed held ms (Err serve_fault.Read) (no_more stream a unread fed reads read.0) begins answers
      (λ run written same goes e. (goes, e, partial)) (λ e. cc)
  exits_unread a unread out out_new fed held held_new ms failed serve_fault.Write reads begins answers partial read = absurd read
  exits_unread a unread out out_new fed held held_new ms failed serve_fault.Store reads begins answers partial read = absurd read
  exits_unread a unread out out_new fed held held_new ms failed serve_fault.Memory reads begins answers partial read =
      exits_all unread out out_new (fed ++ read.0) read.2 ms (Err serve_fault.Memory) (Consumes-trans stream a unread fed read.0 reads read.1)
      (read.3 fed ms begins) answers
      (λ run written same goes e. inl (goes, e)) (λ e. cc)

  -- the end is one of which nothing is written
  pub exits_end : (unread out out_new : Option (List ℕ)) (fed rest : List ℕ) (ms : List WireMessage) (answered : ℕ) (end : End) → end_text end ≡ []
      → Consumes stream unread fed → Begins fed ms rest → Answers C old new out out_new ms None → Ended stream unread rest end
      → answered ≡ min (length ms) (2 ^ 64 - 1)
      → (h : CommandList) → C.premise new → C.stands old h → AtExit C h new stream unread out out_new (Ok (record { answered = answered; end = end }))
  exits_end unread out out_new fed rest ms answered end silent reads begins answers ended count =
      exits_all unread out out_new fed rest ms (Ok (record { answered = answered; end = end })) reads begins answers
      (λ run written same goes e. record {
        all_written = e ∙ sym (ap (λ (t : List ℕ). texts_of run ++ t) silent ∙ append-nil (texts_of run));
        goes_on = goes;
        answered = counted run ms answered same count;
        ended = ended;
      }) (λ e. cc)

  -- nothing was read
  pub exits_unserved : (out : Option (List ℕ)) → Answers C old new out out [] None
      → (h : CommandList) → C.premise new → C.stands old h → AtExit C h new stream stream out out (Err serve_fault.Memory)
  exits_unserved out answers =
      exits_all stream out out [] [] [] (Err serve_fault.Memory) (Consumes-nil stream) refl answers (λ run written same goes e. inl (goes, e)) (λ e. cc)

-- ---- the loop's counts

pub too_many : (stream unread : Option (List ℕ)) (fed : List ℕ) → Consumes stream unread fed → 2 ^ 64 - 1 ≤ length fed
    → IsSomeAnd stream (λ bytes. length bytes < 2 ^ 64 - 1) → ⊥
too_many stream unread fed reads many told = grind (arith, length-append)

pub read_end : (a b : Option (List ℕ)) (held held_new : List ℕ) (failed more : Bool) → more ≡ false → ReadsOn a b held held_new failed (Ok more)
    → Consumes a b [] × IsAtEnd b × (held_new ≡ held)
read_end a b held held_new failed more e read = grind arith

pub read_piece : (a b : Option (List ℕ)) (held held_new : List ℕ) (failed more : Bool) → more ≡ true → ReadsOn a b held held_new failed (Ok more)
    → (piece : List ℕ) × Consumes a b piece × (0 < length piece) × GrowsTo held piece held_new
read_piece a b held held_new failed more e read = grind arith

pub some_left : (xs : List ℕ) → (length xs ≡ 0 → ⊥) → 0 < length xs
some_left xs some = omega arith
