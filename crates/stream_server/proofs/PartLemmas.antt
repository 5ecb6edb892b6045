-- Parts of `serve`: one message, and parts one after the other.
use native.Mathlib.Omega.{arith}
use Rattle.stream_server.proofs.Common.{◌≡◌, ◌≢◌, ℕ, true, List, [], ◌∷◌, ◌++◌, Option, Some, None, refl, sym, ap, ◌∙◌, subst, append_assoc, append-nil}
use Rattle.stream_server.proofs.Common.{Appends-trans, Appends-nil, WireMessage, Begins, StoreFailed, Command, CommandList, followed_by, Reply, Refused, one}
use Rattle.stream_server.proofs.Common.{DeskState, StaysStopped, Interface, ServeFault, reply_text, Exchange, messages_of, accepted_in, texts_of, IsRun}
use Rattle.stream_server.proofs.Common.{Conduct, running, stopped, Whole, Broken, CutsReply, Comes, Answers, Serves, Takes}
use Rattle.stream_server.proofs.RunLemmas.{messages_append, texts_append, run_append, goes_append, led}
use Rattle.stream_server.specs.Parts.{GoesTo}

-- one message was answered so
pub record AnswersOne {File : Type 0} (C : Conduct File) (h : CommandList) (s : DeskState File) (message : WireMessage) (reply : Reply) : Type 0 where
  pub accepted : Option Command
  pub answers : C.answers h message reply accepted
  pub goes_to : GoesTo C s h reply accepted

module _ (File : Type 0) (C : Conduct File) where
  whole_nil : (h : CommandList) (s : DeskState File) → C.stands s h → Whole C h s [] []
  whole_nil h s stands = record { run = []; messages = refl; is_run = tt; goes_on = tt; texts = refl; stands = stands }

  pub whole_one : (h : CommandList) (s : DeskState File) (m : WireMessage) (reply : Reply) → AnswersOne C h s m reply → reply ≢ Refused StoreFailed
      → Whole C h s (m ∷ []) (reply_text m reply)
  whole_one h s m reply one_answer goes = record {
    run = record { message = m; reply = reply; accepted = one_answer.accepted } ∷ [];
    messages = refl;
    is_run = (one_answer.answers, λ _. refl, tt);
    goes_on = (goes, tt);
    texts = sym (append-nil (reply_text m reply));
    stands = subst (λ (cs : List Command). C.stands s (followed_by h cs)) (sym (append-nil (one one_answer.accepted))) (one_answer.goes_to.stands goes);
  }

  pub broken_one : (h : CommandList) (s : DeskState File) (m : WireMessage) (reply : Reply) (accepted : Option Command) (part left : List ℕ)
      (fault : ServeFault) → C.answers h m reply accepted
      → reply_text m reply ≡ part ++ left → CutsReply C s h fault reply accepted part left → Broken C h s (m ∷ []) part fault
  broken_one h s m reply accepted part left fault answers whole cut = record {
    before = [];
    last = record { message = m; reply = reply; accepted = accepted };
    messages = refl;
    is_run = (answers, λ _. refl, tt);
    goes_on = tt;
    part = part;
    left = left;
    whole = whole;
    texts = refl;
    cut = cut;
  }

  whole_whole : (h : CommandList) (s t : DeskState File) (ms ns : List WireMessage) (sent more : List ℕ) (a : Whole C h s ms sent)
      → Whole C (followed_by h (accepted_in a.run)) t ns more
      → Whole C h t (ms ++ ns) (sent ++ more)
  whole_whole h s t ms ns sent more a b = record {
    run = a.run ++ b.run;
    messages = messages_append a.run b.run ∙ (λ i. a.messages i ++ b.messages i);
    is_run = run_append C.answers h a.run b.run a.is_run a.goes_on b.is_run;
    goes_on = goes_append a.run b.run a.goes_on b.goes_on;
    texts = (λ i. a.texts i ++ b.texts i) ∙ sym (texts_append a.run b.run);
    stands = subst (λ (k : CommandList). C.stands t k) (led h a.run b.run) b.stands;
  }

  whole_broken : (h : CommandList) (s t : DeskState File) (ms ns : List WireMessage) (sent more : List ℕ) (fault : ServeFault) (a : Whole C h s ms sent)
      → Broken C (followed_by h (accepted_in a.run)) t ns more fault → Broken C h t (ms ++ ns) (sent ++ more) fault
  whole_broken h s t ms ns sent more fault a b =
      let all = append_assoc a.run b.before (b.last ∷ []) in record {
        before = a.run ++ b.before;
        last = b.last;
        messages = ap messages_of all ∙ messages_append a.run (b.before ++ b.last ∷ []) ∙ (λ i. a.messages i ++ b.messages i);
        is_run = subst (λ (xs : List Exchange). IsRun C.answers h xs) (sym all)
            (run_append C.answers h a.run (b.before ++ b.last ∷ []) a.is_run a.goes_on b.is_run);
        goes_on = goes_append a.run b.before a.goes_on b.goes_on;
        part = b.part;
        left = b.left;
        whole = b.whole;
        texts = (λ i. a.texts i ++ b.texts i) ∙ sym (append_assoc (texts_of a.run) (texts_of b.before) b.part)
            ∙ ap (λ (t : List ℕ). t ++ b.part) (sym (texts_append a.run b.before));
        cut = subst (λ (k : CommandList). CutsReply C t k fault b.last.reply b.last.accepted b.part b.left) (led h a.run b.before) b.cut;
      }

  comes_append : (h : CommandList) (s t : DeskState File) (ms ns : List WireMessage) (sent more : List ℕ) (fault : Option ServeFault) (a : Whole C h s ms sent)
      → Comes C (followed_by h (accepted_in a.run)) t ns more fault → Comes C h t (ms ++ ns) (sent ++ more) fault
  comes_append h s t ms ns sent more None a b = whole_whole h s t ms ns sent more a b
  comes_append h s t ms ns sent more (Some fault) a b = whole_broken h s t ms ns sent more fault a b

  answers_nil : (s : DeskState File) (out : Option (List ℕ)) → Answers C s s out out [] None
  answers_nil s out h premise stands = ([], Appends-nil out, whole_nil h s stands)

  answers_append : (s t u : DeskState File) (a b c : Option (List ℕ)) (ms ns : List WireMessage) (fault : Option ServeFault)
      → Answers C s t a b ms None → (C.premise u → C.premise t) → Answers C t u b c ns fault → Answers C s u a c (ms ++ ns) fault
  answers_append s t u a b c ms ns fault first worn second h premise stands =
      let before = first h (worn premise) stands in
      let after = second (followed_by h (accepted_in before.2.run)) premise before.2.stands in
      (before.0 ++ after.0, Appends-trans a b c before.0 after.0 before.1 after.1, comes_append h t u ms ns before.0 after.0 fault before.2 after.2)

-- ---- messages taken out of the inbox

pub takes_nil : (old : List ℕ) → Takes old [] old
takes_nil old fed given b = subst (λ (xs : List WireMessage). Begins fed xs old) (sym (append-nil given)) b

pub takes_more : (old middle new : List ℕ) (ms ns : List WireMessage) → Takes old ms middle → Takes middle ns new → Takes old (ms ++ ns) new
takes_more old middle new ms ns before step fed given b = grind (arith, append_assoc)

-- ---- a stopped desk

pub stays : {File : Type 0} (s : DeskState File) → s.is_stopped ≡ true → StaysStopped s s
stays s stopped = record { stopped = stopped; crash = λ file leaves. leaves; holds = λ file h holds. holds }

pub stays_on : {File : Type 0} (s t u : DeskState File) → (s.is_stopped ≡ true → StaysStopped s t) → (t.is_stopped ≡ true → StaysStopped t u) → s.is_stopped
    ≡ true → StaysStopped s u
stays_on s t u first second stopped =
    let a = first stopped in
    let b = second a.stopped in
    record { stopped = b.stopped; crash = λ file leaves. a.crash file (b.crash file leaves); holds = λ file h holds. b.holds file h (a.holds file h holds) }

-- ---- what a function did

pub serves_nil : {File : Type 0} (interface : Interface) (s : DeskState File) (out : Option (List ℕ)) → Serves interface s s out out [] None
serves_nil interface s out = record {
  clean = λ clean. clean;
  by_machine = answers_nil _ (running _ interface) s out;
  by_stopped = answers_nil _ (stopped _) s out;
  stays = stays s;
}

pub serves_append : {File : Type 0} (interface : Interface) (s t u : DeskState File) (a b c : Option (List ℕ)) (ms ns : List WireMessage)
    (fault : Option ServeFault)
    → Serves interface s t a b ms None → Serves interface t u b c ns fault → Serves interface s u a c (ms ++ ns) fault
serves_append interface s t u a b c ms ns fault first second = record {
  clean = λ clean. first.clean (second.clean clean);
  by_machine = answers_append _ (running _ interface) s t u a b c ms ns fault first.by_machine second.clean second.by_machine;
  by_stopped = answers_append _ (stopped _) s t u a b c ms ns fault first.by_stopped (λ none. none) second.by_stopped;
  stays = stays_on s t u first.stays second.stays;
}
