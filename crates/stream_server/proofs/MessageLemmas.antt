-- One message, from what the desk answered and from how much of the reply was written.
use Rattle.stream_server.proofs.Common.{◌≡◌, ℕ, Bool, true, inl, List, [], ◌∷◌, Option, Some, None, refl, sym, append-nil, WireMessage, Refusal}
use Rattle.stream_server.proofs.Common.{StoreFailed, Stopped, CommandList, Reply, Refused, DeskState, StandsFor, Applies, StaysStopped, Interface, ServeFault}
use Rattle.stream_server.proofs.Common.{reading, Conduct, running, stopped, Answers, GivesReply, Serves}
use Rattle.http_wire.specs.Replies.{refusal_text}
use Rattle.stream_server.specs.declared.served.ServeFault.TheVariants as serve_fault
use Rattle.stream_server.specs.Interfaces.{reply_text}
use Rattle.stream_server.proofs.AskLemmas.{by_machine}
use Rattle.stream_server.proofs.PartLemmas.{AnswersOne, whole_one, broken_one}

-- whatever was asked
pub refused_text : (m : WireMessage) (refusal : Refusal) → reply_text m (Refused refusal) ≡ refusal_text refusal
unfolding reply_text refusal_text
refused_text m refusal = refl

module _ (File : Type 0) (C : Conduct File) (old new : DeskState File) (m : WireMessage) (reply : Reply)
    (answered : (h : CommandList) → C.premise new → C.stands old h → AnswersOne C h new m reply) where
  answers_reply : (a b : Option (List ℕ)) (failed : Bool) (fault : Option ServeFault) → GivesReply a b (reply_text m reply) reply failed fault
      → Answers C old new a b (m ∷ []) fault
  answers_reply a b failed None given h premise stands =
      (reply_text m reply, given.0, whole_one File C h new m reply (answered h premise stands) given.1)
  answers_reply a b failed (Some serve_fault.Read) given h premise stands = absurd given
  answers_reply a b failed (Some serve_fault.Write) given h premise stands =
      let is = answered h premise stands in
      (given.1, given.4, broken_one File C h new m reply is.accepted given.1 given.2 serve_fault.Write is.answers given.3 is.goes_to)
  answers_reply a b failed (Some serve_fault.Store) given h premise stands =
      let is = answered h premise stands in (
        reply_text m reply,
        given.0,
        broken_one File C h new m reply is.accepted (reply_text m reply) [] serve_fault.Store is.answers
            (sym (append-nil (reply_text m reply))) (is.goes_to.in_doubt given.1, inl (given.1, refl)),
      )
  answers_reply a b failed (Some serve_fault.Memory) given h premise stands =
      let is = answered h premise stands in (
        [],
        given.1,
        broken_one File C h new m reply is.accepted [] (reply_text m reply) serve_fault.Memory is.answers refl
            (is.goes_to.stands given.0, inl refl),
      )

-- what is known of a desk that answered a message
pub record HasAnswered {File : Type 0} (interface : Interface) (old new : DeskState File) (m : WireMessage) (reply : Reply) : Type 0 where
  pub clean : new.is_clean → old.is_clean
  pub applies : Applies old new (reading interface m) reply
  pub stopped : old.is_stopped ≡ true → (reply ≡ Refused Stopped) × StaysStopped old new

module _ (File : Type 0) (interface : Interface) (old new : DeskState File) (m : WireMessage) (reply : Reply)
    (has : HasAnswered interface old new m reply) where
  of_machine : (h : CommandList) → new.is_clean → StandsFor old h → AnswersOne (running File interface) h new m reply
  of_machine h clean stands =
      let at = has.applies h clean stands in
      record {
        accepted = at.accepted;
        answers = by_machine interface h m reply at.accepted stands.valid at.answers;
        goes_to = record { in_doubt = at.becomes.in_doubt; stands = at.becomes.stands };
      }

  of_stopped : (h : CommandList) → Unit {0} → old.is_stopped ≡ true → AnswersOne (stopped File) h new m reply
  of_stopped h none over =
      let at = has.stopped over in
      record {
        accepted = None;
        answers = (at.0, refl);
        goes_to =
            record { in_doubt = λ e. let no : Refused Stopped ≡ Refused StoreFailed = cc (at.0, e) in cc; stands = λ goes. at.1.stopped };
      }

  pub serves_reply : (a b : Option (List ℕ)) (failed : Bool) (fault : Option ServeFault) → GivesReply a b (reply_text m reply) reply failed fault
      → Serves interface old new a b (m ∷ []) fault
  serves_reply a b failed fault given = record {
    clean = has.clean;
    by_machine = answers_reply File (running File interface) old new m reply of_machine a b failed fault given;
    by_stopped = answers_reply File (stopped File) old new m reply of_stopped a b failed fault given;
    stays = λ over. (has.stopped over).1;
  }
