-- Answers of the machine: of a message that isn't read to a request, and at the list without its repeats.
use Rattle.stream_server.proofs.Common.{◌≡◌, ◌≢◌, ◌⊎◌, None, inl, inr, refl, sym, ap, ◌∙◌, Refusal, NoMemory, StoreFailed, CommandList, Asked, Rejected}
use Rattle.stream_server.proofs.Common.{arith, Refused, MayAnswer, DeskState, StandsFor, AppliesAt, Option, Command, Reply, Interface, WireMessage, reading}
use Rattle.rollout_machine.specs.Answers.{answer}
use Rattle.rollout_machine.specs.Repeats.{without_repeats}
use Rattle.rollout_machine.specs.Validity.{IsValid}
use Rattle.rollout_machine.proofs.Once.{repeats_leave_no_trace}
use Rattle.stream_server.specs.Run.{ByMachine}

rejected_answer : (h : CommandList) (r : Refusal) → record { reply = Refused r; accepted = None } ≡ answer h (Rejected r)
unfolding answer
rejected_answer h r = refl

may_refuse : (h : CommandList) (asked : Asked) (r : Refusal) → (r ≡ NoMemory) ⊎ (asked ≡ Rejected r) → r ≢ StoreFailed → MayAnswer h asked (Refused r) None
may_refuse h asked r why other = elim why [
  | inl memory ↦ inl (ap Refused memory, refl)
  | inr same ↦ inr (inr (λ e. other cc, rejected_answer h r ∙ sym (ap (answer h) same)))
]

-- the desk isn't touched
pub refuses : {File : Type 0} (s : DeskState File) (asked : Asked) (r : Refusal) → (r ≡ NoMemory) ⊎ (asked ≡ Rejected r) → r ≢ StoreFailed → (h : CommandList)
    → StandsFor s h
    → AppliesAt h s asked (Refused r)
refuses s asked r why other h stands = record {
  accepted = None;
  answers = may_refuse h asked r why other;
  becomes = record { in_doubt = λ e. absurd (other cc); stands = λ goes. stands };
}

-- what may be answered at a list of accepted commands may be at the list without its repeats
may_once : (h : CommandList) (asked : Asked) (reply : Reply) (accepted : Option Command) → IsValid h → MayAnswer h asked reply accepted
    → MayAnswer (without_repeats h) asked reply accepted
may_once h asked reply accepted valid may = grind (arith, repeats_leave_no_trace)

pub by_machine : (interface : Interface) (h : CommandList) (m : WireMessage) (reply : Reply) (accepted : Option Command) → IsValid h
    → MayAnswer h (reading interface m) reply accepted → ByMachine interface h m reply accepted
by_machine interface h m reply accepted valid may = record { answers = may; once = may_once h (reading interface m) reply accepted valid may }
