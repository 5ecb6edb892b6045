-- What answers are, by what is asked, and which refusals they can have.
use native.Mathlib.Omega.{arith}
use Rattle.rollout_machine.proofs.Common.{◌≡◌, Bool, Some, None, refl, ap, query_reply, command_reply, CommandList, Make, ◌▸◌, Command, step_records}
use Rattle.rollout_machine.proofs.Common.{command_answer, Refused, Query, Do, Ask, Asks, IsValid, verdict, Refusal}
use Rattle.rollout_machine.specs.Answers.{answer}
use Rattle.rollout_machine.specs.Records.{records}
use Rattle.rollout_machine.specs.Requests.{Rejected}
use Rattle.rollout_machine.proofs.Main.{records_step}
use Rattle.rollout_machine.proofs.RecordRuns.{no_records}

-- ---- what is asked, one by one

pub rejected_answer : (h : CommandList) (refusal : Refusal) → answer h (Rejected refusal) ≡ record { reply = Refused refusal; accepted = None }
unfolding answer
rejected_answer h refusal = refl

pub query_answer : (h : CommandList) (query : Query) → answer h (Asks (Ask query)) ≡ record { reply = query_reply (records h) query; accepted = None }
unfolding answer
query_answer h query = refl

pub refused_answer : (h : CommandList) (c : Command) (refusal : Refusal) → verdict h c ≡ Some refusal → answer h (Asks (Do c))
    ≡ record { reply = Refused refusal; accepted = None }
unfolding answer
refused_answer h c refusal refused = ap (command_answer h c) refused

pub accepted_answer : (h : CommandList) (c : Command) → verdict h c ≡ None → answer h (Asks (Do c))
    ≡ record { reply = command_reply c (records (h ▸ c)); accepted = Some c }
unfolding answer
accepted_answer h c accepted = ap (command_answer h c) accepted

-- the reply by one step of the records
pub accepted_step : (h : CommandList) (c : Command) → IsValid h → verdict h c ≡ None → answer h (Asks (Do c))
    ≡ record { reply = command_reply c (step_records (records h) c); accepted = Some c }
accepted_step h c valid accepted = grind (arith, accepted_answer, records_step)

pub made_records : (approval : Bool) → records (Make approval) ≡ no_records approval
unfolding records
made_records approval = refl
