-- A command inside a change, from what was read and what was written.
use Rattle.desk_commands.proofs.Common.{◌≡◌, true, Some, None, Result, Ok, arith, State, HasCleanDisk, Finds, Makes, Wears, Sees, command_reply, CommandList}
use Rattle.desk_commands.proofs.Common.{Command, Records, records, step_records, IsValid, check, reply_of, Refusal, HoldsLedger, ledger_of, are_sorted}
use Rattle.rollout_model.specs.declared.request.Reply.{Reply}
use Rattle.desk_commands.specs.Steps.{Steps}
use Rattle.desk_commands.specs.declared.step.Step.TheVariants as step

module _ {command : Command} {F : Type 0} where
  -- by what the list says too
  pub refused_at : {A E : Type 0} {a b : State} {x : A} {P : Records → A → Type 0} {refusal : Refusal} → Finds HoldsLedger ledger_of {E = E} a b (Ok x) P
      → ((h : CommandList) → IsValid h → P (records h) x → check (records h) command ≡ Some refusal)
      → Steps {E = F} a b command (Ok (step.Refused refusal))
  refused_at read means = record { wears = read.wears; steps = λ h valid was clean. means h valid ((read.finds (records h) was).1 clean) }

  pub refused : {A E : Type 0} {a b : State} {x : A} {P : Records → A → Type 0} {refusal : Refusal} → Finds HoldsLedger ledger_of {E = E} a b (Ok x) P
      → ((r : Records) → P r x → check r command ≡ Some refusal) → Steps {E = F} a b command (Ok (step.Refused refusal))
  refused read means = refused_at read (λ h valid. means (records h))

  module _ {A E G : Type 0} {a b c : State} {x : A} {P : Records → A → Type 0} (read : Finds HoldsLedger ledger_of {E = E} a b (Ok x) P)
      (W : Records → Records → Type 0) where
    pub accepted_at : ((h : CommandList) → IsValid h → P (records h) x → W (records h) (step_records (records h) command))
        → Makes HoldsLedger ledger_of {A = Unit {0}} {E = G} b c (Ok tt) W → (reply : Reply)
        → ((h : CommandList) → IsValid h → P (records h) x → (check (records h) command ≡ None)
        × (reply_of reply ≡ command_reply command (step_records (records h) command))) → Steps {E = F} a c command (Ok (step.Accepted reply))
    accepted_at writes write reply means = grind arith

    pub accepted : ((r : Records) → P r x → W r (step_records r command)) → Makes HoldsLedger ledger_of {A = Unit {0}} {E = G} b c (Ok tt) W → (reply : Reply)
        → ((r : Records) → P r x → (check r command ≡ None) × (reply_of reply ≡ command_reply command (step_records r command)))
        → Steps {E = F} a c command (Ok (step.Accepted reply))
    accepted writes write reply means = accepted_at (λ h valid. writes (records h)) write reply (λ h valid. means (records h))

-- ---- records keep their targets in byte order

abbrev pub InOrder : (Records → Records → Type 0) → Records → Records → Type 0
InOrder W r next = (are_sorted r.targets ≡ true) × W r next

sorted_now : (a b : State) → HasCleanDisk b → Wears a b → (now : Records) → Sees HoldsLedger a (ledger_of now) → are_sorted now.targets ≡ true
sorted_now a b clean wears now was = (was.sees (omega (arith, clean, wears))).now_holds.sorted

-- a write may take it that the order is kept
pub in_order : {A E : Type 0} {a b : State} (W : Records → Records → Type 0) (out : Result A E) → Makes HoldsLedger ledger_of a b out (InOrder W)
    → Makes HoldsLedger ledger_of a b out W
in_order h0 out h = grind (arith, sorted_now)
