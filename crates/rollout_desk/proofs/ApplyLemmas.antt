-- From the calls of the store to one request of a desk.
use Rattle.rollout_desk.proofs.Common.{◌≡◌, ◌≢◌, ◌⊎◌, inl, inr, Bool, false, Option, Some, None, Ok, refl, sym, subst, ap, ◌∙◌, arith}
use Rattle.rollout_desk.proofs.Common.{Trees, State, HasCleanDisk, HoldIn, IsAtRest, Rests, Doubts, Begins, Keeps, Opens, Sees, Spoiled, Wears, Answer, answer}
use Rattle.rollout_desk.proofs.Common.{CommandList, ◌▸◌, followed_by, Command, Records, records, step_records, Reply, Refused, Request, Do, Asks, one}
use Rattle.rollout_desk.proofs.Common.{StandsFor, Becomes, AppliesAt, IsValid, reply_of, refused_answer, accepted_step, records_step, answer_never_stores}
use Rattle.rollout_desk.proofs.Common.{failed_true, Refusal, StoreFailed, NoMemory, HoldsList, desk_state_at, rest_shows, Fault, is_failed_store}
use Rattle.rollout_desk.proofs.Common.{refusal_of_fault, Handles, EndsByCommit, EndsByRollback, HoldsLedger, HoldsRecords, Ledger, ledger_of, HoldsReadable}
use Rattle.rollout_model.specs.declared.request.Reply as model
use Rattle.rollout_machine.specs.CommandRules.{IsWellFormed}
use Rattle.rollout_machine.specs.Verdicts.{check}
use Rattle.desk_commands.specs.Steps.{Steps}
use Rattle.desk_commands.specs.declared.step.Step.TheVariants as step
use Rattle.desk_records.proofs.Readable.{newest_is_readable}

-- ---- the reply of a failed store

not_failed : (reply : Reply) → reply ≢ Refused StoreFailed → is_failed_store reply ≡ false
not_failed reply never = grind (arith, failed_true reply)

-- the reply of a fault
abbrev pub IsFailure : Reply → Type 0
IsFailure reply = (reply ≡ Refused NoMemory) ⊎ (reply ≡ Refused StoreFailed)

pub fault_fails : (fault : Fault) (reply : Reply) → reply ≡ Refused (refusal_of_fault fault) → IsFailure reply
fault_fails fault reply is = grind arith

-- what the desk keeps is read again
pub readable : (db : Trees) (r : Records) → HoldIn HoldsRecords db r → HoldIn HoldsReadable db r
readable db r (schema, holds) = (schema, newest_is_readable (record { schema = schema; trees = db }) r holds)

pub stands : (s : State) (h : CommandList) → IsValid h → IsAtRest HoldsRecords s (records h) → StandsFor (desk_state_at HoldsRecords false s) h
stands s h valid rest = record { runs = refl; valid = valid; shows = rest; crash = λ db left. (valid, readable db (records h) (rest.held.crash db left)) }

-- ---- what the desk is after a reply

becomes_list : (s : State) (h : CommandList) (reply : Reply) (accepted : Option Command) → reply ≢ Refused StoreFailed
    → StandsFor (desk_state_at HoldsRecords false s) (followed_by h (one accepted)) → Becomes (desk_state_at HoldsRecords (is_failed_store reply) s) h reply
    accepted
becomes_list s h reply accepted never standing = record {
  in_doubt = λ failed. absurd (never failed);
  stands = λ other. subst (λ (b : Bool). StandsFor (desk_state_at HoldsRecords b s) (followed_by h (one accepted))) (sym (not_failed reply never)) standing;
}

module _ (h : CommandList) (valid : IsValid h) (s : State) (request : Request) (reply : Reply) where
  in_doubt : reply ≡ Refused StoreFailed
      → ((db : Trees) → s.may_leave db → HoldsList db h ⊎ HoldsList db (followed_by h (one (answer h (Asks request)).accepted)))
      → AppliesAt h (desk_state_at HoldsRecords (is_failed_store reply) s) (Asks request) reply
  in_doubt failed crash = record {
    accepted = (answer h (Asks request)).accepted;
    answers = inr (inl (failed, refl));
    becomes = record { in_doubt = λ is. record { stopped = ap is_failed_store failed; crash = crash }; stands = λ never. absurd (never failed) };
  }

  left_alone : reply ≡ Refused StoreFailed → ((db : Trees) → s.may_leave db → HoldIn HoldsRecords db (records h))
      → AppliesAt h (desk_state_at HoldsRecords (is_failed_store reply) s) (Asks request) reply
  left_alone failed crash = in_doubt failed (λ db left. inl (valid, readable db (records h) (crash db left)))

  without_memory : reply ≡ Refused NoMemory → IsAtRest HoldsRecords s (records h) → AppliesAt h (desk_state_at HoldsRecords (is_failed_store reply) s)
      (Asks request) reply
  without_memory is rest = record {
    accepted = None;
    answers = inl (is, refl);
    becomes = becomes_list s h reply None (λ failed. absurd cc) (stands s h valid rest);
  }

  failed : IsFailure reply → IsAtRest HoldsRecords s (records h) → AppliesAt h (desk_state_at HoldsRecords (is_failed_store reply) s) (Asks request) reply
  failed h0 rest = grind (arith, without_memory, left_alone)

  pub answered : (accepted : Option Command) → record { reply = reply; accepted = accepted } ≡ answer h (Asks request)
      → StandsFor (desk_state_at HoldsRecords false s) (followed_by h (one accepted)) → AppliesAt h (desk_state_at HoldsRecords (is_failed_store reply) s)
      (Asks request) reply
  answered accepted is standing = grind (arith, failed, answer_never_stores, accepted, becomes_list)

-- ---- what stands, said of records and of the ledger that they are kept in

pub rests_ledger : (s : State) (r : Records) → Rests HoldsRecords s r → Rests HoldsLedger s (ledger_of r)
rests_ledger s r was clean = grind arith

pub rests_records : (s : State) (r : Records) → Rests HoldsLedger s (ledger_of r) → Rests HoldsRecords s r
rests_records s r was clean = grind arith

pub stood : (s : State) (h : CommandList) → StandsFor (desk_state_at HoldsRecords false s) h → Rests HoldsLedger s (ledger_of (records h))
stood s h was = rests_ledger s (records h) (λ clean. was.shows)

-- ---- no change begins

pub unbegun : (a b : State) (request : Request) (reply : Reply) → Keeps HoldsLedger a b → IsFailure reply → Handles HoldsRecords a b request reply
unbegun a b request reply keeps bad = grind (arith, failed, rests_records, stood)

module _ (a b : State) (begins : Begins HoldsLedger a b) (c d : State) where
  seen : (h : CommandList) → StandsFor (desk_state_at HoldsRecords false a) h → Sees HoldsLedger b (ledger_of (records h))
  seen h was = begins.sees (ledger_of (records h)) (rest_shows HoldsLedger a _ (stood a h was))

  opened : (h : CommandList) → StandsFor (desk_state_at HoldsRecords false a) h → Opens HoldsLedger b (ledger_of (records h))
  opened h was = begins.opens (ledger_of (records h)) (stood a h was)

  -- what a call inside leaves can be given up
  abbrev pub LeavesSpoiled : Type 0
  LeavesSpoiled = (kept : Ledger) → Opens HoldsLedger b kept → Spoiled HoldsLedger c kept

  -- ---- a change that is given up

  module _ (request : Request) (made : Reply) (wears : Wears b c) (leaves : LeavesSpoiled) where
    lost_alone : (h : CommandList) (reply : Reply) → HasCleanDisk d → StandsFor (desk_state_at HoldsRecords false a) h → reply ≡ Refused StoreFailed
        → ((kept : Ledger) → Spoiled HoldsLedger c kept → Doubts HoldsLedger d kept kept) → AppliesAt h (desk_state_at HoldsRecords (is_failed_store reply) d)
        (Asks request) reply
    lost_alone h reply clean was is doubts =
        left_alone h was.valid d request reply is (λ db left. elim ((doubts _ (leaves _ (opened h was)) clean).crash db left) [ inl one ↦ one | inr one ↦ one ])

    -- what was found inside is the answer, and nothing is accepted
    pub found : (Says : Records → Type 0)
        → ((h : CommandList) → IsValid h → Says (records h) → record { reply = made; accepted = None } ≡ answer h (Asks request))
        → ((h : CommandList) → IsValid h → Sees HoldsLedger b (ledger_of (records h)) → HasCleanDisk c → Says (records h)) → (reply : Reply)
        → EndsByRollback c d made reply → Handles HoldsRecords a d request reply
    found Says means says reply ends = record {
      wears = omega (arith, begins.wears, wears, ends.wears);
      handles = λ h clean was. elim ends.ends [
        | inl it ↦ answered h was.valid d request reply None (ap (λ (x : Reply). record { reply = x; accepted = None }) it.0
            ∙ means h was.valid (says h was.valid (seen h was) (omega (arith, clean, ends.wears))))
            (stands d h was.valid (rests_records d (records h) (it.1 _ (leaves _ (opened h was))) clean))
        | inr it ↦ lost_alone h reply clean was it.0 it.1
      ];
    }

    -- something failed inside
    pub lost : IsFailure made → (reply : Reply) → EndsByRollback c d made reply → Handles HoldsRecords a d request reply
    lost bad reply ends = record {
      wears = omega (arith, begins.wears, wears, ends.wears);
      handles = λ h clean was. elim ends.ends [
        | inl it ↦ failed h was.valid d request reply (subst IsFailure (sym it.0) bad) (rests_records d (records h) (it.1 _ (leaves _ (opened h was))) clean)
        | inr it ↦ lost_alone h reply clean was it.0 it.1
      ];
    }

  -- a call inside went well
  abbrev GoesOn : Type 0
  GoesOn = (kept : Ledger) → Opens HoldsLedger b kept → Opens HoldsLedger c kept

  -- ---- a command

  module _ (command : Command) where
    pub refused : {E : Type 0} (refusal : Refusal) → GoesOn → Steps {E = E} b c command (Ok (step.Refused refusal)) → (reply : Reply)
        → EndsByRollback c d (Refused refusal) reply → Handles HoldsRecords a d (Do command) reply
    refused refusal goes steps = found (Do command) (Refused refusal) steps.wears (λ kept was. (goes kept was).spoiled)
        (λ (r : Records). check r command ≡ Some refusal)
        (λ h valid is. sym (refused_answer h command refusal is)) steps.steps

    pub broken : (made : Reply) → LeavesSpoiled → Wears b c → IsFailure made → (reply : Reply) → EndsByRollback c d made reply
        → Handles HoldsRecords a d (Do command) reply
    broken made leaves wears = lost (Do command) made wears leaves

    pub accepted : {E : Type 0} → IsWellFormed command → (rust : model.Reply) → GoesOn → Steps {E = E} b c command (Ok (step.Accepted rust)) → (reply : Reply)
        → EndsByCommit c d (reply_of rust) reply → Handles HoldsRecords a d (Do command) reply
    accepted good rust goes steps reply ends = record {
      wears = omega (arith, begins.wears, steps.wears, ends.wears);
      handles = λ h clean was.
          let r = records h in
          let done = steps.steps h was.valid (seen h was) in
          let facts = done.1 (omega (arith, clean, ends.wears)) in
          let follows = records_step h command was.valid facts.0 in
          let longer : IsValid (h ▸ command) = (was.valid, good, facts.0) in
          let is = accepted_step h command was.valid facts.0 in
          elim ends.ends [
            | inl it ↦ answered h was.valid d (Do command) reply (Some command)
                (ap (λ (x : Reply). record { reply = x; accepted = Some command }) (it.0 ∙ facts.1) ∙ sym is)
                (stands d (h ▸ command) longer (subst (IsAtRest HoldsRecords d) (sym follows) (rests_records d (step_records r command) (it.1 _ done.0) clean)))
            | inr it ↦ in_doubt h was.valid d (Do command) reply it.0 (λ db left. elim ((it.1 _ _ done.0 (goes _ (opened h was)).spoiled clean).crash db left) [
              | inl one ↦ inl (was.valid, readable db r one)
              | inr one ↦ inr (subst (λ (o : Option Command). HoldsList db (followed_by h (Rattle.std.specs.Option.option_to_list o)))
                  (sym (ap (λ (x : Answer). x.accepted) is)) (longer, readable db _ (subst (HoldIn HoldsRecords db) (sym follows) one)))
            ])
          ];
    }

-- ---- a look

module _ (a d : State) (request : Request) (wears : Wears a d) where
  -- what was found is the answer, and nothing is accepted
  pub shown : (made : Reply) → ((l : Ledger) → Rests HoldsLedger a l → Rests HoldsLedger d l)
      → ((h : CommandList) → StandsFor (desk_state_at HoldsRecords false a) h → HasCleanDisk d
      → record { reply = made; accepted = None } ≡ answer h (Asks request)) → Handles HoldsRecords a d request made
  shown made rests means = record {
    wears = wears;
    handles = λ h clean was. answered h was.valid d request made None (means h was clean)
        (stands d h was.valid (rests_records d (records h) (rests _ (stood a h was)) clean));
  }

  pub unshown : {Why : Type 0} (refusal : Refusal) → ((refusal ≡ NoMemory) × ((l : Ledger) → Rests HoldsLedger a l → Rests HoldsLedger d l))
      ⊎ ((refusal ≡ StoreFailed) × ((l : Ledger) → Rests HoldsLedger a l → Doubts HoldsLedger d l l) × Why) → Handles HoldsRecords a d request (Refused refusal)
  unshown refusal why = record {
    wears = wears;
    handles = λ h clean was. elim why [
      | inl none ↦ without_memory h was.valid d request (Refused refusal) (ap Refused none.0)
          (rests_records d (records h) (none.1 _ (stood a h was)) clean)
      | inr lost ↦ left_alone h was.valid d request (Refused refusal) (ap Refused lost.0)
          (λ db left. elim ((lost.1 _ (stood a h was) clean).crash db left) [ inl one ↦ one | inr one ↦ one ])
    ];
  }
