-- Why a request's failed store is a call that failed: what was blamed inside its change, and how the change ended.
use Rattle.rollout_desk.proofs.Common.{◌≡◌, ◌≢◌, ◌≤◌, ◌⊎◌, Bool, false, Option, None, Ok, refl, sym, subst, ap, ◌∙◌, arith, state}
use Rattle.rollout_desk.proofs.Common.{Ghosts, State, HasCleanDisk, Begins, Sees, Wears, Fault, rest_shows, HoldsLedger, HoldsRecords, Ledger}
use Rattle.rollout_desk.proofs.Common.{ledger_of, Calls, Answer, answer, CommandList, Command, records, Reply, Refused, Refusal, Request, Do, Ask, Query}
use Rattle.rollout_desk.proofs.Common.{Asks, reply_of, query_answer, refused_answer, accepted_step, IsValid, StandsFor, StoreFailed, Broken}
use Rattle.rollout_desk.proofs.Common.{answer_never_stores, refusal_of_fault, desk_state_at, Store}
use Rattle.rollout_model.specs.declared.request.Reply as model
use Rattle.desk_commands.specs.Steps.{Steps}
use Rattle.desk_commands.specs.declared.step.Step.TheVariants as step
use Rattle.desk_reads.specs.AtLists.{IsOfList}
use Rattle.desk_store.specs.Failing.{ReadableAs}
use Rattle.rollout_desk.specs.Looks.{Looked}
use Rattle.rollout_desk.specs.Sizes.{ReadsAnswer}
use Rattle.desk_reads.specs.Counted.{AreCounted}
use Rattle.desk_verify.proofs.ReadableRecords.{readable}
use Rattle.desk_store.specs.Blaming.{HasFailed}
use Rattle.desk_store.specs.Changing.{seen_in}
use Rattle.sql_calls.specs.Calls.{Grows, failures_of}
use Rattle.desk_store.specs.Breaking.{HasReason}
use Rattle.desk_store.specs.Readable.{IsReadable}
use Rattle.rollout_desk.specs.Causes.{FailsByCall, FailsByCalls, FailsHandingByCall}
use Rattle.rollout_desk.specs.DeskStates.{desk_state}
use Rattle.rollout_desk.specs.declared.desk.Desk.{Desk}
use Rattle.request_handler.specs.Failures.{HasCause, HasCauseHanding}
use Rattle.request_handler.specs.declared.download.Download.{Download}
use Rattle.sqlite_rules.proofs.ListLemmas.{all_has}
use Rattle.rollout_desk.specs.Desks.{Known, desk_state_knowing}
use Rattle.rollout_desk.proofs.ApplyLemmas.{stood}
use Rattle.rollout_desk.proofs.KnowingLemmas.{unknowing}
use Rattle.rollout_desk.proofs.VerifyLemmas.{failed_within, stored}

-- the machine never answers so
pub never_answered : (h : CommandList) (request : Request) (made : Reply) (accepted : Option Command) → record { reply = made; accepted = accepted }
    ≡ answer h (Asks request) → made ≢ Refused StoreFailed
never_answered h request made accepted is failed = answer_never_stores h request (ap (λ (a : Answer). a.reply) (sym is) ∙ failed)

-- the fault of a reply that says that the store failed
pub told_reply : (fault : Fault) (made : Reply) → made ≡ Refused (refusal_of_fault fault) → made ≡ Refused StoreFailed → (fault ≡ Store) ⊎ (fault ≡ Broken)
told_reply fault made named is = stored fault (let told : Refused (refusal_of_fault fault) ≡ Refused StoreFailed = sym named ∙ is in cc)

module _ {S : Type 0} (g : Ghosts S) (old : Calls S) (begun read : Calls S) (end : Calls S)
    (begins : Begins HoldsLedger (state g old.conn) (seen_in g begun))
    (wears : Wears (seen_in g read) (state g end.conn)) (grew : old.failures ≤ begun.failures)
    (rose : begun.failures ≤ read.failures) (ended : read.failures ≤ end.failures) where
  shown : (h : CommandList) → StandsFor (desk_state_at HoldsRecords false (state g old.conn)) h → Sees HoldsLedger (seen_in g begun) (ledger_of (records h))
  shown h stands = begins.sees (ledger_of (records h)) (rest_shows HoldsLedger (state g old.conn) _ (stood (state g old.conn) h stands))

  -- a fault inside, told by what was made of it
  pub failed_inside : {R : Type 0} {store : R} (Given : Ledger → Type 0) (fault : Fault) (made reply : R) → (made ≡ store → (fault ≡ Store) ⊎ (fault ≡ Broken))
      → Grows (failures_of fault) begun read
      → ((l : Ledger) → Sees HoldsLedger (seen_in g begun) l → Given l → HasReason (seen_in g read) ⊥ fault)
      → ((h : CommandList) → IsValid h → IsReadable (ledger_of (records h)) → AreCounted (records h) → Given (ledger_of (records h)))
      → (reply ≡ made) ⊎ HasFailed read.failures end.failures → reply ≡ store → FailsByCalls g old end
  failed_inside h0 fault made reply named grows breaks given h8 is h clean counted stands = grind (arith, failed_within, shown, readable)

  -- what was made tells of no fault
  pub well_inside : {R : Type 0} {store : R} (made reply : R)
      → ((h : CommandList) → IsValid h → Sees HoldsLedger (seen_in g begun) (ledger_of (records h)) → HasCleanDisk (seen_in g read) → made ≢ store)
      → (reply ≡ made) ⊎ HasFailed read.failures end.failures → reply ≡ store → FailsByCalls g old end
  well_inside made reply never h3 is h clean counted stands = grind (arith, failed_within, shown)

-- ---- replies that the machine gives

module _ {E : Type 0} {b c : State} (h : CommandList) (valid : IsValid h) (seen : Sees HoldsLedger b (ledger_of (records h))) (clean : HasCleanDisk c) where
  pub refused_never : (command : Command) (refusal : Refusal) → Steps {E = E} b c command (Ok (step.Refused refusal)) → Refused refusal ≢ Refused StoreFailed
  refused_never command refusal steps =
      never_answered h (Do command) (Refused refusal) None (sym (refused_answer h command refusal (steps.steps h valid seen clean)))

  pub accepted_never : (command : Command) (rust : model.Reply) → Steps {E = E} b c command (Ok (step.Accepted rust)) → reply_of rust ≢ Refused StoreFailed
  accepted_never command rust steps = grind (arith, never_answered, accepted_step)

-- a query's answer at the list that the desk stood for
module _ {S : Type 0} (g : Ghosts S) {old new : Calls S} (query : Query) (rust : model.Reply) (it : Looked g (ReadsAnswer g query) old new (Ok rust)) where
  pub query_found : (h : CommandList) → StandsFor (desk_state_at HoldsRecords false (state g old.conn)) h → HasCleanDisk (state g new.conn)
      → record { reply = reply_of rust; accepted = None } ≡ answer h (Asks (Ask query))
  query_found h was clean = grind (arith, rest_shows, stood, query_answer)

  -- the machine never answers so
  pub query_never : reply_of rust ≡ Refused StoreFailed → FailsByCalls g old new
  query_never is h clean counted was = absurd (never_answered h (Ask query) (reply_of rust) None (query_found h was clean) is)

-- of a list's records
pub of_list : (h : CommandList) → IsValid h → AreCounted (records h) → ReadableAs IsOfList (ledger_of (records h))
of_list h valid counted = record { readable = readable h valid counted; given = record { list = h; valid = valid; is = refl } }

-- a desk that isn't stopped stands by its connection
pub stands_running : (s : State) (known : Known) (was : Bool) (h : CommandList) → was ≡ false → StandsFor (desk_state_knowing HoldsRecords known was s) h
    → StandsFor (desk_state_at HoldsRecords false s) h
stands_running s known was h runs stands =
    subst (λ (b : Bool). StandsFor (desk_state_at HoldsRecords b s) h) runs (unknowing HoldsRecords known was s h stands)

-- ---- what the server calls

-- the cause that a desk tells is the one that whoever serves it knows of
pub caused : {S : Type 0} (g : Ghosts S) (old new : Desk S) → FailsByCall g old new
    → HasCause (desk_state g old) (desk_state g new) old.store.calls.failures new.store.calls.failures
caused g old new fails = λ h is_clean all stands. fails h is_clean (record { few = λ a has. all_has _ (records h).actions a all has }) stands

pub caused_handing : {S : Type 0} (g : Ghosts S) (p : Download) (old new : Desk S) → FailsHandingByCall g p old new
    → HasCauseHanding p (desk_state g old) (desk_state g new) old.store.calls.failures new.store.calls.failures
caused_handing g p old new fails = λ h contents is_clean all stands sends.
    fails h contents is_clean (record { few = λ a has. all_has _ (records h).actions a all has }) stands sends
