-- How a desk conducts itself in a call, whatever its tables hold.
use Rattle.std.specs.Prelude.{◌≡◌, ◌≢◌, Bool, true, false, map, Contains, Result, Ok, Err, Vec, MatchResult}
use Rattle.std.specs.declared.alloc.Global.{Global}
use Rattle.sqlite.specs.Store.{Ghosts}
use Rattle.request_handler.specs.declared.download.Download.{Download}
use Rattle.rollout_machine.specs.Replies.{Reply, Refused}
use Rattle.rollout_machine.specs.Requests.{Asks, Request}
use Rattle.rollout_machine.specs.Standing.{Applies, StaysStopped}
use Rattle.rollout_machine.specs.StoreFailures.{is_failed_store}
use Rattle.rollout_machine.specs.Views.{reply_of}
use Rattle.rollout_model.specs.declared.refusal.Refusal.{Refusal}
use Rattle.rollout_model.specs.declared.refusal.Refusal.TheVariants.{Stopped, StoreFailed}
use Rattle.rollout_model.specs.declared.request.Reply as model
use Rattle.desk_verify.specs.declared.damage.Damage.{Damage}
use Rattle.desk_verify.specs.declared.damage.Damage.TheVariants as damage
use Rattle.rollout_desk.specs.Causes.{FailsByCall, FailsHandingByCall}
use Rattle.rollout_desk.specs.DeskStates.{desk_state}
use Rattle.rollout_desk.specs.Verifying.{HasCause, tells_damage}
use Rattle.rollout_desk.specs.Working.{TellsFailures, tells_store}
use Rattle.rollout_desk.specs.declared.desk.Desk.{Desk}

-- what a call says: by what it is refused, and whether that is a failed store
pub record Saying : Type 1 where
  pub refuses : Refusal → Type 0
  pub is_store : Bool

abbrev pub in_reply : Reply → Saying
in_reply reply = record { refuses = λ refusal. reply ≡ Refused refusal; is_store = is_failed_store reply }

abbrev pub in_result : {A : Type 0} → Result A Refusal → Saying
in_result result = record { refuses = λ refusal. result ≡ Err refusal; is_store = tells_store result }

abbrev pub in_download : {A : Type 0} → Result A model.Reply → Saying
in_download (Ok download) = record { refuses = λ refusal. ⊥; is_store = false }
in_download (Err reply) = in_reply (reply_of reply)

abbrev pub in_damage : Result (Unit {0}) Damage → Saying
in_damage found = record { refuses = λ refusal. found ≡ Err (damage.Refused refusal); is_store = tells_damage found }

module _ {S : Type 0} (g : Ghosts S) where
  -- What a failed store makes of a desk, and why one is told. A stopped desk refuses, and stays as it is.
  pub record Behaves (old new : Desk S) (says : Saying) (Cause : Type 0) : Type 0 where
    -- a disk that has lied isn't clean again
    pub clean : (desk_state g new).is_clean → (desk_state g old).is_clean
    pub stops : says.refuses StoreFailed → (desk_state g new).is_stopped ≡ true
    pub fails : says.refuses StoreFailed → Cause
    pub tells : TellsFailures says.is_store old.store.calls new.store.calls
    pub stopped : (desk_state g old).is_stopped ≡ true → says.refuses Stopped × StaysStopped (desk_state g old) (desk_state g new)
    pub untouched : (desk_state g old).is_stopped ≡ true → new.store ≡ old.store

  abbrev pub BehavesReplying : Desk S → Desk S → Reply → Type 0
  BehavesReplying old new reply = Behaves old new (in_reply reply) (FailsByCall g old new)

  abbrev pub BehavesBeginning : Desk S → Desk S → Result Download model.Reply → Type 0
  BehavesBeginning old new result = Behaves old new (in_download result) (FailsByCall g old new)

  abbrev pub BehavesHanding : {A : Type 0} → Desk S → Desk S → Download → Result A Refusal → Type 0
  BehavesHanding old new p result = Behaves old new (in_result result) (FailsHandingByCall g p old new)

  abbrev pub BehavesVerifying : Desk S → Desk S → Result (Unit {0}) Damage → Type 0
  BehavesVerifying old new found = Behaves old new (in_damage found) (HasCause g old.store.calls new.store.calls)

  -- The same of a run that tells of a failed store in a reply, and never refuses by it.
  pub record BehavesRunning (old new : Desk S) (result : Result (Vec model.Reply Global) Refusal) : Type 0 where
    pub clean : (desk_state g new).is_clean → (desk_state g old).is_clean
    pub stops : MatchResult result (λ replies. Contains (map reply_of replies.items) (Refused StoreFailed) → (desk_state g new).is_stopped ≡ true)
        (λ refusal. refusal ≢ StoreFailed)
    pub stopped : (desk_state g old).is_stopped ≡ true → (result ≡ Err Stopped) × StaysStopped (desk_state g old) (desk_state g new)
    pub untouched : (desk_state g old).is_stopped ≡ true → new.store ≡ old.store

  -- one request is answered, at whatever list the desk stands for
  abbrev pub Answers : Desk S → Desk S → Request → Reply → Type 0
  Answers old new request reply = Applies (desk_state g old) (desk_state g new) (Asks request) reply
