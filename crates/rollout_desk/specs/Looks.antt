-- A look at the records in a change of its own, which is given up.
use Rattle.std.specs.Prelude.{◌≡◌, ◌≢◌, ◌⊎◌, ℕ, false, length, List, Vec, Option, Some, None, Result, Ok, Err, IfOk, vec_items}
use Rattle.std.specs.declared.alloc.Global.{Global}
use Rattle.std.specs.Option.{option_map}
use Rattle.sqlite.specs.Effect.{Database}
use Rattle.sqlite.specs.Held.{state}
use Rattle.sqlite.specs.Store.{Ghosts}
use Rattle.sqlite.specs.State.{State, HasCleanDisk}
use Rattle.sql_calls.specs.Standing.{Begins, Wears, Spoiled, Rests, Doubts}
use Rattle.sql_calls.specs.declared.calls.Calls.{Calls}
use Rattle.sql_calls.specs.declared.fault.Fault.{Fault}
use Rattle.sql_calls.specs.declared.fault.Fault.TheVariants.{Broken}
use Rattle.rollout_machine.specs.CommandList.{CommandList}
use Rattle.rollout_machine.specs.Commands.{Bytes, Credential}
use Rattle.rollout_machine.specs.Records.{Records, records}
use Rattle.rollout_machine.specs.Replies.{ContentsShown, Refused}
use Rattle.rollout_machine.specs.Requests.{Ask, Asks, Download, Page}
use Rattle.rollout_machine.specs.Standing.{AppliesAt, StandsFor}
use Rattle.rollout_machine.specs.StoreFailures.{is_store}
use Rattle.rollout_model.specs.declared.artifact.Artifact.{Artifact}
use Rattle.rollout_model.specs.declared.refusal.Refusal.{Refusal}
use Rattle.rollout_model.specs.declared.shown_target.ShownTarget.{ShownTarget}
use Rattle.rollout_model.specs.declared.refusal.Refusal.TheVariants.{NoMemory, StoreFailed}
use Rattle.desk_records.specs.Holds.{HoldsLedger, HoldsRecords, Ledger}
use Rattle.desk_records.specs.Tables.{HoldsTables}
use Rattle.desk_store.specs.Blaming.{HasFailed}
use Rattle.desk_store.specs.Changing.{FindsIn, seen_in}
use Rattle.desk_store.specs.Failing.{FailsIn}
use Rattle.desk_store.specs.KeptOffers.{IsKeptAs}
use Rattle.desk_reads.specs.AtLists.{FailsAtListsIn}
use Rattle.desk_records.specs.Artifacts.{piece_numbered}
use Rattle.desk_records.specs.Targets.{ids_of}
use Rattle.desk_views.specs.Downloads.{downloadable}
use Rattle.desk_views.specs.Targets.{IsContentOf}
use Rattle.desk_views.specs.Sizes.{AgreesIn}
use Rattle.rollout_desk.specs.Causes.{FailsByCalls}
use Rattle.rollout_desk.specs.Sizes.{KeepsOffers}
use Rattle.rollout_desk.specs.Working.{TellsFailures, tells_store}
use Rattle.rollout_desk.specs.Desks.{desk_state_at}

-- the bytes of what was found
abbrev pub bytes_of : Option (Vec ℕ Global) → Option Bytes
bytes_of found = option_map vec_items found

-- the piece of this place of an artifact's contents was read, or why not
pub record ReadsPiece {S : Type 0} (g : Ghosts S) (number place : ℕ) (old new : Calls S) (result : Result (Option (Vec ℕ Global)) Fault) : Type 0 where
  pub reads : FindsIn g old new result (λ r found. bytes_of found ≡ piece_numbered r.artifacts number place)
  pub fails : FailsIn g old new result

-- the targets on a page of all were read, where these are the ids of all, or why not
pub record ReadsTargets {S : Type 0} (g : Ghosts S) (ids : List Bytes) (page : Page) (old new : Calls S) (result : Result (Vec ShownTarget Global) Fault) :
    Type 0 where
  pub reads : FindsIn g old new result (λ r content. ids ≡ ids_of r.targets → IsContentOf page r content.items)
  pub fails : FailsAtListsIn g old new result

-- these are a page of all targets, and the ids of all
abbrev pub HasPage : Page → Records → List ShownTarget → List Bytes → Type 0
HasPage page r content ids = (ids ≡ ids_of r.targets) × IsContentOf page r content

-- the targets on a page of all were read, and the ids of all, or why not
pub record ReadsWithIds {S : Type 0} (g : Ghosts S) (page : Page) (old new : Calls S) (result : Result (Vec ShownTarget Global × Vec Bytes Global) Fault) :
    Type 0 where
  pub reads : FindsIn g old new result (λ r found. HasPage page r found.0.items found.1.items)
  pub fails : FailsAtListsIn g old new result

-- the artifact that a device may download was read, or its refusal, or why not
pub record ReadsDownload {S : Type 0} (g : Ghosts S) (device : Credential) (m : ℕ) (filename : Bytes) (old new : Calls S)
    (result : Result (Result Artifact Refusal) Fault) : Type 0 where
  pub reads : FindsIn g old new result (λ r found. found ≡ downloadable r device m filename)
  pub fails : FailsAtListsIn g old new result
  pub kept : AgreesIn g old new result (λ t found. IfOk found (λ _. (action : ℕ) × IsKeptAs t device.id action))

-- what was found is no piece of this many bytes
abbrev pub IsOtherThan : ℕ → Result (Option (Vec ℕ Global)) Refusal → Type 0
IsOtherThan wanted (Ok (Some piece)) = length piece.items ≢ wanted
IsOtherThan wanted (Ok None) = Unit {0}
IsOtherThan wanted (Err refusal) = ⊥

-- the change is given up, and the result is what was found; or that failed
pub record EndsLook {A : Type 0} (old new : State) (found result : Result A Refusal) : Type 0 where
  pub wears : Wears old new
  pub ends : ((result ≡ found) × ((kept : Ledger) → Spoiled HoldsLedger old kept → Rests HoldsLedger new kept))
      ⊎ ((result ≡ Err StoreFailed) × ((kept : Ledger) → Spoiled HoldsLedger old kept → Doubts HoldsLedger new kept kept))

module _ {S : Type 0} (g : Ghosts S) {A : Type 0} (Finds : Calls S → Calls S → Result A Fault → Type 0) where
  -- a change was begun, this was found in it, and it was given up
  pub record FoundIn (old new : Calls S) (found : Result A Fault) : Type 0 where
    pub begun : Calls S
    pub read : Calls S
    pub begins : Begins HoldsLedger (state g old.conn) (seen_in g begun)
    pub tables : Begins HoldsTables (state g old.conn) (seen_in g begun)
    pub finds : Finds begun read found
    pub wears : Wears (seen_in g read) (state g new.conn)

  abbrev pub LookedTo : Calls S → Calls S → Result A Refusal → Type 0
  LookedTo old new (Ok a) = FoundIn old new (Ok a) × ((l : Ledger) → Rests HoldsLedger (state g old.conn) l → Rests HoldsLedger (state g new.conn) l)
  LookedTo old new (Err refusal) =
      ((refusal ≡ NoMemory) × ((l : Ledger) → Rests HoldsLedger (state g old.conn) l → Rests HoldsLedger (state g new.conn) l))
      ⊎ ((refusal ≡ StoreFailed) × ((l : Ledger) → Rests HoldsLedger (state g old.conn) l → Doubts HoldsLedger (state g new.conn) l l)
      × (HasFailed old.failures new.failures ⊎ FoundIn old new (Err Broken)))

  -- What was found, and what stood stands. Or memory was wanted, and it stands; or the store failed, and a crash leaves it: a call failed, or broken rows
  -- were found.
  pub record Looked (old new : Calls S) (result : Result A Refusal) : Type 0 where
    pub wears : Wears (state g old.conn) (state g new.conn)
    pub tells : TellsFailures (tells_store result) old new
    pub to : LookedTo old new result

module _ (Holds : Database → Records → Type 0) where
  abbrev pub LooksTo : {A : Type 0} → State → State → (Records → A → Type 0) → Result A Refusal → Type 0
  LooksTo old new Answer (Ok a) = (r : Records) → Rests Holds old r → Rests Holds new r × (HasCleanDisk new → Answer r a)
  LooksTo old new Answer (Err refusal) = ((refusal ≡ NoMemory) × ((r : Records) → Rests Holds old r → Rests Holds new r))
      ⊎ ((refusal ≡ StoreFailed) × ((r : Records) → Rests Holds old r → Doubts Holds new r r))

  -- What was found is what the records say, and they stand as before. Or memory was wanted, and they stand; or the store failed, and a
  -- crash leaves them.
  pub record Looks {A : Type 0} (old new : State) (result : Result A Refusal) (Answer : Records → A → Type 0) : Type 0 where
    pub wears : Wears old new
    pub looks : LooksTo old new Answer result

  -- The artifact that the device may download, at the list that the desk stands for; or the answer to its query is this refusal.
  abbrev pub FindsTo : State → State → Credential → ℕ → Bytes → Result Artifact Refusal → Type 0
  FindsTo old new device m filename (Ok a) =
      (h : CommandList) → HasCleanDisk new → StandsFor (desk_state_at Holds false old) h → StandsFor (desk_state_at Holds false new) h
      × (Ok a ≡ downloadable (records h) device m filename)
  FindsTo old new device m filename (Err refusal) =
      (h : CommandList) → HasCleanDisk new → StandsFor (desk_state_at Holds false old) h
      → AppliesAt h (desk_state_at Holds (is_store refusal) new) (Asks (Ask (Download device m filename))) (Refused refusal)

  pub record FindsDownload (old new : State) (device : Credential) (m : ℕ) (filename : Bytes) (result : Result Artifact Refusal) : Type 0 where
    pub wears : Wears old new
    pub finds : FindsTo old new device m filename result

-- The artifact that a device may download was looked for: its tables keep a deployment of the device where it is found, and why a failed store is told.
pub record LooksForDownload {S : Type 0} (g : Ghosts S) (old new : Calls S) (device : Credential) (m : ℕ) (filename : Bytes)
    (result : Result Artifact Refusal) : Type 0 where
  pub finds : FindsDownload HoldsRecords (state g old.conn) (state g new.conn) device m filename result
  pub kept : IfOk result (λ _. (contents : Bytes) → KeepsOffers (state g old.conn) (state g new.conn) (Download device m filename) (ContentsShown contents))
  pub tells : TellsFailures (tells_store result) old new
  pub fails : result ≡ Err StoreFailed → FailsByCalls g old new
