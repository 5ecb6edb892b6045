-- A desk over files that were opened.
use Rattle.std.specs.Prelude.{◌≡◌, ◌≢◌, ◌⊎◌, Bool, false, ℕ, Ok}
use Rattle.sqlite_disk.specs.Disk.{MoreFaults}
use Rattle.sqlite_disk.specs.declared.Disk as disk
use Rattle.sqlite.specs.Recovery.{Image}
use Rattle.sqlite.specs.Tree.{Trees}
use Rattle.sqlite.specs.Schema.{Schema}
use Rattle.sqlite_catalog.specs.Listing.{IsSound}
use Rattle.sqlite_wal.specs.PageSize.{IsPageSize}
use Rattle.sqlite_wal.specs.Files.{outcomes}
use Rattle.sqlite_pool.specs.Stored.{is_summed, stored_size}
use Rattle.sqlite_store.specs.Unopened.{state_of}
use Rattle.sqlite_store.specs.FileStore.{recovers, view}
use Rattle.sqlite.specs.Start.{FindsIn}
use Rattle.sqlite.specs.declared.file.Leftover.{Leftover}
use Rattle.sqlite.specs.declared.file.Leftover.TheVariants as left
use Rattle.sqlite_store.specs.declared.store.FileStore.{FileStore}
use Rattle.sqlite.specs.Held.{Held}
use Rattle.sqlite.specs.Opening.{HoldsIn}
use Rattle.sqlite.specs.Files.{HoldsDatabase, IsNothing, IsBlankAs, AreFoundIn, IsCleanLeft, IsFullLeft, faults_left, file_state}
use Rattle.sqlite.specs.State.{State, HasCleanDisk}
use Rattle.sql_front.specs.Free.{LeavesFree}
use Rattle.sql_calls.specs.Standing.{HoldIn, Rests}
use Rattle.sql_calls.specs.declared.calls.Calls.{Calls}
use Rattle.rollout_machine.specs.Records.{Records}
use Rattle.desk_records.specs.Schema.{desk_names}
use Rattle.desk_records.specs.Holds.{HoldsRecords}
use Rattle.desk_records.specs.Readable.{HoldsAt, HoldsReadable}
use Rattle.desk_records.specs.declared.version.Version.{Version}
use Rattle.desk_opening.specs.declared.opening.OpenFault.{OpenFault}
use Rattle.desk_opening.specs.declared.opening.OpenFault.TheVariants.{NotDesk, NewerVersion, Store}
use Rattle.desk_opening.specs.declared.reopening.DeskLeftover.{DeskLeftover}
use Rattle.desk_opening.specs.declared.reopening.DeskLeftover.TheVariants as desk
use Rattle.desk_opening.specs.declared.path.PathLeftover.{PathLeftover}
use Rattle.desk_opening.specs.declared.path.PathLeftover.TheVariants as at_path
use Rattle.desk_store.specs.Blaming.{HasFailed}
use Rattle.desk_opening.specs.Counting.{AreReadable}
use Rattle.desk_opening.specs.Making.{LeavesNoDesk, LeavesDeskWith, first_records}
use Rattle.desk_opening.specs.Migrating.{HoldsFrom}
use Rattle.desk_opening.specs.Opening.{HasDesk, HasNoDesk, HasRow, IsFailure, IsNewerRow, OpensDesk}

-- whichever schema the trees list, it leaves the names of a desk free
abbrev pub UsesNoName : Trees → Type 0
UsesNoName db = (schema : Schema) → IsSound schema db → LeavesFree schema desk_names

-- ---- what files hold

-- the same as `HoldsDatabase`, of pages that end in no sum
pub record HoldsPlain (image : Image) (db : Trees) : Type 0 where
  pub size : ℕ
  pub plain : is_summed size ≡ false
  pub valid : IsPageSize (stored_size size)
  pub held : HoldsIn size image db

module _ (Holds : Image → Trees → Type 0) where
  -- the records of a desk, in the tables of a version that the program reads
  abbrev pub HoldsDesk : Image → Records → Type 0
  HoldsDesk image r = (db : Trees) × ∥ Holds image db ∥₁ × HoldIn HoldsReadable db r

  -- .. in those of this version
  abbrev pub HoldsDeskAt : Version → Image → Records → Type 0
  HoldsDeskAt v image r = (db : Trees) × ∥ Holds image db ∥₁ × HoldIn (HoldsAt v) db r

  -- nothing, or a database that uses no name of a desk
  abbrev pub HoldsNone : Image → Type 0
  HoldsNone image = IsNothing image ⊎ ∥ ((db : Trees) × Holds image db × UsesNoName db) ∥₁

-- ---- opened

-- a database with a desk of a version that the program reads, or one that uses no name of a desk
abbrev pub IsOpenable : Trees → Type 0
IsOpenable db = (schema : Schema) × IsSound schema db × (HasDesk (record { schema = schema; trees = db }) ⊎ LeavesFree schema desk_names)

-- Files that hold the records of a desk are opened to them. Empty or missing files, and those whose database uses no name of a desk, are
-- opened to the records of a new one.
-- No others are opened: neither a damaged file, nor one of another program, nor one with some of the tables.
pub record Reopens (image : Image) (s : State) (approval : Bool) : Type 0 where
  pub finds : HasCleanDisk s → (db : Trees) × AreFoundIn image db × IsOpenable db
  pub holds : (r : Records) → HoldsDesk HoldsDatabase image r → Rests HoldsRecords s r
  pub makes : HoldsNone HoldsDatabase image → Rests HoldsRecords s (first_records approval)

-- ---- not opened

abbrev pub HasNewer : Trees → Type 0
HasNewer db = (schema : Schema) × IsSound schema db × HasRow (record { schema = schema; trees = db }) IsNewerRow

abbrev pub HoldsNoDesk : Trees → Type 0
HoldsNoDesk db = (schema : Schema) × IsSound schema db × HasNoDesk (record { schema = schema; trees = db })

-- The database was opened, and this is what a crash leaves of its store. The records of a desk stay, in their version or in the newest.
-- Where there was none there is none, or the new one is whole.
-- Either is refused for a failure alone, and never as no desk or a later version.
pub record RefusesOpened (image : Image) (may_leave : Trees → Type 0) (approval : Bool) (e : OpenFault) : Type 0 where
  pub newer : e ≡ NewerVersion → (db : Trees) × AreFoundIn image db × HasNewer db
  pub none : e ≡ NotDesk → (db : Trees) × AreFoundIn image db × HoldsNoDesk db
  pub fails : ((r : Records) × HoldsDesk HoldsDatabase image r) ⊎ HoldsNone HoldsDatabase image → IsFailure e
  pub holds : (v : Version) (r : Records) → HoldsDeskAt HoldsDatabase v image r → (db : Trees) → may_leave db → HoldIn (HoldsFrom v) db r
  pub makes : HoldsNone HoldsDatabase image → (db : Trees) → may_leave db → LeavesNoDesk db ⊎ LeavesDeskWith db (first_records approval)

-- the files are not empty, and hold no database
abbrev pub IsForeign : Image → Type 0
IsForeign image = (¬ IsNothing image) × (¬ ((db : Trees) × HoldsDatabase image db))

-- whatever desk one of the files before held, it holds, and in the same version
abbrev pub HoldsWhatWas : {X : Type 0} → (Image → Type 0) → (Version → X → Records → Type 0) → X → Type 0
HoldsWhatWas before Holds x = (was : Image) × before was × ((v : Version) (r : Records) → HoldsDeskAt HoldsPlain v was r → Holds v x r)

module _ {D : Type 0} (g : disk.Ghosts D) where
  -- whatever a crash leaves of the files, and the trees that an open finds once the store has read them
  abbrev pub EachAfter : (Image → Type 0) → (Trees → Type 0) → Leftover D g → Type 0
  EachAfter Holds Finds (left.Files now) = (image : Image) → outcomes g now.log now.db image → Holds image
  EachAfter Holds Finds (left.Unopened now) = (image : Image) → (state_of now).may_leave image → Holds image
  EachAfter Holds Finds (left.Store now) = (db : Trees) → recovers now db → Finds db

  -- The database was not opened. Each file that a crash may leave holds whatever desk one that it might have left before held, and in the
  -- same version. Where each of those held none, each holds none.
  pub record Spares (before : Image → Type 0) (rest : Leftover D g) (e : OpenFault) : Type 0 where
    pub named : e ≢ NewerVersion
    pub foreign : e ≡ NotDesk → (image : Image) × before image × IsForeign image
    -- the files hold no database, a disk failed, which `sqlite` counts, or a file is at its limit
    pub causes : e ≡ Store → ((image : Image) × before image × IsForeign image) ⊎ (MoreFaults 0 (faults_left rest) ⊎ IsFullLeft rest)
    pub holds : EachAfter (HoldsWhatWas before (HoldsDeskAt HoldsPlain)) (HoldsWhatWas before (λ v db r. HoldIn (HoldsAt v) db r)) rest
    pub makes : ((image : Image) → before image → HoldsNone HoldsPlain image) → EachAfter (HoldsNone HoldsDatabase) UsesNoName rest

module _ {D : Type 0} {g : disk.Ghosts D} where
  -- The database was opened, and its connection is left. Where it held a desk whose rollouts can be read, or none, a failed store is a call
  -- that failed, which is counted.
  pub record RefusesCalls (image : Image) (approval : Bool) (e : OpenFault) (calls : Calls (FileStore D g)) : Type 0 where
    pub refuses : RefusesOpened image (file_state calls.conn).may_leave approval e
    pub causes : ((r : Records) × HoldsDesk HoldsDatabase image r × AreReadable r) ⊎ HoldsNone HoldsDatabase image → e ≡ Store → HasFailed 0 calls.failures

  -- What a refused opening leaves of files, by what a crash might have left of them before and by what they read as.
  abbrev pub LeavesUnharmed : (Image → Type 0) → Image → Bool → OpenFault → DeskLeftover D g → Type 0
  LeavesUnharmed before image approval e (desk.Unopened rest) = IsCleanLeft rest → Spares g before rest e
  LeavesUnharmed before image approval e (desk.Refused calls) = HasCleanDisk (file_state calls.conn) → RefusesCalls image approval e calls

  -- The same of files at a path, which held this. Where none was opened, memory was wanting or the store failed.
  abbrev pub LeavesPath : Image → Bool → OpenFault → PathLeftover D g → Type 0
  LeavesPath image approval e (at_path.NoFile none) = IsFailure e
  LeavesPath image approval e (at_path.Opened rest) = LeavesUnharmed (λ left. left ≡ image) image approval e rest

  -- ---- the pages of a new file

  -- The connection began as one that found these files. Where they held nothing, its pages end in no sum, which a plain sqlite3 would spoil.
  pub record BeginsPlain (image : Image) (approval : Bool) (opened : Held (FileStore D g)) : Type 0 where
    pub first : Held (FileStore D g)
    pub opens : OpensDesk {A = Unit {0}} (file_state first) (file_state opened) approval (Ok tt)
    pub found : HasCleanDisk (file_state first) → FindsIn image (file_state first)
    pub plain : HasCleanDisk (file_state first) → IsBlankAs false image → (view first.store).has_sums ≡ false
