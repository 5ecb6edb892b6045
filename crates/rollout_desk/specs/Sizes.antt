-- Contents by the sizes that the tables tell, and offers as the tables keep them, whatever rows they have.
use Rattle.std.specs.Prelude.{◌≡◌, Result, Ok, Err}
use Rattle.sqlite.specs.Held.{state}
use Rattle.sqlite.specs.State.{State, HasCleanDisk}
use Rattle.sqlite.specs.Store.{Ghosts}
use Rattle.sql_calls.specs.Standing.{Shows}
use Rattle.sql_calls.specs.declared.fault.Fault.{Fault}
use Rattle.rollout_machine.specs.Replies as shown
use Rattle.rollout_machine.specs.Commands.{Bytes}
use Rattle.rollout_machine.specs.Requests.{Query, Poll, ShowDeployment, ShowCancel, Download}
use Rattle.rollout_machine.specs.Views.{reply_of}
use Rattle.rollout_model.specs.declared.request.Reply.{Reply}
use Rattle.desk_records.specs.Tables.{HoldsTables, Tables}
use Rattle.request_handler.specs.declared.download.Download as begun
use Rattle.sql_calls.specs.declared.calls.Calls.{Calls}
use Rattle.desk_reads.specs.AtLists.{FailsAtListsIn}
use Rattle.desk_views.specs.Kept.{TellsKept}
use Rattle.desk_views.specs.Showing.{ShowsIn}
use Rattle.desk_views.specs.Sizes.{AgreesIn, KeepsSize}
use Rattle.rollout_desk.specs.declared.desk.Desk.{Desk}

-- what a device is told of its offer is what the table of offers keeps of it
abbrev pub KeepsOffer : Tables → Query → shown.Reply → Type 0
KeepsOffer t (Poll device) reply = TellsKept t device.id reply
KeepsOffer t (ShowDeployment device action) reply = TellsKept t device.id reply
KeepsOffer t (ShowCancel device action) reply = TellsKept t device.id reply
KeepsOffer t (Download device m filename) reply = TellsKept t device.id reply
KeepsOffer t _ reply = Unit {0}

module _ {S : Type 0} (g : Ghosts S) where
  -- what a query is answered inside a change: at lists of accepted commands, and in whatever tables
  pub record AnswersIn (old new : Calls S) (query : Query) (result : Result Reply Fault) : Type 0 where
    pub shows : ShowsIn g old new query result
    pub sized : AgreesIn g old new result (λ t reply. KeepsSize t query (reply_of reply))
    pub kept : AgreesIn g old new result (λ t reply. KeepsOffer t query (reply_of reply))

-- a query was answered, or why not
pub record ReadsAnswer {S : Type 0} (g : Ghosts S) (query : Query) (old new : Calls S) (result : Result Reply Fault) : Type 0 where
  pub answers : AnswersIn g old new query result
  pub fails : FailsAtListsIn g old new result

-- Contents that are shown are as many bytes as is told of their artifact in the tables that were shown, whatever rows these have.
abbrev pub KeepsSizes : State → State → Query → shown.Reply → Type 0
KeepsSizes old new query reply = (t : Tables) → HasCleanDisk new → Shows HoldsTables old t → KeepsSize t query reply

-- A device is told of its offer what was kept of it in the tables that were shown, whatever rows these have.
abbrev pub KeepsOffers : State → State → Query → shown.Reply → Type 0
KeepsOffers old new query reply = (t : Tables) → HasCleanDisk new → Shows HoldsTables old t → KeepsOffer t query reply

-- both, of an answer
pub record KeepsToTables (old new : State) (query : Query) (reply : shown.Reply) : Type 0 where
  pub sized : KeepsSizes old new query reply
  pub kept : KeepsOffers old new query reply

-- The same of a query that may begin a download: of its contents, and else of the reply.
abbrev pub BeginsKept : State → State → Query → Result begun.Download Reply → Type 0
BeginsKept old new query (Ok p) = (contents : Bytes) → KeepsOffers old new query (shown.ContentsShown contents)
BeginsKept old new query (Err reply) = KeepsOffers old new query (reply_of reply)

-- What a query shows is what the tables have, and what is told of the last command's work stays.
pub record OnlyReads {S : Type 0} (g : Ghosts S) (old new : Desk S) (query : Query) (reply : shown.Reply) : Type 0 where
  pub sized : KeepsSizes (state g old.store.calls.conn) (state g new.store.calls.conn) query reply
  pub kept : KeepsOffers (state g old.store.calls.conn) (state g new.store.calls.conn) query reply
  pub work : new.work ≡ old.work
