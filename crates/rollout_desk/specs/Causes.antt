-- Why a desk tells that its store failed: a call of the database failed, which is counted.
use Rattle.std.specs.Prelude.{false}
use Rattle.sqlite.specs.Held.{state}
use Rattle.sqlite.specs.Store.{Ghosts}
use Rattle.sqlite.specs.State.{HasCleanDisk}
use Rattle.sql_calls.specs.declared.calls.Calls.{Calls}
use Rattle.rollout_machine.specs.CommandList.{CommandList}
use Rattle.rollout_machine.specs.Commands.{Bytes}
use Rattle.rollout_machine.specs.Records.{records}
use Rattle.rollout_machine.specs.Standing.{StandsFor}
use Rattle.desk_records.specs.Holds.{HoldsRecords}
use Rattle.desk_reads.specs.Counted.{AreCounted}
use Rattle.desk_store.specs.Blaming.{HasFailed}
use Rattle.request_handler.specs.Downloads.{Sends}
use Rattle.request_handler.specs.declared.download.Download.{Download}
use Rattle.rollout_desk.specs.DeskStates.{desk_state}
use Rattle.rollout_desk.specs.Desks.{desk_state_at}
use Rattle.rollout_desk.specs.declared.desk.Desk.{Desk}

module _ {S : Type 0} (g : Ghosts S) where
  -- Of a store that stands for a list whose histories are counted, on a clean disk.
  abbrev pub FailsByCalls : Calls S → Calls S → Type 0
  FailsByCalls old new = (h : CommandList) → HasCleanDisk (state g new.conn) → AreCounted (records h)
      → StandsFor (desk_state_at HoldsRecords false (state g old.conn)) h → HasFailed old.failures new.failures

  -- the same of a desk
  abbrev pub FailsByCall : Desk S → Desk S → Type 0
  FailsByCall old new = (h : CommandList) → (desk_state g new).is_clean → AreCounted (records h) → StandsFor (desk_state g old) h
      → HasFailed old.store.calls.failures new.store.calls.failures

  -- the same of a desk that hands out contents of the list
  abbrev pub FailsHandingByCall : Download → Desk S → Desk S → Type 0
  FailsHandingByCall p old new = (h : CommandList) (contents : Bytes) → (desk_state g new).is_clean → AreCounted (records h) → StandsFor (desk_state g old) h
      → Sends h p contents → HasFailed old.store.calls.failures new.store.calls.failures
