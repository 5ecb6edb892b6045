-- What a desk knows beside its tables: the ids of all targets, where a page of all has read them.
use Rattle.std.specs.Prelude.{◌≡◌, false, None}
use Rattle.sqlite.specs.Held.{state}
use Rattle.sqlite.specs.State.{HasCleanDisk}
use Rattle.sqlite.specs.Store.{Ghosts}
use Rattle.sql_calls.specs.declared.calls.Calls.{Calls}
use Rattle.sql_calls.specs.Standing.{Wears}
use Rattle.desk_records.specs.Holds.{HoldsRecords}
use Rattle.rollout_machine.specs.CommandList.{CommandList}
use Rattle.rollout_machine.specs.Commands.{Command, PutTargets}
use Rattle.rollout_machine.specs.Records.{records}
use Rattle.rollout_machine.specs.Replies.{Reply, Refused}
use Rattle.rollout_machine.specs.Requests.{Ask, Asks, Query}
use Rattle.rollout_machine.specs.Standing.{AppliesAt, StandsFor}
use Rattle.rollout_machine.specs.StoreFailures.{is_failed_store}
use Rattle.rollout_model.specs.declared.refusal.Refusal.TheVariants.{StoreFailed}
use Rattle.rollout_desk.specs.Causes.{FailsByCalls}
use Rattle.rollout_desk.specs.Desks.{AreIdsOf, Known, desk_state_at, desk_state_knowing}
use Rattle.rollout_desk.specs.Working.{TellsFailures}

-- what is known behind a command: an import forgets it
abbrev pub known_behind : Known → Command → Known
known_behind known (PutTargets rows) = None
known_behind known _ = known

-- what is known behind an answer holds of the records, where what was known before it does
abbrev pub Learns : {S : Type 0} → Ghosts S → Known → Calls S → Calls S → Known → Type 0
Learns g known old new next = (h : CommandList) → HasCleanDisk (state g new.conn)
    → StandsFor (desk_state_knowing HoldsRecords known false (state g old.conn)) h → AreIdsOf next (records h)

-- A query was answered in full, where the ids of all targets are as they are known, and why a failed store is told.
pub record AnswersKnowing {S : Type 0} (g : Ghosts S) (known : Known) (old new : Calls S) (query : Query) (reply : Reply) : Type 0 where
  pub wears : Wears (state g old.conn) (state g new.conn)
  pub answers : (h : CommandList) → HasCleanDisk (state g new.conn) → StandsFor (desk_state_knowing HoldsRecords known false (state g old.conn)) h
      → AppliesAt h (desk_state_at HoldsRecords (is_failed_store reply) (state g new.conn)) (Asks (Ask query)) reply
  pub tells : TellsFailures (is_failed_store reply) old new
  pub fails : reply ≡ Refused StoreFailed → FailsByCalls g old new
