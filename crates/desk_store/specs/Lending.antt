-- What a store ends as where no change begins, and a change by the calls that it lends.
use Rattle.std.specs.Prelude.{◌≡◌, [], Result}
use mir.Syntax.{named}
use Rattle.std.specs.Borrow.{Fml, RattleType, Lends, MutBor, RestsIfErr}
use Rattle.sqlite.specs.Store as store
use Rattle.sqlite.specs.Held.{state}
use Rattle.sql_calls.specs.declared.fault.Fault.{Fault}
use Rattle.sql_calls.specs.Calls.{Grows, fails, failures_in}
use Rattle.sql_calls.specs.Standing.{Keeps}
use Rattle.desk_records.specs.Holds.{HoldsLedger}
use Rattle.desk_store.specs.declared.store.DeskStore.{DeskStore}
use Rattle.desk_store.specs.declared.change.OpenChange.{OpenChange}
use Rattle.desk_store.specs.contracts.change.OpenChange as changes
use Rattle.desk_store.specs.contracts.store.DeskStore as desk
use Rattle.sql_calls.specs.declared.calls.Calls.{Calls}
use Rattle.sql_calls.specs.contracts.calls.Calls as counted

module _ (S : RattleType) (g : store.Ghosts S.Denot) where
  -- the records stand as before, and nothing more is counted but the failure
  abbrev pub store_rests : MutBor (DeskStore S.Denot) → Result (OpenChange S.Denot) Fault → Fml
  store_rests c r = RestsIfErr (desk.the_row S g) c (λ it. it.store.ghost_name) r
      (λ last. Keeps HoldsLedger (state g c.now.calls.conn) (state g last.calls.conn) × (last.calls.work ≡ c.now.calls.work)
      × Grows (failures_in r) c.now.calls last.calls × (last.calls.failures ≡ fails (failures_in r) c.now.calls.failures))

  -- by other calls of its connection the same change
  abbrev pub with_calls : OpenChange S.Denot → Calls S.Denot → OpenChange S.Denot
  with_calls c calls = record c { store = record c.store { now = record c.store.now { calls = calls } } }

  abbrev pub change_lends : MutBor (OpenChange S.Denot) → MutBor (Calls S.Denot) → Fml
  change_lends c r = Lends (changes.the_row (record { mir = named 1; lft = [] }) S g) (counted.the_row S g) c r (with_calls c.now)
