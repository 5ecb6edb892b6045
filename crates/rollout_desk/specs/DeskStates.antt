-- What a desk is to its callers.
use Rattle.sqlite.specs.Held.{state}
use Rattle.sqlite.specs.Tree.{Trees}
use Rattle.sqlite_trees.specs.declared.store.Store.{Ghosts}
use Rattle.desk_records.specs.Holds.{HoldsRecords}
use Rattle.rollout_machine.specs.Standing.{DeskState}
use Rattle.rollout_desk.specs.Desks.{desk_state_knowing}
use Rattle.rollout_desk.specs.declared.desk.Desk.{Desk}

abbrev pub desk_state : {S : Type 0} → Ghosts S → Desk S → DeskState Trees
desk_state g desk = desk_state_knowing HoldsRecords desk.targets desk.stopped (state g desk.store.calls.conn)
