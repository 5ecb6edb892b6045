-- What a migration leaves, by the calls of the connection before it and after it.
use Rattle.std.specs.Prelude.{Result}
use Rattle.sqlite.specs.Effect.{Database}
use Rattle.sqlite.specs.Store.{Ghosts}
use Rattle.sql_calls.specs.Standing.{Advances}
use Rattle.sql_calls.specs.declared.calls.Calls.{Calls}
use Rattle.sql_calls.specs.declared.fault.Fault.{Fault}
use Rattle.desk_records.specs.Tables.{HoldsTables, Tables}
use Rattle.desk_store.specs.Changing.{seen_in}

-- a desk's tables stand, whatever rows they have
abbrev pub HasTables : Database → Unit {0} → Type 0
HasTables db _ = (t : Tables) × HoldsTables db t

module _ {S : Type 0} (g : Ghosts S) where
  -- Tables that stand go on standing, whether or not the last commit has them, and a crash leaves what it could leave before.
  abbrev pub KeepsStanding : {A : Type 0} → Calls S → Calls S → Result A Fault → Type 0
  KeepsStanding old new result = Advances HasTables tt tt (seen_in g old) (seen_in g new) result
