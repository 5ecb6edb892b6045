-- Why an opening is a failed store.
use Rattle.std.specs.Prelude.{◌≡◌, ◌⊎◌}
use Rattle.sqlite.specs.Store.{Ghosts}
use Rattle.sqlite.specs.Held.{state}
use Rattle.sqlite.specs.State.{State, HasCleanDisk}
use Rattle.sql_calls.specs.Standing.{Rests}
use Rattle.sql_calls.specs.declared.calls.Calls.{Calls}
use Rattle.rollout_machine.specs.Records.{Records}
use Rattle.desk_records.specs.Readable.{HoldsAt}
use Rattle.desk_records.specs.declared.version.Version.{Version}
use Rattle.desk_store.specs.Blaming.{HasFailed}
use Rattle.desk_opening.specs.Counting.{AreReadable}
use Rattle.desk_opening.specs.Making.{HoldsStage, Free}
use Rattle.desk_opening.specs.Opening.{IsKnownOpen}
use Rattle.desk_opening.specs.declared.opening.OpenFault.{OpenFault}
use Rattle.desk_opening.specs.declared.opening.OpenFault.TheVariants.{Store}

-- a desk whose rollouts can be read, in the tables of a version that the program reads
pub record RestsReadable (s : State) : Type 0 where
  pub version : Version
  pub records : Records
  pub rests : Rests (HoldsAt version) s records
  pub readable : AreReadable records

-- .. or no name of a desk is used
abbrev pub IsHealthy : State → Type 0
IsHealthy s = RestsReadable s ⊎ Rests HoldsStage s Free

-- a readable desk was there, and its disk has not lied
abbrev pub HadReadable : State → State → Type 0
HadReadable old new = RestsReadable old × HasCleanDisk new

-- the connection was open and sound, and its disk has not lied
abbrev pub WasHealthy : State → State → Type 0
WasHealthy old new = IsKnownOpen old × IsHealthy old × HasCleanDisk new

-- where it was, a failed store is a call that failed, which is counted
pub record HasCause {S : Type 0} (g : Ghosts S) (old : State) (new : Calls S) (e : OpenFault) : Type 0 where
  pub cause : IsKnownOpen old → IsHealthy old → HasCleanDisk (state g new.conn) → e ≡ Store → HasFailed 0 new.failures
