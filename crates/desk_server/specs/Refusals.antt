-- Why the desk at a path isn't opened.
use Rattle.std.specs.Prelude.{Option, Some, None}
use Rattle.sqlite_disk.specs.declared.Disk as disk
use Rattle.desk_opening.specs.declared.opening.OpenFault.{OpenFault}
use Rattle.desk_opening.specs.declared.path.NoFile.{NoFile}
use Rattle.desk_opening.specs.declared.path.PathLeftover.{PathLeftover}
use Rattle.desk_opening.specs.declared.path.PathLeftover.TheVariants as at_path

-- the fault, and whether no file was opened
abbrev pub PathRefusal : Type 0 → Type 0
PathRefusal D = OpenFault × Option (NoFile D)

-- that of what a refused opening leaves
abbrev pub refusal_of : {D : Type 0} {g : disk.Ghosts D} → OpenFault × PathLeftover D g → PathRefusal D
refusal_of (e, at_path.NoFile none) = (e, Some none)
refusal_of (e, at_path.Opened rest) = (e, None)
