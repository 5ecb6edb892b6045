-- The scanner's values, as the definitions see them.
use Rattle.target_filter.specs.declared.scanner.Mode.{Mode}
use Rattle.target_filter.specs.declared.scanner.Mode.TheVariants as mode
use Rattle.target_filter.specs.declared.scanner.Move.{Move}
use Rattle.target_filter.specs.declared.scanner.Move.TheVariants as move
use Rattle.target_filter.specs.declared.scanner.State.{State}
use Rattle.target_filter.specs.private.Scanner as scan

abbrev pub mode_of : Mode → scan.Mode
mode_of mode.AtomStart = scan.AtomStart
mode_of (mode.FieldName left keyed) = scan.FieldName left.now keyed
mode_of (mode.Key n) = scan.Key n
mode_of mode.Equals = scan.Equals
mode_of mode.Value = scan.Value
mode_of mode.Bare = scan.Bare
mode_of mode.Quoted = scan.Quoted
mode_of mode.AtomEnd = scan.AtomEnd

abbrev pub move_of : Move → scan.Move
move_of (move.Go m) = scan.Go (mode_of m)
move_of move.Open = scan.Open
move_of move.Close = scan.Close
move_of move.Next = scan.Next
move_of move.Stop = scan.Stop

abbrev pub state_of : State → scan.State
state_of s = record { depth = s.depth; deepest = s.deepest; mode = mode_of s.mode }
