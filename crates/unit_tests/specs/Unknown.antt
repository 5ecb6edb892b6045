-- A desk of which nothing is known.
use Rattle.std.specs.Prelude.{false, ⊤}
use Rattle.rollout_machine.specs.Standing.{DeskState}

-- its disk is never clean, so no contract says what it answers
abbrev pub unknown : DeskState ⊤
unknown = record { is_stopped = false; is_clean = ⊥; shows = λ h. ⊤; may_leave = λ file. ⊤; holds = λ file h. ⊤ }
