-- What a desk that was served stands for once it is reopened over what a crash left.
use Rattle.std.specs.Prelude.{ℕ, Bool, List, Option, Result}
use Rattle.sqlite.specs.Recovery.{Image}
use Rattle.sqlite.specs.Tree.{Trees}
use Rattle.rollout_machine.specs.CommandList.{CommandList, followed_by}
use Rattle.rollout_machine.specs.Standing.{DeskState, StandsFor}
use Rattle.rollout_desk.specs.Openings.{ReopensDesk}
use Rattle.stream_server.specs.declared.interface.Interface.{Interface}
use Rattle.stream_server.specs.declared.served.Served.{Served}
use Rattle.stream_server.specs.declared.served.ServeFault.{ServeFault}
use Rattle.stream_server.specs.Headline.{Headline, HoldsFirstPart}
use Rattle.stream_server.specs.Run.{Exchange}

-- The desk stands for the list followed by a first part of the commands that the run accepted: all of them, or all but the one in doubt,
-- and every acknowledged one.
-- It is the list of a file that a crash might have left of the desk that was served.
pub record StandsForFirstPart (served reopened : DeskState Trees) (h : CommandList) (run : List Exchange) (written : List ℕ) : Type 0 where
  pub file : Trees
  pub left : served.may_leave file
  pub part : HoldsFirstPart served h run written file
  pub stands : StandsFor reopened (followed_by h part.kept)

-- of each exit of `serve` over the first desk that has the headline: the second one, reopened with success over any of these images, stands for such a list
abbrev pub KeepsHeadline : (Image → Type 0) → DeskState Trees → DeskState Trees → Type 0
KeepsHeadline images served reopened =
    (interface : Interface) (h : CommandList) (stream unread out out_new : Option (List ℕ)) (result : Result Served ServeFault)
    (exit : Headline interface h served stream unread out out_new result)
    → (image : Image) → images image → (approval : Bool) → ReopensDesk image reopened approval → reopened.is_clean
    → ∥ StandsForFirstPart served reopened h exit.transcript.run exit.transcript.written ∥₁
