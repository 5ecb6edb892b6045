-- From the headline of an exit to the desk that is reopened after a crash.
use Rattle.std.proofs.Math.Logic.{∥∥₁_map}
use Rattle.sqlite.specs.Recovery.{Image}
use Rattle.sqlite.specs.Tree.{Trees}
use Rattle.rollout_machine.specs.CommandList.{followed_by}
use Rattle.rollout_machine.specs.Standing.{DeskState}
use Rattle.rollout_desk.specs.Openings.{AllHold, GoesOnOver}
use Rattle.desk_server.specs.AfterCrash.{KeepsHeadline}

pub keeps_headline : (images : Image → Type 0) (served reopened : DeskState Trees) → (AllHold served → GoesOnOver images served reopened)
    → KeepsHeadline images served reopened
keeps_headline images served reopened goes_on interface h stream unread out out_new result exit image may approval reopens clean =
    let all : AllHold served = λ file left. let part = exit.crash file left in (followed_by h part.kept, part.holds) in
    ∥∥₁_map (goes_on all image may approval reopens clean) (λ on.
    let part = exit.crash on.file on.left in record { file = on.file; left = on.left; part = part; stands = on.stands (followed_by h part.kept) part.holds })
