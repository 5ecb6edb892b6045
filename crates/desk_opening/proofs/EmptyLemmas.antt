-- A database without tables is made a desk, and refused for a failure alone.
use Rattle.desk_opening.proofs.Common.{arith, Bool, Err, State, HasCleanDisk, IsAtRest, LeavesFree, HoldsStage, Free, OpenFault, OpensDesk, IsSettled}
use Rattle.desk_opening.proofs.Common.{IsFailure}
use Rattle.desk_opening.proofs.Common.{desk_names}
use Rattle.sqlite.specs.Steps.{IsEmpty}
use Rattle.desk_opening.proofs.BlankLemmas.{nothing_is_used}
use Rattle.desk_opening.proofs.HeldLemmas.{free_fails}
use Rattle.desk_opening.proofs.Steps.{settled_at_rest}

empty_is_free : (s : State) → IsEmpty s → LeavesFree s.now.schema desk_names
empty_is_free s e = grind (arith, nothing_is_used)

pub empty_at_rest : (s : State) → IsSettled s → IsEmpty s → IsAtRest HoldsStage s Free
empty_at_rest s settled e = grind (arith, empty_is_free, settled_at_rest)

-- it is refused for no other reason
pub fails_alone : {A : Type 0} (old new : State) (approval : Bool) (e : OpenFault) → IsEmpty old → HasCleanDisk new → OpensDesk {A = A} old new approval (Err e)
    → IsFailure e
fails_alone old new approval e empty clean h = free_fails old.now (empty_is_free old empty) e (h.finds clean)
