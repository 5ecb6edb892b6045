-- Which of the two ways an open takes.
use Rattle.desk_opening.proofs.Common.{Bool, codes, inl, Ok, Err, IfErr, Result, arith, both_ways, Database, State, HasCleanDisk}
use Rattle.desk_opening.proofs.Common.{LeavesFree, Rests, still_holds, Records, desk_names, HoldsReadable, Version, has_desk}
use Rattle.desk_opening.proofs.Common.{HoldsStage, Free, Makes, told, OpenFault, NotDesk, Adopts, HasDesk, HasRow, LacksPartOfDesk}
use Rattle.desk_opening.proofs.Common.{IsFailure, TellsOfRow, FindsTo, OpensDesk, IsKnownOpen, HoldsOf, None, Option, Some}
use Rattle.desk_opening.specs.Making.{MakesTo}
use Rattle.desk_opening.proofs.VersionLemmas.{used_at}

some_version : (o : Option Version) (db : Database) (r : Records) → HoldsOf o db r → HoldsReadable db r
some_version None db r holds = holds
some_version (Some v) db r holds = (v, holds)

-- a database that holds records uses the name `desk`
held_is_used : (old : State) (o : Option Version) (r : Records) → IsKnownOpen old → Rests (HoldsOf o) old r → HasCleanDisk old
    → ¬ LeavesFree old.now.schema desk_names
held_is_used old o r is_open was clean free = grind (arith, some_version, still_holds, both_ways, codes, used_at, has_desk)

-- a database that leaves the names free uses none
pub free_is_unused : (old : State) → IsKnownOpen old → Rests HoldsStage old Free → HasCleanDisk old → ¬ ¬ LeavesFree old.now.schema desk_names
free_is_unused old is_open was clean used = used (still_holds HoldsStage old Free (was clean) (is_open clean)).1

module _ {A : Type 0} (old new : State) (approval : Bool) where
  pub adopts : (out : Result A OpenFault) → Adopts old new out → (¬ LeavesFree old.now.schema desk_names) → OpensDesk old new approval out
  adopts out h used = record {
    wears = h.wears;
    finds = λ clean. finds out (h.tells clean);
    takes = λ is_open. h.takes;
    makes = λ is_open. go out is_open;
  }
    where
      finds : (result : Result A OpenFault) → TellsOfRow (λ _. HasDesk old.now) (HasRow old.now) (LacksPartOfDesk old.now) result → FindsTo old.now result
      finds (Ok x) told = inl told
      finds (Err NotDesk) told = record { used = used; other = told }
      finds (Err e) told = told

      go : (result : Result A OpenFault) → IsKnownOpen old → MakesTo old new approval result
      go (Ok x) is_open = λ was clean. absurd (free_is_unused old is_open was (omega (arith, h.wears)) used)
      go (Err e) is_open = λ was clean db left. absurd (free_is_unused old is_open was (omega (arith, h.wears)) used)

  pub makes_free : LeavesFree old.now.schema desk_names → (out : Result A OpenFault) → IfErr out IsFailure → Makes old new approval out
      → OpensDesk old new approval out
  makes_free free out fails h = grind (arith, held_is_used)
