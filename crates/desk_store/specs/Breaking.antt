-- When a call tells broken rows, by what is seen.
use Rattle.std.specs.Prelude.{◌≡◌, Result, Ok, Err}
use Rattle.sqlite.specs.Store.{Ghosts}
use Rattle.sqlite.specs.Effect.{Database}
use Rattle.sqlite.specs.State.{State, HasCleanDisk}
use Rattle.sql_calls.specs.Standing.{Sees}
use Rattle.sql_calls.specs.declared.calls.Calls.{Calls}
use Rattle.sql_calls.specs.declared.fault.Fault.{Fault}
use Rattle.sql_calls.specs.declared.fault.Fault.TheVariants.{Broken}
use Rattle.desk_store.specs.Changing.{seen_in}

-- broken rows are told for this alone
pub record HasReason (new : State) (Why : Type 0) (fault : Fault) : Type 0 where
  pub reason : fault ≡ Broken → HasCleanDisk new → Why

-- they are never told: what writes reads no row
abbrev pub SoundTo : {A : Type 0} → State → Result A Fault → Type 0
SoundTo new (Ok a) = Unit {0}
SoundTo new (Err fault) = HasReason new ⊥ fault

module _ {R : Type 0} (Holds : Database → R → Type 0) (Given Why : R → Type 0) where
  abbrev pub BreaksTo : {A : Type 0} → State → State → Result A Fault → Type 0
  BreaksTo old new (Ok a) = (r : R) → Sees Holds old r → Sees Holds new r
  BreaksTo old new (Err fault) = (r : R) → Sees Holds old r → Given r → HasReason new (Why r) fault

  -- What reads: at Ok all stays as it is. Where that is as given, broken rows are told only for this.
  pub record TellsOnly {A : Type 0} (old new : State) (result : Result A Fault) : Type 0 where
    pub to : BreaksTo old new result

  abbrev pub BreaksFirstTo : {A : Type 0} → State → State → Result A Fault → Type 0
  BreaksFirstTo old new (Ok a) = Unit {0}
  BreaksFirstTo old new (Err fault) = (r : R) → Sees Holds old r → Given r → HasReason new (Why r) fault

  -- what reads and then writes
  pub record TellsFirst {A : Type 0} (old new : State) (result : Result A Fault) : Type 0 where
    pub to : BreaksFirstTo old new result

-- ---- in a change

module _ {S : Type 0} (g : Ghosts S) where
  pub record NeverBreaks {A : Type 0} (new : Calls S) (result : Result A Fault) : Type 0 where
    pub to : SoundTo (seen_in g new) result

  module _ {R : Type 0} (Holds : Database → R → Type 0) (Given Why : R → Type 0) where
    pub record BreaksOnly {A : Type 0} (old new : Calls S) (result : Result A Fault) : Type 0 where
      pub to : BreaksTo Holds Given Why (seen_in g old) (seen_in g new) result

    pub record BreaksFirst {A : Type 0} (old new : Calls S) (result : Result A Fault) : Type 0 where
      pub to : BreaksFirstTo Holds Given Why (seen_in g old) (seen_in g new) result
