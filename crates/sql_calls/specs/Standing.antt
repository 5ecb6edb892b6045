-- What calls leave of a connection, where a database holds what it holds by a relation `Holds`: of the transaction, whatever they answer, and
-- of what it sees, where they answer Ok.
use Rattle.std.specs.Prelude.{◌≡◌, ◌≤◌, true, false, Result, Ok, Err, IfOk, IsTrue, ◌⊎◌}
use Rattle.sqlite.specs.Tree.{Trees}
use Rattle.sqlite_trees.specs.View.{doubt}
use Rattle.sqlite.specs.Schema.{Schema}
use Rattle.sqlite.specs.Effect.{Database}
use Rattle.sqlite.specs.State.{State, HasCleanDisk}

-- a disk that has lied is never clean again
abbrev pub Wears : State → State → Type 0
Wears old new = doubt old.is_clean ≤ doubt new.is_clean

-- A transaction that nothing has ended, and that has the tables of the last commit. It names no records.
pub record IsInside (s : State) : Type 0 where
  pub mode : s.in_transaction ≡ true
  pub is_open : IsTrue s.is_open
  pub fits : s.now.schema ≡ s.committed.schema

module _ {R : Type 0} (Holds : Database → R → Type 0) where
  -- an open of a file with these trees finds what `r` says
  abbrev pub HoldIn : Trees → R → Type 0
  HoldIn trees r = (schema : Schema) × Holds (record { schema = schema; trees = trees }) r

  -- ---- what a crash leaves, and giving up

  -- A change, whether or not a failure ended it: what the last commit left holds `kept`, and so does what a crash leaves.
  pub record IsSpoiled (s : State) (kept : R) : Type 0 where
    pub ended : s.in_transaction ≡ false → IsTrue s.is_open → s.now ≡ s.committed
    pub kept_holds : IsTrue s.is_open → Holds s.committed kept
    pub crash : (db : Trees) → s.may_leave db → HoldIn db kept

  -- Outside a change. A connection that a fault has shut shows nothing, and every crash leaves `r`.
  pub record IsAtRest (s : State) (r : R) : Type 0 where
    pub mode : s.in_transaction ≡ false
    pub held : IsSpoiled s r

  -- what a connection shows outside a change; of a crash nothing is said
  pub record IsShowing (s : State) (r : R) : Type 0 where
    pub mode : s.in_transaction ≡ false
    pub ended : IsTrue s.is_open → s.now ≡ s.committed
    pub holds : IsTrue s.is_open → Holds s.committed r

  -- a crash leaves one or the other
  pub record IsInDoubt (s : State) (kept tried : R) : Type 0 where
    pub crash : (db : Trees) → s.may_leave db → HoldIn db kept ⊎ HoldIn db tried

  -- All of it is known while the disk is clean.
  abbrev pub Rests : State → R → Type 0
  Rests s r = HasCleanDisk s → IsAtRest s r

  abbrev pub Shows : State → R → Type 0
  Shows s r = HasCleanDisk s → IsShowing s r

  abbrev pub Doubts : State → R → R → Type 0
  Doubts s kept tried = HasCleanDisk s → IsInDoubt s kept tried

  -- a change that can be given up
  pub record Spoiled (s : State) (kept : R) : Type 0 where
    pub spoiled : HasCleanDisk s → IsSpoiled s kept

  -- .. and that goes on
  pub record Opens (s : State) (kept : R) : Type 0 where
    pub spoiled : Spoiled s kept
    pub inside : HasCleanDisk s → IsInside s

  -- Whatever a call of a change answers: Ok leaves it open, with the same `kept`, and after an error it can only be given up.
  abbrev pub FrameTo : {A E : Type 0} → State → State → Result A E → Type 0
  FrameTo old new (Ok a) = (kept : R) → Opens old kept → Opens new kept
  FrameTo old new (Err e) = (kept : R) → Opens old kept → Spoiled new kept

  -- ---- what a change sees

  pub record IsSeeing (s : State) (now : R) : Type 0 where
    pub mode : s.in_transaction ≡ true
    pub is_open : IsTrue s.is_open
    pub now_holds : Holds s.now now

  pub record Sees (s : State) (now : R) : Type 0 where
    pub sees : HasCleanDisk s → IsSeeing s now

  -- Whatever a call answers: Ok leaves the change open, from what it saw to what it sees next, and a crash leaves what it could leave before.
  pub record Advances {A E : Type 0} (now next : R) (old new : State) (result : Result A E) : Type 0 where
    pub wears : Wears old new
    pub sees : IfOk result (λ a. Sees old now → Sees new next)
    pub crash : Sees old now → HasCleanDisk new → (db : Trees) → new.may_leave db → old.may_leave db

  module _ {Q : Type 0} (of : Q → R) where
    -- a read answers by what the change sees, and changes nothing
    pub record Finds {A E : Type 0} (old new : State) (result : Result A E) (Answer : Q → A → Type 0) : Type 0 where
      pub wears : Wears old new
      pub finds : IfOk result (λ a. (now : Q) → Sees old (of now) → Sees new (of now) × (HasCleanDisk new → Answer now a))

    -- writes make the next one of what the change sees
    pub record Makes {A E : Type 0} (old new : State) (result : Result A E) (Change : Q → Q → Type 0) : Type 0 where
      pub wears : Wears old new
      pub makes : IfOk result (λ a. (now next : Q) → Sees old (of now) → (HasCleanDisk new → Change now next) → Sees new (of next))

  -- ---- how a change begins and ends

  -- A change begins with what stands, and sees what is shown.
  pub record Begins (old new : State) : Type 0 where
    pub wears : Wears old new
    pub opens : (r : R) → Rests old r → Opens new r
    pub sees : (r : R) → Shows old r → Sees new r

  -- what stands, stands
  pub record Keeps (old new : State) : Type 0 where
    pub wears : Wears old new
    pub rests : (r : R) → Rests old r → Rests new r

  abbrev pub CommitsTo : {A E : Type 0} → State → State → Result A E → Type 0
  CommitsTo old new (Ok a) = (now : R) → Sees old now → Rests new now
  CommitsTo old new (Err e) = (now kept : R) → Sees old now → Spoiled old kept → Doubts new kept now

  pub record Commits {A E : Type 0} (old new : State) (result : Result A E) : Type 0 where
    pub wears : Wears old new
    pub commits : CommitsTo old new result

  abbrev pub GivesUpTo : {A E : Type 0} → State → State → Result A E → Type 0
  GivesUpTo old new (Ok a) = (kept : R) → Spoiled old kept → Rests new kept
  GivesUpTo old new (Err e) = (kept : R) → Spoiled old kept → Doubts new kept kept

  pub record GivesUp {A E : Type 0} (old new : State) (result : Result A E) : Type 0 where
    pub wears : Wears old new
    pub gives_up : GivesUpTo old new result
