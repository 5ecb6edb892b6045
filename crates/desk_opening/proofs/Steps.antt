-- From BEGIN to COMMIT: one change in which tables are made.
use Rattle.desk_opening.proofs.Common.{◌≡◌, Ok, Err, arith, Trees, Database, State, HasCleanDisk, Opens, Fault, RunsText, HoldIn, IsAtRest, Rests, Sees, Stage}
use Rattle.desk_opening.proofs.Common.{HoldsStage, [], codes, Result, IsErr, ◌⊎◌, inl, begin_is, commit_is, IsTrue, false}
use Rattle.sql_calls.proofs.FrameEnds as frame
use Rattle.sql_calls.proofs.Leavings.{IsSettled}
use Rattle.sql_calls.specs.Standing.{Advances, Wears}

-- ---- one thing as another

pub rests_as : {R Q : Type 0} (H : Database → R → Type 0) (K : Database → Q → Type 0) (r : R) (q : Q) → ((db : Database) → H db r → K db q) → (s : State)
    → Rests H s r → Rests K s q
rests_as H K r q so s was clean =
    let it = was clean in
    record {
      mode = it.mode;
      held = record {
        ended = it.held.ended;
        kept_holds = λ on. so s.committed (it.held.kept_holds on);
        crash = λ db left. let found =
            it.held.crash db left in (found.0, so _ found.1);
      };
    }

-- while a connection is open, every crash leaves the last commit
pub open_at_rest : {R : Type 0} (Holds : Database → R → Type 0) (s : State) (r : R) → IsSettled s → s.in_transaction ≡ false
    → (s.in_transaction ≡ false → IsTrue s.is_open → s.now ≡ s.committed) → IsTrue s.is_open → Holds s.committed r → IsAtRest Holds s r
open_at_rest h0 s r settled mode ended on kept = grind (arith, ended)

-- what the last commit left of a connection that was just opened
pub settled_at_rest : {R : Type 0} (Holds : Database → R → Type 0) (s : State) (r : R) → IsSettled s → Opens s → Holds s.committed r → IsAtRest Holds s r
settled_at_rest Holds s r settled opens = open_at_rest Holds s r settled opens.autocommit (λ _ _. opens.clean) opens.is_open

-- ---- from BEGIN to COMMIT

abbrev pub TurnsTo : {A E : Type 0} → Stage → Stage → State → State → Result A E → Type 0
TurnsTo start end old new (Ok a) = Rests HoldsStage old start → Rests HoldsStage new end
TurnsTo start end old new (Err e) = Rests HoldsStage old start → HasCleanDisk new → (db : Trees) → new.may_leave db → HoldIn HoldsStage db start
    ⊎ HoldIn HoldsStage db end

-- what rests at the one stage rests at the other, and at an error every crash leaves one of the two
pub record Turns {A E : Type 0} (start end : Stage) (old new : State) (result : Result A E) : Type 0 where
  pub wears : Wears old new
  pub turns : TurnsTo start end old new result

-- a change that was begun where a stage rested: what it sees, and that every crash leaves that stage
pub record Within {R : Type 0} (Holds : Database → R → Type 0) (start : Stage) (a s : State) (now : R) : Type 0 where
  pub wears : Wears a s
  pub sees : Rests HoldsStage a start → Sees Holds s now
  pub crash : Rests HoldsStage a start → HasCleanDisk s → (db : Trees) → s.may_leave db → HoldIn HoldsStage db start

module _ {R : Type 0} {Holds : Database → R → Type 0} {start : Stage} {now : R} {a b : State} where
  pub within_as : {Q : Type 0} {Kept : Database → Q → Type 0} {next : Q} → ((db : Database) → Holds db now → Kept db next) → Within Holds start a b now
      → Within Kept start a b next
  within_as so h = grind arith

  pub goes : {A E : Type 0} {next : R} {c : State} {x : A} → Within Holds start a b now → Advances Holds {E = E} now next b c (Ok x)
      → Within Holds start a c next
  goes h step = grind arith

-- the change begins with what stands
pub begun : {a b : State} (start : Stage) → RunsText a b (codes "BEGIN") [] (Ok tt) → Within HoldsStage start a b start
begun {a} {b} start h =
    let it = frame.begins HoldsStage (codes "BEGIN") a b (begin_is a.now.schema) h in
    record {
      wears = h.survives.clean;
      sees = λ was. it.sees start (frame.rest_shows HoldsStage a start was);
      crash = λ was clean. ((it.opens start was).spoiled.spoiled clean).crash;
    }

module _ {B F : Type 0} {start end : Stage} {a z : State} where
  turns_err : Wears a z → (Rests HoldsStage a start → HasCleanDisk z → (db : Trees) → z.may_leave db → HoldIn HoldsStage db start ⊎ HoldIn HoldsStage db end)
      → (out : Result B F) → IsErr out → Turns start end a z out
  turns_err wears turns (Ok x) bad = absurd cc
  turns_err wears turns (Err e) bad = record { wears = wears; turns = turns }

  pub not_begun : {fault : Fault} → RunsText a z (codes "BEGIN") [] (Err fault) → (out : Result B F) → IsErr out → Turns start end a z out
  not_begun {fault} h = turns_err h.survives.clean (λ was clean db left.
      inl (((frame.fails_to_begin HoldsStage (codes "BEGIN") a z (begin_is a.now.schema) fault h).rests start was clean).held.crash db left))

  pub breaks : {R A E : Type 0} {Holds : Database → R → Type 0} {now next : R} {b : State} {e : E} → Within Holds start a b now
      → Advances Holds {A = A} now next b z (Err e) → (out : Result B F) → IsErr out → Turns start end a z out
  breaks h step = turns_err (omega (arith, h.wears, step.wears)) (λ was clean db left.
      inl (h.crash was (omega (arith, step.wears, clean)) db (step.crash (h.sees was) clean db left)))

  pub not_ended : {b : State} {fault : Fault} → Within HoldsStage start a b end → RunsText b z (codes "COMMIT") [] (Err fault) → (out : Result B F) → IsErr out
      → Turns start end a z out
  not_ended {b} {fault} h last = turns_err (omega (arith, h.wears, last.survives.clean)) (λ was clean.
      (frame.not_committed HoldsStage (codes "COMMIT") b z (commit_is b.now.schema) end start (h.sees was) (h.crash was) fault last clean).crash)

  pub ended : {b : State} → Within HoldsStage start a b end → RunsText b z (codes "COMMIT") [] (Ok tt) → IsSettled z → (x : B)
      → Turns {E = F} start end a z (Ok x)
  ended {b} h last settled x = record {
    wears = omega (arith, h.wears, last.survives.clean);
    turns = λ was. frame.committed_rests HoldsStage (codes "COMMIT") b z (commit_is b.now.schema) end (h.sees was) last settled;
  }
