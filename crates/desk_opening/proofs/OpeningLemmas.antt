-- The row of `desk` is read in a change that is given up.
use Rattle.desk_opening.proofs.Common.{inl, inr, [], codes, Option, Ok, Err, IsErr, Result, subst, arith, Begin, Select, Database, State, HasCleanDisk}
use Rattle.desk_opening.proofs.Common.{Fault}
use Rattle.desk_opening.proofs.Common.{RunsText, TakesFirst, Wears, Rests, Spoiled, Knows, runs_plain, begin_is, rollback_is, begins, fails_to_begin}
use Rattle.desk_opening.proofs.Common.{gives_up, Records, Desk, HoldsAt, HoldsPlace, Version, has_desk, None, Some, GET_DESK, desk_query, get_desk_is}
use Rattle.desk_opening.proofs.Common.{OpenFault, Keeps, TakesDeskRow, TellsVersion, asked_at}
use Rattle.sqlite.specs.Order.{Row}
use Rattle.desk_opening.specs.Migrating.{HoldsOf}
use Rattle.desk_opening.specs.Opening.{KeepsTo}
use Rattle.sql_calls.specs.Standing.{FrameTo}
use Rattle.sql_calls.proofs.Framing.{first_frames}

-- ---- of one relation

module _ (Holds : Database → Records → Type 0) (knows : Knows Holds GET_DESK.now) (a b : State) where
  begin_leaves : (fault : Fault) → RunsText a b (codes "BEGIN") [] (Err fault) → KeepsTo {A = Unit {0}} Holds a b (Err fault)
  begin_leaves fault h r was clean db left = ((fails_to_begin Holds (codes "BEGIN") a b (begin_is a.now.schema) fault h).rests r was clean).held.crash db left

  module _ (first : RunsText a b (codes "BEGIN") [] (Ok tt)) (c : State) where
    module _ (took : Result (Option Row) Fault) (second : TakesFirst b c GET_DESK.now [] took) (d : State) where
      taken : (r : Records) → Rests Holds a r → Spoiled Holds c r
      taken r was =
          let opens = (begins Holds (codes "BEGIN") a b (begin_is a.now.schema) first).opens r was in
          elim took as (λ out. FrameTo Holds b c out → Spoiled Holds c r) [ Ok row ↦ λ frame. (frame r opens).spoiled | Err fault ↦ λ frame. frame r opens ]
          (first_frames Holds GET_DESK.now [] b c knows took second)

      end_leaves : (fault : Fault) → RunsText c d (codes "ROLLBACK") [] (Err fault) → KeepsTo {A = Unit {0}} Holds a d (Err fault)
      end_leaves fault h r was clean db left =
          elim (((gives_up Holds (codes "ROLLBACK") c d (rollback_is c.now.schema) (Err fault) h).gives_up r (taken r was) clean).crash db left)
          [ inl one ↦ one | inr other ↦ other ]

      end_keeps : RunsText c d (codes "ROLLBACK") [] (Ok tt) → (r : Records) → Rests Holds a r → Rests Holds d r
      end_keeps h r was = (gives_up Holds (codes "ROLLBACK") c d (rollback_is c.now.schema) (Ok tt) h).gives_up r (taken r was)

-- ---- of records in one version, and in any

knows_at : (v : Version) → Knows (HoldsAt v) GET_DESK.now
knows_at v db r holds =
    let spot = holds.spot Desk in
    record {
      command = Select (record { lets = []; body = desk_query spot.tree }) _;
      means = (asked_at get_desk_is).at db.schema spot.at spot.tree (has_desk v (λ t. HoldsPlace v db r (holds.spot t) t) holds.tables).0;
    }

knows_of : (o : Option Version) → Knows (HoldsOf o) GET_DESK.now
knows_of None db r (v, holds) = knows_at v db r holds
knows_of (Some v) db r holds = knows_at v db r holds

module _ (a b : State) where
  pub not_begun : {A E : Type 0} {fault : Fault} → RunsText a b (codes "BEGIN") [] (Err fault) → (out : Result A E) → IsErr out → Keeps a b out
  not_begun h (Ok x) bad = absurd cc
  not_begun {fault = fault} h (Err e) bad = record {
    wears = h.survives.clean;
    keeps = λ o. begin_leaves (HoldsOf o) (knows_of o) a b fault h;
    opened = tt;
  }

  module _ (first : RunsText a b (codes "BEGIN") [] (Ok tt)) (c : State) (row : TakesDeskRow b c) (d : State) where
    wears : Wears c d → Wears a d
    wears last = omega (arith, first.survives.clean, row.takes.survives.clean, last)

    pub not_ended : {A E : Type 0} (fault : Fault) (e : E) → RunsText c d (codes "ROLLBACK") [] (Err fault) → Keeps {A = A} a d (Err e)
    not_ended fault e h = record {
      wears = wears h.survives.clean;
      keeps = λ o. end_leaves (HoldsOf o) (knows_of o) a b first c row.took row.takes d fault h;
      opened = tt;
    }

    -- whatever was found
    pub ended : {A E : Type 0} (out : Result A E) → RunsText c d (codes "ROLLBACK") [] (Ok tt) → Keeps a d out
    ended (Ok x) h = record {
      wears = wears h.survives.clean;
      keeps = λ o. end_keeps (HoldsOf o) (knows_of o) a b first c row.took row.takes d h;
      opened = λ clean. let done = first.runs (omega (arith, clean, row.takes.survives.clean, h.survives.clean)) in
          (runs_plain (codes "BEGIN") Begin [] a b (begin_is a.now.schema) done.0 done.1).1.was_open;
    }
    ended (Err e) h = record {
      wears = wears h.survives.clean;
      keeps = λ o r was clean. (end_keeps (HoldsOf o) (knows_of o) a b first c row.took row.takes d h r was clean).held.crash;
      opened = tt;
    }

    -- what the change sees is what was there
    pub tells_before : (out : Result Version OpenFault) → Wears c d → (HasCleanDisk c → TellsVersion b.now out) → HasCleanDisk d → TellsVersion a.now out
    tells_before out last told clean =
        let between : HasCleanDisk c = omega (arith, last, clean) in
        let done = first.runs (omega (arith, between, row.takes.survives.clean)) in
        subst (λ db. TellsVersion db out) (runs_plain (codes "BEGIN") Begin [] a b (begin_is a.now.schema) done.0 done.1).1.now_is (told between)
