-- What was read is taken over.
use Rattle.desk_opening.proofs.Common.{◌≡◌, inr, Ok, Err, Result, IfErr, IsTrue, sym, subst, arith, Trees, Database, State, HasCleanDisk, StandsSomewhere}
use Rattle.desk_opening.proofs.Common.{HoldIn, IsAtRest, Rests, still_holds, Wears, Records, desk_table, HoldsAt, HoldsReadable, newest, Version, from_newest}
use Rattle.desk_opening.proofs.Common.{OpenFault, HoldsFrom, HoldsOf, LeftOf, Migrates, MovesTo, None, Option, Some}
use Rattle.desk_opening.proofs.Common.{Adopts, HasDeskAt, HasRow, IsDeskRow, IsFailure, IsSettled, Keeps, TellsVersion}
use Rattle.desk_opening.proofs.HeldLemmas.{same_version}
use Rattle.desk_opening.proofs.Steps.{open_at_rest, rests_as}

-- ---- the version that the row names

at_row : (db : Database) (r : Records) (v : Version) → HasRow db (IsDeskRow v) → HoldsReadable db r → HoldsAt v db r
at_row db r v row (w, holds) = subst (λ u. HoldsAt u db r) (sym (same_version db r w holds v row)) holds

rest_at : (s : State) → IsSettled s → IsTrue s.is_open → (v : Version) → HasRow s.now (IsDeskRow v) → (r : Records) → IsAtRest HoldsReadable s r
    → IsAtRest (HoldsAt v) s r
rest_at s settled on v row r was = open_at_rest (HoldsAt v) s r settled was.mode was.held.ended on
    (at_row s.committed r v (subst (λ d. HasRow d (IsDeskRow v)) (was.held.ended was.mode on) row) (was.held.kept_holds on))

-- ---- what is made of older tables

pub stays_newest : {E : Type 0} (v : Version) → v ≡ newest → (s : State) → Migrates {A = Unit {0}} {E = E} v s s (Ok tt)
stays_newest v is s = grind (arith, rests_as, from_newest)

-- the tables were looked at again
pub looked_at : {E F : Type 0} (v : Version) (a z : State) → Migrates {A = Unit {0}} {E = F} v a z (Ok tt) → (out : Result (Unit {0}) E) → Migrates v a z out
looked_at v a z h (Ok x) = record { wears = h.wears; migrates = h.migrates }
looked_at v a z h (Err e) = record {
  wears = h.wears;
  migrates = λ r was clean db left. let found = (h.migrates r was clean).held.crash db left in
      (found.0, inr found.1);
}

-- in the one version or the other
one_or_other : (v : Version) (r : Records) (db : Trees) → HoldIn (HoldsFrom v) db r → HoldIn (LeftOf None) db r
one_or_other v r db h3 = grind arith

-- ---- the whole

-- a desk of this version was found, and its tables become those of the newest
module _ (old mid : State) (table : StandsSomewhere old.now.schema (desk_table 0)) (v : Version) (k : Keeps {E = OpenFault} old mid (Ok v))
    (tells : HasCleanDisk mid → TellsVersion old.now (Ok v)) (settled : IsSettled old) (new : State) where
  found : HasCleanDisk mid → HasDeskAt old.now v
  found clean = tells clean table

  stood : Wears mid new → HasCleanDisk new → (r : Records) → Rests HoldsReadable old r → Rests (HoldsAt v) mid r
  stood wears clean r was =
      let between : HasCleanDisk mid = omega (arith, clean, wears) in
      let before : HasCleanDisk old = omega (arith, between, k.wears) in
      k.keeps (Some v) r (λ _. rest_at old settled (k.opened between) v (found between).row r (was before))

  -- the version that they stood in is the one that the row names
  moved_at : (w : Version) → Wears mid new → HasCleanDisk new → (r : Records) → Rests (HoldsAt w) old r → v ≡ w
  moved_at w wears clean r was = grind (arith, same_version, still_holds, found)

  pub stood_at : (w : Version) → Wears mid new → HasCleanDisk new → (r : Records) → Rests (HoldsAt w) old r → Rests (HoldsAt v) mid r
  stood_at w wears clean r was = subst (λ u. Rests (HoldsAt u) mid r) (sym (moved_at w wears clean r was)) (k.keeps (Some w) r was)

  stood_of : (o : Option Version) → Wears mid new → HasCleanDisk new → (r : Records) → Rests (HoldsOf o) old r → Rests (HoldsAt v) mid r
  stood_of o = grind (arith, stood, stood_at)

  still : (o : Option Version) {A : Type 0} {e : OpenFault} → Migrates {A = A} v mid new (Err e) → MovesTo {A = A} o old new (Err e)
  still None m r was clean db left = one_or_other v r db (m.migrates r (stood m.wears clean r was) clean db left)
  still (Some w) m r was clean db left = subst (λ u. HoldIn (HoldsFrom u) db r) (moved_at w m.wears clean r was)
      (m.migrates r (stood_at w m.wears clean r was) clean db left)

  pub adopts_renewed : {A : Type 0} (out : Result A OpenFault) → Migrates v mid new out → IfErr out IsFailure → Adopts old new out
  adopts_renewed (Ok x) m fails = record {
    wears = omega (arith, k.wears, m.wears);
    takes = λ o r was clean. m.migrates r (stood_of o m.wears clean r was) clean;
    tells = λ clean. let it = found (omega (arith, clean, m.wears)) in record { version = v; tables = it.tables; row = it.row };
  }
  adopts_renewed (Err e) m fails = record { wears = omega (arith, k.wears, m.wears); takes = λ o. still o m; tells = λ clean. grind arith }
