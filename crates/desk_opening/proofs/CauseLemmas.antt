-- Why an opening is a failed store: only by a call that failed, where what was there can be read.
use Rattle.desk_opening.proofs.Common.{◌≡◌, refl, [], Ok, Err, Result, ap, subst, sym, State, state, still_holds, Schema}
use Rattle.desk_opening.proofs.Common.{Fault, HoldsLedger, HoldsRecords, Version, ◌≤◌, newest, at_newest, Migrates, HasDeskTables, IsKnownOpen, OpenFault}
use Rattle.desk_opening.proofs.Common.{RunsText, MakesTables, codes, SET_VERSION, later_than, bare_ledger, ◌≢◌, Store, TellsFirst, nothing}
use Rattle.sqlite.specs.Store.{Ghosts}
use Rattle.sql_calls.specs.declared.calls.Calls.{Calls}
use Rattle.sql_calls.specs.declared.fault.Fault.TheVariants.{Broken}
use Rattle.desk_opening.specs.Counting.{CountsWhere, IsReadableAt}
use Rattle.desk_opening.specs.private.Filling.{GivenBare}
use Rattle.desk_opening.proofs.MigrateLemmas.{sees_bare, stood}
use Rattle.desk_opening.proofs.HeldLemmas.{has_tables}

-- the tables that were made are found
pub looked_fails : {S : Type 0} (g : Ghosts S) (v : Version) {a z : Calls S} → a.failures ≤ z.failures
    → Migrates {A = Unit {0}} {E = OpenFault} v (state g a.conn) (state g z.conn) (Ok tt) → IsKnownOpen (state g z.conn)
    → (schema : Schema) → schema ≡ (state g z.conn).now.schema → (out : Result (Unit {0}) OpenFault) → (out ≡ Err Store → ¬ HasDeskTables newest schema)
    → CountsWhere (IsReadableAt v (state g a.conn) (state g z.conn)) a z out
looked_fails g v grows m opened schema here (Ok x) missing = record { grows = grows; cause = tt }
looked_fails g v {z = z} grows m opened schema here (Err e) missing = record {
  grows = grows;
  cause = λ it is.
      let r = it.0 in
      let held : HoldsRecords (state g z.conn).now r = still_holds HoldsRecords (state g z.conn) r (m.migrates r it.1 it.3) (opened it.3) in
      let tables = has_tables (state g z.conn).now r newest (at_newest (state g z.conn).now r held) in
      absurd (missing (ap (λ f. Err f) is) (subst (HasDeskTables newest) (sym here) tables));
}

-- the later tables are filled
pub fill_sound : (v : Version) {a b c d e : State} → RunsText a b (codes "BEGIN") [] (Ok tt)
    → MakesTables {A = Unit {0}} {E = OpenFault} (later_than v) b c (Ok tt) → RunsText c d SET_VERSION.now [] (Ok tt)
    → (f : Fault) → TellsFirst HoldsLedger (GivenBare v) nothing {A = Unit {0}} d e (Err f) → IsReadableAt v a e → f ≢ Broken
fill_sound v first second third f h it broken = (h.to (bare_ledger v it.0) (sees_bare v it.0 first second third (stood v it.0 it.1))
    (record { records = it.0; bare = refl; readable = it.2 })).reason broken it.3
