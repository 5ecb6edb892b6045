-- What a call leaves that a migration makes too.
use Rattle.desk_store.proofs.Common.{◌≡◌, ℕ, List, Option, Ok, IfOk, Sees, Result, Row, arith, refl, sym, subst, Database, State, Fault, RunsText, TakesFirst}
use Rattle.desk_store.proofs.Common.{Knows}
use Rattle.desk_store.proofs.Common.{HoldsTables, Place}
use Rattle.std.specs.Prelude.{Err, IsErr}
use Rattle.sqlite.specs.Effect.{IsDatabase}
use Rattle.sqlite.specs.Source.{Source}
use Rattle.sql_calls.specs.Standing.{Advances}
use Rattle.sql_calls.proofs.Framing.{wrote_rows}
use Rattle.sql_calls.proofs.Leavings.{crash_kept, never_shows_inside}
use Rattle.sql_calls.proofs.Stepping.{ran}
use Rattle.sql_front.specs.Stands.{Stands}
use Rattle.desk_records.proofs.MeaningWords.{Puts, put_at}
use Rattle.desk_records.specs.Schema.{name_of, table_at}
use Rattle.desk_store.specs.Sharing.{HasTables}
use Rattle.desk_store.proofs.Known.{tables_know}
use Rattle.desk_store.proofs.ReadLemmas.{first_sees}

-- ---- a query, whatever its first row is read as

any_tables : {sql : List ℕ} → Knows HoldsTables sql → Knows HasTables sql
any_tables knows db _ holds = knows db holds.0 holds.1

read_sees : {R : Type 0} (Holds : Database → R → Type 0) {sql : List ℕ} {params : Row} {old new : State} → Knows Holds sql
    → (taken : Result (Option Row) Fault) → TakesFirst old new sql params taken → {A : Type 0} (out : Result A Fault) → (IsErr taken → IsErr out) → (r : R)
    → IfOk out (λ a. Sees Holds old r → Sees Holds new r)
read_sees Holds {params = params} {old = old} {new = new} knows (Ok row) h (Ok a) bad r = first_sees Holds params old new knows row h r
read_sees Holds knows (Err fault) h (Ok a) bad r = absurd (let it = bad refl in cc)
read_sees Holds knows taken h (Err e) bad r = tt

pub read_advances : {sql : List ℕ} {params : Row} {old new : State} → Knows HoldsTables sql → {taken : Result (Option Row) Fault}
    → TakesFirst old new sql params taken → {A : Type 0} (out : Result A Fault) → (IsErr taken → IsErr out) → Advances HasTables tt tt old new out
read_advances knows {taken} h out bad = let seen = read_sees HasTables (any_tables knows) taken h out bad tt in grind (arith, crash_kept, never_shows_inside)

-- ---- a statement that adds a row

still : (old new : Database) → HasTables old tt → new.schema ≡ old.schema → IsDatabase new → HasTables new tt
still old new h same sound = (
  λ p. new.trees (h.1.spot p).tree,
  record {
    sound = sound;
    spot = h.1.spot;
    stands = λ p. subst (λ s. Stands s (name_of p) (h.1.spot p).at (table_at p (h.1.spot p).tree)) (sym same) (h.1.stands p);
    rows = λ p. refl;
  },
)

pub put_advances : {p : Place} {sql : List ℕ} {source : Source} → Puts p sql source → {params : Row} {old new : State} → {out : Result (Unit {0}) Fault}
    → RunsText old new sql params out → Advances HasTables tt tt old new out
put_advances {sql = sql} text {params} {old} {new} {out} = ran HasTables sql params old new tt tt (λ h. tables_know (put_at text) old.now h.0 h.1) (λ h. refl)
    (λ holds count runs.
    let it = wrote_rows old new _ _ params count refl runs in
    (it.0, still old.now new.now holds it.1 it.0.sound)) out
