-- What INSERT of a query's rows with one clause ON CONFLICT does to a table that has no foreign key, for any schema: the rows are put one after the other.
use Rattle.sql_calls.proofs.Common.{all_from, [], ◌≡◌, ◌≢◌, ℕ, ℤ, List, ◌∷◌, slice_get, Option, Some, None, Ok, sym, ap, subst, Row, Key, Term, IsAnswer, Trees}
use Rattle.sql_calls.proofs.Common.{Table, Schema, Enforced, Program, Source, InsertOr, Chosen, Written, Task, shown, stamped, cast_row, with_rowid, Upsert}
use Rattle.sql_calls.proofs.Common.{Abort, Database, IsSource, State, Writes, Has, all_has, has_got, HasNoForeignKey, refl, arith}
use Rattle.sqlite_value.specs.declared.keys.Collation.{Collation}
use Rattle.sql_calls.proofs.Selects.{by, simple}
use Rattle.sqlite.specs.Rows as rows
use Rattle.sql_calls.proofs.Inserts.{went, same_value, uncounted, writes_at}
use Rattle.sql_calls.proofs.Upserts.{Puts, tried}

-- one after the other
abbrev pub PutsEach : Schema → Table → Row → Option (List ℕ) → Option Program → List Row → Trees → Trees → Type 0
PutsEach schema table params target update [] db next = next ≡ db
PutsEach schema table params target update (source ∷ more) db next =
    (mid : Trees) × Puts schema table params target update (with_rowid Chosen (db table.tree) (cast_row table source)) db mid
    × PutsEach schema table params target update more mid next

module _ (limit : Option ℕ) (schema : Schema) (bare : Table) (params : Row) (target : Option (List ℕ)) (update : Option Program)
    (listed : Has schema.tables (uncounted bare)) (free : HasNoForeignKey schema bare.tree) where
  abbrev table : Table
  table = uncounted bare

  abbrev task : Task
  task = record { limit = limit; keys = Enforced; schema = schema; table = uncounted bare; params = params }

  abbrev clause : Upsert
  clause = record { target = target; update = update }

  each_tried : (sources : List Row) (top : ℤ) (start : Written) (done : Written × ℤ) → rows.TriesEach task Abort (clause ∷ []) sources top start (Ok done)
      → PutsEach schema table params target update sources start.trees done.0.trees
  each_tried [] top start done h = ap (λ (p : Written × ℤ). p.0.trees) (same_value h)
  each_tried (source ∷ more) top start done h =
      let one = went h in (
        one.0.trees,
        tried limit schema bare params target update listed free start.trees (with_rowid Chosen (start.trees table.tree) (cast_row table source))
            one.0 one.1,
        each_tried more _ (rows.joined start one.0) done one.2,
      )

  pub put_from : (from : Source) (db : Trees) (w : Written) → rows.InsertsOr task Abort (clause ∷ []) from db (Ok w)
      → (sources : List Row) × IsSource (record { schema = schema; trees = db }) (stamped table params) from sources
      × PutsEach schema table params target update sources db w.trees
  put_from from db w h = grind (arith, same_value, each_tried)

-- the rows of the source, and what became of them one after the other
pub record UpsertedFrom (schema : Schema) (table : Table) (params : Row) (target : Option (List ℕ)) (update : Option Program) (from : Source)
    (old new : Database) : Type 0 where
  pub schema_is : new.schema ≡ schema
  pub sources : List Row
  pub is_source : IsSource (record { schema = schema; trees = old.trees }) (stamped table params) from sources
  pub puts : PutsEach schema table params target update sources old.trees new.trees

pub upserts_from : (schema : Schema) (at : ℕ) (table : Table) (from : Source) (target : Option (List ℕ)) (update : Option Program)
    → slice_get schema.tables at ≡ Some (uncounted table) → HasNoForeignKey schema table.tree
    → (old new : State) → old.now.schema ≡ schema → (text : List ℕ) (params : Row) (count : ℕ)
    → Writes old new None (InsertOr at Abort from (record { target = target; update = update } ∷ [])) text params count
    → UpsertedFrom schema (uncounted table) params target update from old.now new.now
upserts_from schema at table from target update there free old new has text params count w =
    let it = writes_at schema at (uncounted table) there old has params (InsertOr at Abort from (record { target = target; update = update } ∷ []))
    w.tally new.now w.changed in
    let made = put_from old.step_limit schema table params target update (has_got schema.tables at (uncounted table) there) free from old.now.trees it.0
    it.1 in
    subst (UpsertedFrom schema (uncounted table) params target update from old.now) (sym it.2)
    (record { schema_is = refl; sources = made.0; is_source = made.1; puts = made.2 })

-- each other tree that no foreign key changes has its rows
pub each_keeps : (schema : Schema) (table : Table) (params : Row) (target : Option (List ℕ)) (update : Option Program) (sources : List Row) (db next : Trees)
    → PutsEach schema table params target update sources db next
    → (s : Table) → Has schema.tables s → HasNoForeignKey schema s.tree → s.tree ≢ table.tree → next s.tree ≡ db s.tree
each_keeps schema it_ params target update [] db next each s there free apart = ap (λ (d : Trees). d s.tree) each
each_keeps schema it_ params target update (source ∷ more) db next each s there free apart =
    grind (arith, each_keeps schema it_ params target update more each.0 next each.2 s there free apart, schema, update, each, all_from, all_has)

-- ---- the source

-- Without DISTINCT a query answers the same whatever the collations.
pub uncollated : (tree : ℕ) (test shown : List Term) (order : List (Term × Key)) (limit offset : Term) (collations : List Collation) (db : Trees) (params : Row)
    (rows : List Row)
    → IsAnswer (record (by (simple tree test shown) order limit offset) { collations = collations }) db params rows
    → IsAnswer (by (simple tree test shown) order limit offset) db params rows
uncollated tree test shown order limit offset collations db params rows a = grind arith
