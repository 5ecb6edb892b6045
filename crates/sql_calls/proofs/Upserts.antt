-- What INSERT .. VALUES of one row with one clause ON CONFLICT does to a table that has no foreign key, for any schema.
use Rattle.sql_calls.proofs.Common.{[], ◌≡◌, ◌⊎◌, ℕ, List, ◌∷◌, ◌++◌, Option, Some, None, Ok, ap, Row, Trees, Table, Schema, Enforced, Program, edit_of}
use Rattle.sql_calls.proofs.Common.{Applies, ids_of, Given, Written, Task, shown, rowid, AreConflicts, Upsert, Abort, Answers, one_step, Has, HasNoForeignKey}
use Rattle.sql_calls.proofs.Common.{arith}
use Rattle.sqlite.specs.Rows as rows
use Rattle.sqlite_rules.specs.declared.error.Refusal.{Refusal}
use Rattle.sql_calls.proofs.Actions.{Rewritten, rewritten}
use Rattle.sql_calls.proofs.Inserts.{same_value, no_works, uncounted, edits_to}
use Rattle.sql_calls.proofs.Updates.{edited_by}

abbrev pub Resolved : Schema → Table → Row → Option Program → Row → Row → Trees → Trees → Type 0
Resolved schema table params None there new db next = next ≡ db
Resolved schema table params (Some q) there new db next =
    (rows : List Row) × Answers (record { schema = schema; trees = db }) q (params ++ rowid there ∷ shown table new) rows
    × Rewritten schema db (edit_of db table (ids_of rows) Given 1 rows) next

-- the row goes in where no row has its key, and else the clause says what becomes of the row that has it
abbrev pub Puts : Schema → Table → Row → Option (List ℕ) → Option Program → Row → Trees → Trees → Type 0
Puts schema table params target update new db next =
    (AreConflicts target schema.indexes table (db table.tree) new [] × Applies schema Enforced db (edit_of db table [] Given 0 (new ∷ [])) next)
    ⊎ ((there : Row) × (more : List Row) × AreConflicts target schema.indexes table (db table.tree) new (there ∷ more)
    × Resolved schema table params update there new db next)

module _ (limit : Option ℕ) (schema : Schema) (bare : Table) (params : Row) (target : Option (List ℕ)) (update : Option Program)
    (listed : Has schema.tables (uncounted bare)) (free : HasNoForeignKey schema bare.tree) (db : Trees) where
  abbrev table : Table
  table = uncounted bare

  abbrev task : Task
  task = record { limit = limit; keys = Enforced; schema = schema; table = uncounted bare; params = params }

  abbrev clause : Upsert
  clause = record { target = target; update = update }

  put_in : (new : Row) (w : Written) → rows.Puts task new db (Ok w) → Applies schema Enforced db (edit_of db table [] Given 0 (new ∷ [])) w.trees
  put_in new w h =
      let edit = edit_of db table [] Given 0 (new ∷ []) in
      one_step schema Enforced db w.trees edit (no_works schema table.tree edit.news) (edits_to schema db edit _ _ w h)

  resolved : (new there : Row) (w : Written) (u : Option Program) → rows.Resolves task new db there u (Ok w)
      → Resolved schema table params u there new db w.trees
  resolved new there w None h = ap (λ (it : Written). it.trees) (same_value h)
  resolved new there w (Some q) h =
      let made = edited_by limit schema table (params ++ rowid there ∷ shown table new) q db 1 (λ rows. rows) (λ edit. edit.news) w h in
      let edit = edit_of db table (ids_of made.0) Given 1 made.0 in
      (made.0, made.1, rewritten schema Enforced db w.trees edit free listed made.2)

  met : (new : Row) (w : Written) (found : List Row) → AreConflicts target schema.indexes table (db table.tree) new found
      → rows.Meets task (rows.Upserts task Abort new db []) new db clause found (Ok w) → Puts schema table params target update new db w.trees
  met new w found conflicts h = grind (arith, put_in, resolved)

  judged : (new : Row) (w : Written) (verdict : Option Refusal) → rows.Judged task Abort (clause ∷ []) new db verdict (Ok w)
      → Puts schema table params target update new db w.trees
  judged new w None h = met new w h.0 h.1 h.2
  judged new w (Some why) h = absurd (let e = h in cc)

  pub tried : (new : Row) (w : Written) → rows.Tries task Abort (clause ∷ []) new db (Ok w) → Puts schema table params target update new db w.trees
  tried new w h2 = grind (arith, judged)
