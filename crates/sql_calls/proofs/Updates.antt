-- What UPDATE and DELETE do to a table that has no foreign key, for any schema, whatever foreign keys refer to the table.
use Rattle.sql_calls.proofs.Common.{[], ◌≡◌, ℕ, List, slice_get, Option, Some, None, Ok, sym, subst, Row, Trees, Table, Schema, Enforced, Program, Update}
use Rattle.sql_calls.proofs.Common.{Delete, edit_of, ids_of, Given, Written, Database, Answers, State, Writes, has_got, HasNoForeignKey, refl, Edit, taken_by}
use Rattle.sqlite_rules.specs.Action.{Writes as Edits}
use Rattle.sqlite.specs.Rows.{Then, Gives, Edited, Queried}
use Rattle.sql_calls.proofs.Actions.{Rewritten, rewritten}
use Rattle.sql_calls.proofs.Inserts.{went, edits_to, writes_at}

-- the rows that the query shows go by their rowids, and new ones made of them come
pub record Answered (schema : Schema) (table : Table) (width : ℕ) (news : List Row → List Row) (q : Program) (params : Row) (old new : Database) : Type 0 where
  pub schema_is : new.schema ≡ schema
  pub rows : List Row
  pub answers : Answers (record { schema = schema; trees = old.trees }) q params rows
  pub applies : Rewritten schema old.trees (edit_of old.trees table (ids_of rows) Given width (news rows)) new.trees

-- each row that the query shows is its old rowid and then the new row
abbrev pub Updated : Schema → Table → Program → Row → Database → Database → Type 0
Updated schema table = Answered schema table 1 (λ rows. rows)

abbrev pub Deleted : Schema → Table → Program → Row → Database → Database → Type 0
Deleted schema table = Answered schema table 0 (λ rows. [])

module _ (limit : Option ℕ) (schema : Schema) (table : Table) (params : Row) (q : Program) (db : Trees) (width : ℕ) (news : List Row → List Row) where
  abbrev edit_by : List Row → Edit
  edit_by rows = edit_of db table (ids_of rows) Given width (news rows)

  abbrev pub EditsBy : (Edit → List Row) → Written → Type 0
  EditsBy noted w = Then (Queried limit (record { schema = schema; trees = db }) q params) (λ rows. Then (Edited schema Enforced db (edit_by rows))
      (λ next. Gives (record { trees = next; rows = noted (edit_by rows); last = None }))) (Ok w)

  pub edited_by : (noted : Edit → List Row) (w : Written) → EditsBy noted w → (rows : List Row)
      × Answers (record { schema = schema; trees = db }) q params rows × Edits schema Enforced db (edit_by rows) (Ok w.trees)
  edited_by noted w h = let given = went h in (given.0, given.1, edits_to schema db (edit_by given.0) _ _ w given.2)

module _ (schema : Schema) (at : ℕ) (table : Table) (q : Program) (there : slice_get schema.tables at ≡ Some table) (free : HasNoForeignKey schema table.tree)
    (old new : State) (has : old.now.schema ≡ schema) (text : List ℕ) (params : Row) (count : ℕ) where
  answered : (width : ℕ) (news : List Row → List Row) (noted : Edit → List Row) (w : Written)
      → EditsBy old.step_limit schema table params q old.now.trees width news noted w → new.now ≡ record { schema = schema; trees = w.trees }
      → Answered schema table width news q params old.now new.now
  answered width news noted w h now =
      let db = old.now.trees in
      let made = edited_by old.step_limit schema table params q db width news noted w h in
      subst (Answered schema table width news q params old.now) (sym now) (record {
        schema_is = refl;
        rows = made.0;
        answers = made.1;
        applies = rewritten schema Enforced db w.trees (edit_of db table (ids_of made.0) Given width (news made.0)) free (has_got schema.tables at table there)
            made.2;
      })

  pub updates : Writes old new None (Update at q) text params count → Updated schema table q params old.now new.now
  updates w =
      let it = writes_at schema at table there old has params (Update at q) w.tally new.now w.changed in
      answered 1 (λ rows. rows) (λ edit. edit.news) it.0 it.1 it.2

  pub deletes : Writes old new None (Delete at q) text params count → Deleted schema table q params old.now new.now
  deletes w =
      let it = writes_at schema at table there old has params (Delete at q) w.tally new.now w.changed in
      answered 0 (λ rows. []) (taken_by old.now.trees) it.0 it.1 it.2
