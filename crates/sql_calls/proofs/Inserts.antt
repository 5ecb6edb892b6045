-- What INSERT .. VALUES does, for any schema.
use Rattle.sql_calls.proofs.Common.{[], ◌∷◌, ◌≡◌, ◌⊎◌, ℕ, ◌/◌, filter_map, refl, List, length, slice_get, false, Option, Some, None, Ok, Err, Result, sym, ap}
use Rattle.sql_calls.proofs.Common.{subst, ◌∙◌, Row, Trees, Term, Table, Schema, Enforced, Values, Insert, edit_of, Reference, ParentKey, Deed, work_by, works}
use Rattle.sql_calls.proofs.Common.{Chosen, Tally, OnRows, Written, Task, stamped, Database, value_rows, State, Command, Edit, ℤ, mode_of, Writes, one_step}
use Rattle.sql_calls.proofs.Common.{IsSource, Source, arith}
use Rattle.sqlite_rules.specs.Action.{Writes as Edits}
use Rattle.sqlite.specs.Rows.{Then, Gives, Edited}
use Rattle.sqlite.specs.Does.{OnTable, WritesRows}
use Rattle.sql_calls.proofs.Actions.{Rewritten, applied}
use Rattle.sqlite_keyed.proofs.ListLemmas.{flat_map_none}

pub went : {B E R : Type 0} {b : B} {Stops : E → Type 0} → ((stop : E) × Stops stop × (Ok b ≡ Err stop)) ⊎ R → R
went h = grind arith

pub same_value : {B E : Type 0} {a b : B} → ◌≡◌ {A = Result B E} (Ok a) (Ok b) → a ≡ b
same_value e = cc

abbrev pub given_rows : Table → Row → List Term → ℕ → List Row
given_rows table params terms width = value_rows (stamped table params) width (length terms / width) terms

-- of an edit, and then a word on it
pub edits_to : (schema : Schema) (db : Trees) (edit : Edit) (rows : List Row) (last : Option ℤ) (w : Written)
    → Then (Edited schema Enforced db edit) (λ next. Gives (record { trees = next; rows = rows; last = last })) (Ok w)
    → Edits schema Enforced db edit (Ok w.trees)
edits_to schema db edit rows last w h = grind (arith, went, same_value)

-- what a command that writes rows leaves: what it writes, and the schema
module _ (schema : Schema) (at : ℕ) (table : Table) (there : slice_get schema.tables at ≡ Some table) (old : State) (has : old.now.schema ≡ schema)
    (params : Row) where
  abbrev pub task_at : Task
  task_at = record { limit = old.step_limit; keys = Enforced; schema = schema; table = table; params = params }

  pub writes_at : (command : Command) (tally : Tally) (now : Database)
      → OnTable old.step_limit (mode_of old) params old.now at (λ task. OnRows task (mode_of old) None command old.now.trees) (Ok (tally, now))
      → (w : Written) × WritesRows task_at old.now.trees command (Ok w) × (now ≡ record { schema = schema; trees = w.trees })
  writes_at command tally now h = grind (arith, went, same_value)

-- the schema stays, and the table has the rows as it casts them
pub record Inserted (schema : Schema) (table : Table) (rows : List Row) (old new : Database) : Type 0 where
  pub schema_is : new.schema ≡ schema
  pub applies : Rewritten schema old.trees (edit_of old.trees table [] Chosen 0 rows) new.trees

-- a table without AUTOINCREMENT; a table that is written out is its own
abbrev pub uncounted : Table → Table
uncounted table = record table { is_counted = false }

-- no foreign key acts where no row is taken away
no_work : (depth tree : ℕ) (child : Table) (ref : Reference) (deed : Option Deed) (key : Option ParentKey) → work_by depth tree [] child ref deed key ≡ None
no_work depth tree child ref deed key = grind arith

none_for : {A B : Type 0} (f : A → Option B) → ((x : A) → f x ≡ None) → (xs : List A) → filter_map f xs ≡ []
none_for f none [] = refl
none_for f none (x ∷ xs) = rw (none x) (none_for f none xs)

pub no_works : (schema : Schema) (tree : ℕ) (news : List Row) → works schema Enforced 0 tree [] news ≡ []
no_works schema tree news = grind (arith, flat_map_none, filter_map, none_for, no_work)

-- the rows of a source, and what became of them
pub record InsertedFrom (schema : Schema) (table : Table) (params : Row) (from : Source) (old new : Database) : Type 0 where
  pub sources : List Row
  pub is_source : IsSource (record { schema = schema; trees = old.trees }) (stamped table params) from sources
  pub inserted : Inserted schema table sources old new

pub inserts_from : (schema : Schema) (at : ℕ) (table : Table) (from : Source) → slice_get schema.tables at ≡ Some (uncounted table)
    → (old new : State) → old.now.schema ≡ schema → (text : List ℕ) (params : Row) (count : ℕ) → Writes old new None (Insert at from) text params count
    → InsertedFrom schema (uncounted table) params from old.now new.now
inserts_from schema at table from there old new has text params count w =
    let db = old.now.trees in
    let it = writes_at schema at (uncounted table) there old has params (Insert at from) w.tally new.now w.changed in
    let given = went it.1 in
    let written = went (went given.2).2 in
    let counted = went written.2 in
    let edit = edit_of db (uncounted table) [] Chosen 0 given.0 in
    let trees : it.0.trees ≡ written.0 = ap (λ (it : Written). it.trees) (same_value counted.2) ∙ same_value counted.1 in
    let step = subst (λ next. Edits schema Enforced db edit (Ok next)) (sym trees) written.1 in
    let placed = applied schema Enforced db it.0.trees edit (one_step schema Enforced db it.0.trees edit (no_works schema table.tree edit.news) step) in
    subst (InsertedFrom schema (uncounted table) params from old.now) (sym it.2)
    (record { sources = given.0; is_source = given.1; inserted = record { schema_is = refl; applies = placed } })

pub inserts : (schema : Schema) (at : ℕ) (table : Table) (terms : List Term) (width : ℕ) → slice_get schema.tables at ≡ Some (uncounted table)
    → (old new : State) → old.now.schema ≡ schema → (text : List ℕ) (params : Row) (count : ℕ)
    → Writes old new None (Insert at (Values terms width)) text params count
    → Inserted schema (uncounted table) (given_rows (uncounted table) params terms width) old.now new.now
inserts schema at table terms width there old new has text params count w =
    let it = inserts_from schema at table (Values terms width) there old new has text params count w in
    subst (λ rs. Inserted schema (uncounted table) rs old.now new.now) it.is_source.1 it.inserted
