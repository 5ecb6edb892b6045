-- INSERT .. SELECT .. ON CONFLICT means the same wherever its two tables stand in the schema.
use Rattle.sql_front.proofs.Common.{◌≡◌, inl, inr, refl, sym, ap, ◌∙◌, ℕ, ◌+◌, ◌==◌, true, false, ◌&&◌, Ok, List, [], ◌∷◌, ◌++◌, length, find, Some, slice_get}
use Rattle.sql_front.proofs.Common.{codes, Bool, ◌||◌, arith, eqb-true, eq-eqb, Query, Parsed, Draft, Schema, Table, Index, Has}
use Rattle.sql_front.proofs.Common.{Compiled, Name, Context, first, small, Stands}
use Rattle.sqlite_ast.specs.declared.Rows.TheVariants as rows
use Rattle.sqlite_ast.specs.declared.Select as written_select
use Rattle.sqlite_ast.specs.declared.Upsert as written_clause
use Rattle.sqlite_ast.specs.declared.Conflict.TheVariants as conflict
use Rattle.sqlite_ast.specs.declared.Statement.TheVariants as written
use Rattle.sqlite_schema.specs.declared.command.Source.TheVariants as source
use Rattle.sqlite_schema.specs.declared.command.Upsert.{Upsert}
use Rattle.sqlite_schema.specs.declared.command.Conflict.TheVariants as how
use Rattle.sqlite_schema.specs.declared.command.Command.TheVariants.{InsertOr}
use Rattle.sqlite_resolve.specs.Write.{places, updated_in}
use Rattle.sqlite_resolve.specs.Program.{program}
use Rattle.sqlite_resolve.specs.Given.{nested, given, with_given, at_rowid, key_at, is_key_at, are_among, key_meant, do_update, update, upsert, upserts}
use Rattle.sqlite_resolve.specs.Compile.{compiled, planned, meaning, timed, returning, command, shows, insert_or_abort, insert_or}
use Rattle.std.proofs.lemmas.Bool.Decides.{nat_tests}
use Rattle.sql_front.proofs.Past.{slice_past}
use Rattle.sql_front.proofs.Created.{slice_front}
use Rattle.sql_front.proofs.Select.{IsPlainTest}
use Rattle.sql_front.proofs.Plain.{plainly}
use Rattle.sql_front.proofs.Texts.{Becomes, fits_as, alone}
use Rattle.sql_front.proofs.Change.{ArePlainSets, updated_same}
use Rattle.sql_front.proofs.InsertSelect.{Fills, rows_known}
use Rattle.sql_front.proofs.Write.{unstamped}
use Rattle.sql_front.proofs.Lower.{Same}
use Rattle.sql_front.proofs.Levels.{one_level, placed_at, same_placed}
use Rattle.std.proofs.lemmas.Bool.{both_ways, cond_both}

abbrev pub excluded : Name
excluded = codes "excluded"

-- ---- the table, and the row that was to be added to it

module _ (table : Table) (base : ℕ) where
  -- what the clause reads
  abbrev pub on_conflict : Schema → ℕ → Context
  on_conflict s at = nested (with_given s table base) (one_level table.name 1 [] at) (one_level excluded 0 [] (length s.tables))

  excluded_at : (s : Schema) → slice_get (with_given s table base).tables (length s.tables) ≡ Some (given table base)
  excluded_at s = let none_more : length s.tables + 0 ≡ length s.tables = omega arith in ap (slice_get (s.tables ++ given table base ∷ [])) (sym none_more)
      ∙ slice_past s.tables (given table base ∷ []) 0

  on_conflict_same : (s z : Schema) (at there : ℕ) → slice_get s.tables at ≡ Some table → slice_get z.tables there ≡ Some table
      → Same (on_conflict s at) (on_conflict z there)
  on_conflict_same s z at there got own =
      let before = with_given s table base in
      let after = with_given z table base in
      same_placed before after (
      placed_at before after table.name 1 table at there (slice_front s.tables (given table base ∷ []) at table got)
      (slice_front z.tables (given table base ∷ []) there table own)
      ∷ placed_at before after excluded 0 (given table base) (length s.tables) (length z.tables) (excluded_at s) (excluded_at z) ∷ []) false true

-- what computes of a text that puts what a query over one table shows into another table, over those two alone
pub record Upserts (text : List ℕ) (name : Name) (table : Table) (from : Name) (read : Table) (body : Query) (key : List ℕ) (setter : Query) : Type 0 where
  pub parsed : Parsed
  pub columns : List Name
  pub select : written_select.Select
  pub clause : written_clause.Upsert
  pub parses : (first text ≡ Ok parsed) × (parsed.statement ≡ written.Insert conflict.Abort name columns (rows.Select select) (clause ∷ []) [])
      × (parsed.formats ≡ [])
  pub fills : Fills (small parsed.names + small []) columns select table from read body
  -- the clause
  pub aimed : ((length clause.target == 0) ≡ false) × (places (unstamped table) clause.target ≡ Ok key) × ((length clause.sets == 0) ≡ false)
  pub values : ArePlainSets clause.sets
  pub filter : IsPlainTest clause.filter
  pub draft : Draft
  pub updated : updated_in (on_conflict (unstamped table) (small parsed.names + small []) (alone (unstamped table)) 0) (unstamped table) clause.sets
      clause.filter ≡ Ok draft
  pub sets : Becomes (unstamped table) (at_rowid (small parsed.names + small []) draft) setter

abbrev pub upsert_of : List ℕ → Query → Upsert
upsert_of key setter = record { target = Some key; update = Some (record { lets = []; body = setter }) }

abbrev pub with_upsert : Parsed → ℕ → Query → Upsert → Compiled
with_upsert p at body clause = plainly p (InsertOr at how.Abort (source.Query (record { lets = []; body = body })) (clause ∷ []))

module _ (text : List ℕ) (name : Name) (table : Table) (from : Name) (read : Table) (body : Query) (key : List ℕ) (setter : Query)
    (u : Upserts text name table from read body key setter) (s : Schema) (at there : ℕ)
    (stands : Stands s name at (unstamped table)) (stands_there : Stands s from there read) (keyed : key_at s (unstamped table) key ≡ Ok key) where
  abbrev base : ℕ
  base = small u.parsed.names + small []

  clause_known : upserts s at (unstamped table) base (u.clause ∷ []) ≡ Ok (upsert_of key setter ∷ [])
  unfolding upserts upsert key_meant update do_update program
  clause_known =
      let contexts = on_conflict_same (unstamped table) base s (alone (unstamped table)) at 0 stands.got refl in
      let draft = updated_same _ _ contexts (unstamped table) u.clause.sets u.clause.filter u.values u.filter ∙ u.updated in
      rw (u.aimed.0) (rw (u.aimed.1) (rw (keyed) (rw (u.aimed.2)
      (rw (draft) (rw (fits_as s name at (unstamped table) stands _ setter u.sets) (rw (u.sets.0)))))))

  pub upserts_known : compiled s text ≡ Ok (with_upsert u.parsed at body (upsert_of key setter))
  unfolding compiled planned meaning timed returning command shows insert_or_abort insert_or
  upserts_known =
      let rows = rows_known base u.columns u.select table from read body u.fills s there stands_there in
      rw (u.parses.0) (rw (u.parses.1) (rw (u.parses.2) (rw (stands.named) (rw (stands.got) (rw (rows) (rw (clause_known)))))))

-- ---- the key

is_first : (a b : ℕ) → ((a == b || false) && true) ≡ true → a ≡ b
is_first a b h = grind (arith, nat_tests)

is_one : (c : ℕ) (columns : List ℕ) → (length columns == 1) ≡ true → are_among (c ∷ []) columns ≡ true → columns ≡ c ∷ []
is_one c [] long h = absurd cc
is_one c (x ∷ []) long h = ap (λ y. y ∷ []) (sym (is_first c x h))
is_one c (x ∷ y ∷ more) long h = absurd (let e : length (x ∷ y ∷ more) ≡ 1 = eqb-true _ 1 long in omega arith)

in_all : (a b c d e : Bool) → (a && b && c && d && e) ≡ true → (c ≡ true) × (d ≡ true)
in_all a b c d e h = grind arith

found_one : {X : Type 0} (test : X → Bool) (xs : List X) (x : X) → Has xs x → test x ≡ true → (y : X) × (find test xs ≡ Some y) × (test y ≡ true)
found_one test [] x there is = absurd there
found_one {X} test (y ∷ xs) x there is =
    cond_both (test y) (Some y) (find test xs) (λ o. (z : X) × (o ≡ Some z) × (test z ≡ true)) (λ here. (y, refl, here))
    (λ no. found_one test xs x (elim there [ inl same ↦ absurd (both_ways _ no (ap test (sym same) ∙ is)) | inr more ↦ more ]) is)

-- A column that a unique index stands on alone is a key.
pub key_found : (s : Schema) (table : Table) (c : ℕ) → (c == 0) ≡ false → (index : Index) → Has s.indexes index → index.is_unique ≡ true → index.table
    ≡ table.tree → index.columns ≡ c ∷ [] → key_at s table (c ∷ []) ≡ Ok (c ∷ [])
unfolding key_at is_key_at
key_found s table c other index there unique its columns =
    let same : (table.tree == table.tree) ≡ true = eq-eqb table.tree table.tree refl in
    let self : (c == c) ≡ true = eq-eqb c c refl in
    let is : is_key_at table (c ∷ []) index ≡ true = rw (unique, its, columns) (rw (same, self)) in
    let it = found_one (is_key_at table (c ∷ [])) s.indexes index there is in
    let parts = in_all it.0.is_unique (it.0.table == table.tree) (length it.0.columns == 1) (are_among (c ∷ []) it.0.columns) (are_among it.0.columns (c ∷ []))
    it.2 in
    rw (other) (rw (it.1) (ap (λ (l : List ℕ). Ok l) (is_one c it.0.columns parts.0 parts.1)))
