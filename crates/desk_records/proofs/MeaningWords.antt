-- The words in which the meanings of texts are written.
use Rattle.desk_records.proofs.Common.{◌≡◌, refl, List, [], ◌∷◌, ℕ, codes, Ok, None, Binary, Schema, Command, Select, Insert, Update, Delete, Term, col, op2}
use Rattle.desk_records.proofs.Common.{Compare, Eq, Le, Ge, Gt, Query, Stands, Means, simple, by, count_query, Bool, lit, true, Int, negsuc, pos}
use Rattle.sqlite.specs.Listing.{understood}
use Rattle.sqlite_resolve.specs.declared.compiled.Compiled.{Compiled}
use Rattle.sqlite_resolve.specs.Compile.{compiled, first, new_rows}
use Rattle.sqlite_resolve.specs.Expr.{combine}
use Rattle.sqlite_resolve.specs.Select.{named, paging}
use Rattle.sqlite_resolve.specs.Write.{updated, deleted}
use Rattle.sqlite_tied.specs.Compute.{everything}
use Rattle.sqlite_resolve.specs.Scope.{Name}
use Rattle.sqlite.specs.Source.{Source}
use Rattle.sql_front.proofs.Texts.{Queries, queries_known}
use Rattle.sql_front.proofs.Write.{Adds, adds_known, unstamped}
use Rattle.desk_records.specs.Schema.{Place, name_of, table_at}
use Rattle.desk_records.specs.Holds.{Spot}
use Rattle.sql_front.proofs.Change.{Updates, Removes, updates_known, removes_known}

-- ---- queries

-- a page of the rows that pass, in the order of a column
abbrev pub in_order : ℕ → Bool → List Term → List Term → Term → Term → ℕ → Query
in_order place falling test columns limit offset tree =
    by (simple tree test columns) ((col 1 place, record { descending = falling; collation = Binary }) ∷ []) limit offset

abbrev pub no_limit : Term
no_limit = lit (Int (negsuc 0))

abbrev pub no_offset : Term
no_offset = lit (Int (pos 0))

abbrev pub first_only : Term
first_only = lit (Int (pos 1))

abbrev pub greatest_number : ℕ → Query
greatest_number = in_order 0 true [] (col 1 0 ∷ []) first_only no_offset

-- of the rows that pass, what they become
abbrev pub changing : List Term → List Term → ℕ → Query
changing test values tree = simple tree test (col 1 0 ∷ col 1 0 ∷ values)

-- ---- commands

abbrev pub selects : Query → List (List ℕ) → Command
selects query names = Select (record { lets = []; body = query }) names

abbrev pub changes : Spot → List Term → List Term → Command
changes spot test values = Update spot.at (record { lets = []; body = changing test values spot.tree })

abbrev pub drops_those : Spot → List Term → Command
drops_those spot test = Delete spot.at (record { lets = []; body = simple spot.tree test (col 1 0 ∷ []) })

-- what the compiler of statements computes with
unfoldable pub compiling : Unit {0}
unfolding first new_rows combine named paging updated deleted everything
compiling = tt

pub means_of : (s : Schema) (sql : List ℕ) (c : Compiled) → compiled s sql ≡ Ok c → c.returning ≡ None → c.formats ≡ [] → Means s sql c.command
unfolding understood
means_of s sql c is none timeless = record { is = rw is; plain = rw is (none, timeless); unlisted = rw is }

-- ---- what a text means wherever its table stands

pub record MeansAt (p : Place) (sql : List ℕ) (command : ℕ → ℕ → Command) : Type 0 where
  pub at : (s : Schema) (at tree : ℕ) → Stands s (name_of p) at (table_at p tree) → Means s sql (command at tree)

-- .. from what computes of it: a query, a count of rows, a new row, a change of rows and the loss of rows
module _ (p : Place) (sql : List ℕ) where
  pub record Asks (query : ℕ → Query) (names : List Name) : Type 0 where
    pub queries : (tree : ℕ) → Queries sql (name_of p) (table_at p tree) (query tree) names
    pub shape : (tree : ℕ) → query tree ≡ by (simple tree (query 0).filter (query 0).project) (query 0).order (query 0).limit (query 0).offset

  pub record Counts : Type 0 where
    pub queries : (tree : ℕ) → Queries sql (name_of p) (table_at p tree) (count_query tree) (codes "count(*)" ∷ [])

  pub record Puts (source : Source) : Type 0 where
    pub adds : (tree : ℕ) → Adds sql (name_of p) (table_at p tree) source
    pub plain : (tree : ℕ) → table_at p tree ≡ unstamped (table_at p tree)

  pub record Changes (query : ℕ → Query) : Type 0 where
    pub updates : (tree : ℕ) → Updates sql (name_of p) (table_at p tree) (query tree)

  pub record Drops (query : ℕ → Query) : Type 0 where
    pub removes : (tree : ℕ) → Removes sql (name_of p) (table_at p tree) (query tree)

module _ {p : Place} {sql : List ℕ} where
  pub asked_at : {query : ℕ → Query} {names : List Name} → Asks p sql query names → MeansAt p sql (λ at tree. selects (query tree) names)
  asked_at text = record { at = λ s at tree stands. means_of s sql _ (queries_known _ _ _ _ _ (text.queries tree) s at stands) refl refl }

  pub counted_at : Counts p sql → MeansAt p sql (λ at tree. selects (count_query tree) (codes "count(*)" ∷ []))
  counted_at text = record { at = λ s at tree stands. means_of s sql _ (queries_known _ _ _ _ _ (text.queries tree) s at stands) refl refl }

  pub put_at : {source : Source} → Puts p sql source → MeansAt p sql (λ at tree. Insert at source)
  put_at text = record { at = λ s at tree stands. means_of s sql _ (adds_known _ _ _ _ (text.adds tree) s at (rw (text.plain tree) at stands)) refl refl }

  pub changed_at : {query : ℕ → Query} → Changes p sql query → MeansAt p sql (λ at tree. Update at (record { lets = []; body = query tree }))
  changed_at text = record { at = λ s at tree stands. means_of s sql _ (updates_known _ _ _ _ (text.updates tree) s at stands) refl refl }

  pub dropped_at : {query : ℕ → Query} → Drops p sql query → MeansAt p sql (λ at tree. Delete at (record { lets = []; body = query tree }))
  dropped_at text = record { at = λ s at tree stands. means_of s sql _ (removes_known _ _ _ _ (text.removes tree) s at stands) refl refl }

-- ---- terms

abbrev pub is_equal : Term → Term → Term
is_equal = op2 (Compare Eq Binary)

abbrev pub is_more : Term → Term → Term
is_more = op2 (Compare Gt Binary)

abbrev pub is_least : Term → Term → Term
is_least = op2 (Compare Ge Binary)

abbrev pub is_most : Term → Term → Term
is_most = op2 (Compare Le Binary)

-- a column is the parameter at a place
abbrev pub at_key : ℕ → ℕ → Term
at_key place param = is_equal (col 1 place) (col 0 param)

-- a column is past the parameter at a place
abbrev pub past : ℕ → ℕ → Term
past place param = is_more (col 1 place) (col 0 param)

-- a column is the parameter at a place or more
abbrev pub at_least : ℕ → ℕ → Term
at_least place param = is_least (col 1 place) (col 0 param)

-- .. or less
abbrev pub at_most : ℕ → ℕ → Term
at_most place param = is_most (col 1 place) (col 0 param)
