-- The meaning of a SELECT over one table with EXISTS over a second, under any schema that has the two, from its meaning over these two alone.
use Rattle.sql_front.proofs.Common.{◌≡◌, refl, sym, subst, ◌∙◌, ℕ, true, false, ◌&&◌, Ok, List, [], ◌∷◌, Some, Query, inner, end, Term, Parsed, query_of}
use Rattle.sql_front.proofs.Common.{Schema, Table, table_named, accepts_program, accepts_after, are_tests, integer, is_count, row_classes, Name, named, paging}
use Rattle.sql_front.proofs.Common.{Shown, compiled, first, Stands}
use Rattle.sqlite_sql.specs.Query.{counted}
use Rattle.sqlite_ast.specs.declared.Select as written_select
use Rattle.sql_front.proofs.Select.{IsOneTableBut, IsTestBut, same_named_but, only, here, there, seen, same_seen, tests_same_but}
use Rattle.sql_front.proofs.Within.{CountsOne, exists_same}
use Rattle.sql_front.proofs.Query.{Selects, accepted_within, select_known, with_query}

abbrev pub pair : Table → Table → Schema
pair table other = record { tables = table ∷ other ∷ []; indexes = []; views = [] }

-- what computes of a text over two tables alone, of which FROM names the first and EXISTS the second
pub record QueriesWithin (text : List ℕ) (name : Name) (table : Table) (nested : Name) (other : Table) (body : Query) (columns : List Name) : Type 0 where
  pub parsed : Parsed
  pub select : written_select.Select
  pub page : Term × Term
  pub shown : Shown
  pub read : first text ≡ Ok parsed
  pub selects : Selects parsed select
  pub one : IsOneTableBut (IsTestBut (CountsOne nested) 700) name (written_select.out-Select select).first (written_select.out-Select select).order
  pub paged : (s : Schema) → paging s select ≡ Ok page
  pub named_first : table_named (pair table other) name ≡ Some 0
  pub named_second : table_named (pair table other) nested ≡ Some 1
  pub known : named (pair table other) (written_select.out-Select select).first (written_select.out-Select select).order page ≡ Ok shown
  pub is_body : query_of shown.0 ≡ body
  pub are_columns : shown.1 ≡ columns
  pub cap : ℕ
  pub test : List Term
  pub over : body.from ≡ inner table.tree (counted cap (inner other.tree end) test end)
  pub tests_fit : are_tests [] (row_classes table ∷ row_classes other ∷ []) test ≡ true
  pub fits : (accepts_after [] body (Some (row_classes table ∷ (integer ∷ []) ∷ [])) && (is_count [] body.limit && is_count [] body.offset)) ≡ true

module _ (text : List ℕ) (name : Name) (table : Table) (nested : Name) (other : Table) (body : Query) (columns : List Name)
    (r : QueriesWithin text name table nested other body columns)
    (s : Schema) (at nest : ℕ) (stands : Stands s name at table) (stands' : Stands s nested nest other) where
  pub queries_known_within : compiled s text ≡ Ok (with_query r.parsed body columns)
  queries_known_within =
      let z = pair table other in
      let p = only s z at 0 table name stands.named stands.got r.named_first refl in
      let same = same_named_but s z at 0 table name stands.named stands.got r.named_first refl _ _ (IsTestBut (CountsOne nested) 700) r.one
      (λ outs e h. tests_same_but (here s z [] p outs false) (there s z [] p outs false) (same_seen s z [] p outs false) (CountsOne nested)
      (λ n query one. exists_same s z (seen s z [] p outs) other nested nest 1 stands'.got refl stands'.named r.named_second n query one false) 700 [] e h)
      r.page in
      let fits = accepted_within s body table other r.cap r.test r.over stands.stored stands'.stored stands.found stands'.found r.tests_fit r.fits in
      let known : compiled s text ≡ Ok (with_query r.parsed (query_of r.shown.0) r.shown.1) =
      select_known s (IsTestBut (CountsOne nested) 700) text name r.parsed r.select r.page r.shown r.read r.selects r.one (r.paged s) (same ∙ r.known)
      (subst (λ b. accepts_program s [] b [] ≡ true) (sym r.is_body) fits) in
      rw (r.is_body, r.are_columns) at known
