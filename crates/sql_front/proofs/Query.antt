-- What a SELECT over one table is compiled to, under any schema that has the table.
use Rattle.sql_front.proofs.Common.{◌≡◌, ℕ, ◌^◌, nat_le, ◌==◌, true, false, ◌&&◌, Ok, List, [], ◌∷◌, Option, Some, find, Query, inner, end, Term, Expr, Parsed}
use Rattle.sql_front.proofs.Common.{query_of, Schema, Table, accepts_program, accepts_after, are_tests, integer, is_count, row_classes, Name, named, paging}
use Rattle.sql_front.proofs.Common.{Shown, first, Compiled}
use Rattle.sqlite_sql.specs.Query.{counted}
use Rattle.sqlite_ast.specs.declared.Select as written_select
use Rattle.sqlite_ast.specs.declared.Statement.TheVariants as written
use Rattle.sqlite_schema.specs.declared.command.Command.TheVariants.{Select}
use Rattle.sqlite_resolve.specs.Program.{query, query_to, level, with, whole, alone, single, sources, source, viewing, program}
use Rattle.sqlite_resolve.specs.Compile.{compiled, planned, meaning, timed, returning, command, read}
use Rattle.sql_front.proofs.Plain.{plainly}
use Rattle.sql_front.proofs.Select.{IsOneTableBut}

-- a text that is one SELECT, with no WITH and no compound
pub record Selects (p : Parsed) (s : written_select.Select) : Type 0 where
  pub statement : p.statement ≡ written.Select s
  pub formats : p.formats ≡ []
  pub with : (written_select.out-Select s).with ≡ []
  pub others : (written_select.out-Select s).others ≡ []

abbrev pub with_query : Parsed → Query → List Name → Compiled
with_query p body columns = plainly p (Select (record { lets = []; body = body }) columns)

module _ (s : Schema) where
  pub accepted : (q : Query) (table : Table) → q.from ≡ inner table.tree end → nat_le (2 ^ 31) table.tree ≡ false → find (λ t. t.tree == table.tree) s.tables
      ≡ Some table
      → (accepts_after [] q (Some (row_classes table ∷ [])) && (is_count [] q.limit && is_count [] q.offset)) ≡ true → accepts_program s [] q [] ≡ true
  accepted q table over low found fits = rw over (rw (low, found) fits)

  -- where FROM counts rows of a second table
  pub accepted_within : (q : Query) (table other : Table) (cap : ℕ) (test : List Term) → q.from ≡ inner table.tree (counted cap (inner other.tree end) test end)
      → nat_le (2 ^ 31) table.tree ≡ false → nat_le (2 ^ 31) other.tree ≡ false
      → find (λ t. t.tree == table.tree) s.tables ≡ Some table → find (λ t. t.tree == other.tree) s.tables ≡ Some other
      → are_tests [] (row_classes table ∷ row_classes other ∷ []) test ≡ true
      → (accepts_after [] q (Some (row_classes table ∷ (integer ∷ []) ∷ [])) && (is_count [] q.limit && is_count [] q.offset)) ≡ true
      → accepts_program s [] q [] ≡ true
  accepted_within q table other cap test over low low' found found' tests fits = rw over (rw (low, found, low', found') (rw tests fits))

module _ (s : Schema) (tested : Option Expr → Type 0) where
  pub query_known : (name : Name) (q : written_select.Select) (page : Term × Term) (shown : Shown) → (written_select.out-Select q).with ≡ []
      → (written_select.out-Select q).others ≡ []
      → IsOneTableBut tested name (written_select.out-Select q).first (written_select.out-Select q).order → paging s q ≡ Ok page
      → named s (written_select.out-Select q).first (written_select.out-Select q).order page ≡ Ok shown → query s q ≡ Ok (shown, [])
  unfolding query query_to level with whole alone single sources source viewing
  query_known name q page shown with others one paged known = rw (with) (rw (paged) (rw (others) (rw (one.from.is) (rw (one.from.table) (rw known)))))

  pub select_known : (text : List ℕ) (name : Name) (p : Parsed) (q : written_select.Select) (page : Term × Term) (shown : Shown) → first text ≡ Ok p
      → Selects p q
      → IsOneTableBut tested name (written_select.out-Select q).first (written_select.out-Select q).order → paging s q ≡ Ok page
      → named s (written_select.out-Select q).first (written_select.out-Select q).order page ≡ Ok shown → accepts_program s [] (query_of shown.0) [] ≡ true
      → compiled s text ≡ Ok (with_query p (query_of shown.0) shown.1)
  unfolding compiled planned meaning timed returning command read program
  select_known text name p q page shown parsed is one paged known fits =
      rw (parsed) (rw (is.statement) (rw (is.formats) (rw (query_known name q page shown is.with is.others one paged known) (rw fits))))
