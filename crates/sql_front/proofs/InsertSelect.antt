-- INSERT .. SELECT means the same wherever its two tables stand in the schema.
use Rattle.sql_front.proofs.Common.{◌≡◌, ℕ, ◌+◌, Ok, List, [], Some, ◌∙◌, refl, Collation, Query, Term, Parsed, Schema, Table, table_named, Name}
use Rattle.sql_front.proofs.Common.{named, paging, Shown, first, small, Stands}
use Rattle.sqlite_ast.specs.declared.Rows.TheVariants as rows
use Rattle.sqlite_ast.specs.declared.Select as written_select
use Rattle.sqlite_ast.specs.declared.Conflict.TheVariants as conflict
use Rattle.sqlite_ast.specs.declared.Statement.TheVariants as written
use Rattle.sqlite_schema.specs.declared.command.Source.{Source}
use Rattle.sqlite_schema.specs.declared.command.Source.TheVariants as source
use Rattle.sqlite_resolve.specs.Write.{places, as_row, inserted, selected}
use Rattle.sqlite_resolve.specs.Program.{program}
use Rattle.sqlite_resolve.specs.Compile.{compiled, planned, meaning, timed, returning, command, shows, insert_or_abort, insert, new_rows, source_of, queried}
use Rattle.sql_front.proofs.Select.{IsOneTable, IsPlainTest, same_named}
use Rattle.sql_front.proofs.Query.{query_known}
use Rattle.sql_front.proofs.Texts.{Becomes, fits_as, alone}
use Rattle.sql_front.proofs.Write.{unstamped, with_insert}

abbrev pub query_source : Query → Source
query_source body = source.Query (record { lets = []; body = body })

-- what computes of a query over one table whose rows another takes, over those two alone
pub record Fills (base : ℕ) (columns : List Name) (select : written_select.Select) (table : Table) (from : Name) (read : Table) (body : Query) : Type 0 where
  pub page : Term × Term
  pub shown : Shown
  pub is : ((written_select.out-Select select).with ≡ []) × ((written_select.out-Select select).others ≡ [])
  pub one : IsOneTable from (written_select.out-Select select).first (written_select.out-Select select).order
  pub paged : (s : Schema) → paging s select ≡ Ok page
  pub named : (table_named (alone read) from ≡ Some 0)
      × (named (alone read) (written_select.out-Select select).first (written_select.out-Select select).order page ≡ Ok shown)
  -- its rows as the table has them
  pub at : List ℕ
  pub terms : List Term
  pub by : List Collation
  pub placed : (places (unstamped table) columns ≡ Ok at) × (as_row (unstamped table) base at shown.0 ≡ Ok (terms, by))
  pub becomes : Becomes read (record shown.0 { project = terms; collations = by }) body

module _ (base : ℕ) (columns : List Name) (select : written_select.Select) (table : Table) (from : Name) (read : Table) (body : Query)
    (u : Fills base columns select table from read body) (s : Schema) (there : ℕ) (stands_there : Stands s from there read) where
  pub rows_known : new_rows s (unstamped table) base columns (rows.Select select) ≡ Ok (query_source body)
  unfolding new_rows inserted selected source_of queried program
  rows_known =
      let same = same_named s (alone read) there 0 read from stands_there.named stands_there.got u.named.0 refl _ _ u.one u.page in
      let query = query_known s IsPlainTest from select u.page u.shown u.is.0 u.is.1 u.one (u.paged s) (same ∙ u.named.1) in
      rw (u.placed.0) (rw (query) (rw (u.placed.1) (rw (fits_as s from there read stands_there _ body u.becomes) (rw (u.becomes.0)))))

-- ---- without ON CONFLICT

pub record AddsFrom (text : List ℕ) (name : Name) (table : Table) (from : Name) (read : Table) (body : Query) : Type 0 where
  pub parsed : Parsed
  pub columns : List Name
  pub select : written_select.Select
  pub parses : (first text ≡ Ok parsed) × (parsed.statement ≡ written.Insert conflict.Abort name columns (rows.Select select) [] []) × (parsed.formats ≡ [])
  pub fills : Fills (small parsed.names + small []) columns select table from read body

pub adds_from_known : (text : List ℕ) (name : Name) (table : Table) (from : Name) (read : Table) (body : Query) (a : AddsFrom text name table from read body)
    (s : Schema) (at there : ℕ) → Stands s name at (unstamped table) → Stands s from there read
    → compiled s text ≡ Ok (with_insert a.parsed at (query_source body))
unfolding compiled planned meaning timed returning command shows insert_or_abort insert
adds_from_known text name table from read body a s at there stands stands_there =
    let known = rows_known _ a.columns a.select table from read body a.fills s there stands_there in
    rw (a.parses.0) (rw (a.parses.1) (rw (a.parses.2) (rw (stands.named) (rw (stands.got) (rw (known))))))
