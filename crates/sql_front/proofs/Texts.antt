-- A text's meaning under any schema that has its table, from its meaning over that table alone.
use Rattle.sql_front.proofs.Common.{◌≡◌, refl, sym, subst, ◌∙◌, ℕ, true, false, ◌&&◌, Ok, List, [], ◌∷◌, Some, None, Query, inner, end, Term, out-Select}
use Rattle.sql_front.proofs.Common.{out-Core, Source, out-Source, Parsed, Draft, query_of, Schema, Table, table_named, accepts_program, accepts_after, is_count}
use Rattle.sql_front.proofs.Common.{row_classes, Name, named, paging, Shown, compiled, first, Stands, arith}
use Rattle.sqlite_ast.specs.declared.Select as written_select
use Rattle.sqlite_ast.specs.declared.Origin.TheVariants as origin
use Rattle.sqlite_ast.specs.declared.Statement.TheVariants as written
use Rattle.sql_front.proofs.Select.{ArePlainShown, ArePlainSorts, IsOneTable, IsPlainTest, same_named}
use Rattle.sql_front.proofs.Query.{Selects, accepted, select_known, with_query}

abbrev pub alone : Table → Schema
alone table = record { tables = table ∷ []; indexes = []; views = [] }

-- the draft of a query becomes this one, which is over the table alone, and of classes that a program accepts
abbrev pub Becomes : Table → Draft → Query → Type 0
Becomes table draft body = (query_of draft ≡ body) × (body.from ≡ inner table.tree end)
    × ((accepts_after [] body (Some (row_classes table ∷ [])) && (is_count [] body.limit && is_count [] body.offset)) ≡ true)

pub fits_as : (s : Schema) (name : Name) (at : ℕ) (table : Table) → Stands s name at table → (d : Draft) (body : Query) → Becomes table d body
    → accepts_program s [] (query_of d) [] ≡ true
fits_as s name at table stands d body is = subst (λ q. accepts_program s [] q [] ≡ true) (sym is.0) (accepted s body table is.1 stands.stored stands.found is.2)

-- What computes of a text that asks one table: how it is written, what it names, and the query that it becomes.
pub record Queries (text : List ℕ) (name : Name) (table : Table) (body : Query) (columns : List Name) : Type 0 where
  pub parsed : Parsed
  pub select : written_select.Select
  pub source : Source
  pub page : Term × Term
  pub shown : Shown
  pub read : first text ≡ Ok parsed
  pub is : (parsed.statement ≡ written.Select select) × (parsed.formats ≡ []) × ((out-Select select).with ≡ []) × ((out-Select select).others ≡ [])
  pub core : ((out-Core (out-Select select).first).from ≡ source ∷ []) × ((out-Core (out-Select select).first).group ≡ [])
      × ((out-Core (out-Select select).first).having ≡ None)
  pub from : ((out-Source source).origin ≡ origin.Table name) × ((out-Source source).alias ≡ None) × ((out-Source source).on ≡ None)
      × ((out-Source source).using ≡ []) × ((out-Source source).is_left ≡ false)
  pub shows : ArePlainShown 700 (out-Core (out-Select select).first).shown
  pub filter : IsPlainTest (out-Core (out-Select select).first).filter
  pub sorts : ArePlainSorts (out-Select select).order
  pub paged : (s : Schema) → paging s select ≡ Ok page
  pub named : (table_named (alone table) name ≡ Some 0) × (named (alone table) (out-Select select).first (out-Select select).order page ≡ Ok shown)
  pub becomes : (shown.1 ≡ columns) × Becomes table shown.0 body

module _ (text : List ℕ) (name : Name) (table : Table) (body : Query) (columns : List Name) (r : Queries text name table body columns) where
  is_one : IsOneTable name (out-Select r.select).first (out-Select r.select).order
  is_one = grind arith

  pub queries_known : (s : Schema) (at : ℕ) → Stands s name at table → compiled s text ≡ Ok (with_query r.parsed body columns)
  queries_known s at stands =
      let same = same_named s (alone table) at 0 table name stands.named stands.got r.named.0 refl _ _ is_one r.page in
      let known : compiled s text ≡ Ok (with_query r.parsed (query_of r.shown.0) r.shown.1) =
      select_known s IsPlainTest text name r.parsed r.select r.page r.shown r.read
      (record { statement = r.is.0; formats = r.is.1; with = r.is.2; others = r.is.3 }) is_one (r.paged s) (same ∙ r.named.1)
      (fits_as s name at table stands r.shown.0 body r.becomes.1) in
      rw (r.becomes.1.0, r.becomes.0) at known
