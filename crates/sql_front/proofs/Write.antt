-- INSERT and CREATE TABLE under any schema that has the table, or does not use its name.
use Rattle.sql_front.proofs.Common.{◌≡◌, ℕ, ◌+◌, ◌==◌, true, false, not, ◌&&◌, Ok, List, [], length, Parsed, Schema, Table, is_used, Name, Compiled, first}
use Rattle.sql_front.proofs.Common.{new_rows, small, is_reserved, Stands, arith}
use Rattle.sqlite_ast.specs.declared.Rows.{Rows}
use Rattle.sqlite_ast.specs.declared.Conflict.TheVariants as conflict
use Rattle.sqlite_ast.specs.declared.CreateTable as definition
use Rattle.sqlite_ast.specs.declared.Statement.TheVariants as written
use Rattle.sqlite_schema.specs.declared.command.Command.TheVariants.{Insert, CreateTable}
use Rattle.sqlite_schema.specs.declared.command.Source.{Source}
use Rattle.sqlite_resolve.specs.Define as define
use Rattle.sqlite_resolve.specs.Compile.{compiled, planned, meaning, timed, returning, command, shows, insert_or_abort, insert, create_table, creates}
use Rattle.sqlite_resolve.specs.Compile.{is_attached}
use Rattle.sql_front.proofs.Past.{unused}
use Rattle.sql_front.proofs.Plain.{plainly}

-- ---- INSERT .. VALUES

-- a table with no default that reads the time; a table that is written out is its own
abbrev pub unstamped : Table → Table
unstamped table = record table { stamps = record { places = []; terms = []; formats = [] } }

-- what computes of a text that adds rows to one table, whatever else the schema has
pub record Adds (text : List ℕ) (name : Name) (table : Table) (source : Source) : Type 0 where
  pub parsed : Parsed
  pub columns : List Name
  pub rows : Rows
  pub read : first text ≡ Ok parsed
  pub statement : parsed.statement ≡ written.Insert conflict.Abort name columns rows [] []
  pub formats : parsed.formats ≡ []
  pub fits : (s : Schema) → new_rows s (unstamped table) (small parsed.names + small []) columns rows ≡ Ok source

abbrev pub with_insert : Parsed → ℕ → Source → Compiled
with_insert p at source = plainly p (Insert at source)

pub adds_known : (text : List ℕ) (name : Name) (table : Table) (source : Source) (a : Adds text name table source) (s : Schema) (at : ℕ)
    → Stands s name at (unstamped table) → compiled s text ≡ Ok (with_insert a.parsed at source)
unfolding compiled planned meaning timed returning command shows insert_or_abort insert
adds_known text name table source a s at stands = rw (a.read) (rw (a.statement) (rw (a.formats) (rw (stands.named) (rw (stands.got) (rw (a.fits s))))))

-- ---- CREATE TABLE

-- what computes of a text that makes a table
pub record Makes (text : List ℕ) (name : Name) (table : Table) : Type 0 where
  pub parsed : Parsed
  pub made : definition.CreateTable
  pub read : first text ≡ Ok parsed
  pub statement : parsed.statement ≡ written.CreateTable made
  pub named : made.name ≡ name
  pub unreserved : is_reserved made.name ≡ false
  pub defined : define.table parsed.formats made ≡ Ok table
  pub whole : (length table.computed == length table.stamps.places && not made.resolves) ≡ true

abbrev pub with_create : Parsed → Compiled
with_create p = plainly p CreateTable

pub makes_known : (text : List ℕ) (name : Name) (table : Table) (m : Makes text name table) (s : Schema) → is_used s name ≡ false → compiled s text
    ≡ Ok (with_create m.parsed)
unfolding compiled planned meaning timed returning command create_table creates is_attached
makes_known text name table m s free = grind (arith, unused)
