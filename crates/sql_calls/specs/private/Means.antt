-- A text, as a schema reads it.
use Rattle.std.specs.Prelude.{◌≡◌, ◌≤◌, Bool, List, ℕ, Ok, length, true, false}
use Rattle.sqlite.specs.Schema.{Schema}
use Rattle.sqlite.specs.Command.{Command}
use Rattle.sqlite.specs.Command.TheVariants.{Insert, InsertOr, Update, Delete}
use Rattle.sqlite.specs.Effect.{Database, is_query}
use Rattle.sqlite.specs.Listing.{understood, reads_listing}
use Rattle.sqlite.proofs.Callers.{IsPlain, command_of}
use Rattle.sqlite_syntax.specs.declared.statement.Parsed.{Parsed}
use Rattle.sqlite_resolve.specs.Compile.{first}

-- it is this command alone, with no RETURNING and no parameter that it gives itself, and doesn't read the catalog
pub record Means (schema : Schema) (sql : List ℕ) (command : Command) : Type 0 where
  pub is : command_of (understood schema sql) ≡ command
  pub plain : IsPlain (understood schema sql)
  pub unlisted : reads_listing schema sql ≡ false

-- a text that a schema understands
pub record Known (schema : Schema) (sql : List ℕ) : Type 0 where
  pub command : Command
  pub means : Means schema sql command

-- it is one statement and nothing more, and takes so many parameters
pub record Takes (sql : List ℕ) (count : ℕ) : Type 0 where
  pub parsed : Parsed
  pub read : first sql ≡ Ok parsed
  pub whole : length sql ≤ parsed.tail
  pub names : length parsed.names ≡ count

-- it writes rows alone
abbrev pub writes_rows : Command → Bool
writes_rows (Insert at from) = true
writes_rows (InsertOr at way from clauses) = true
writes_rows (Update at q) = true
writes_rows (Delete at q) = true
writes_rows _ = false

module _ {R : Type 0} (Holds : Database → R → Type 0) where
  -- each database that holds something understands the text
  abbrev pub Knows : List ℕ → Type 0
  Knows sql = (db : Database) (r : R) → Holds db r → Known db.schema sql

  -- .. as a query of so many parameters
  pub record KnowsQuery (sql : List ℕ) (count : ℕ) : Type 0 where
    pub knows : Knows sql
    pub takes : Takes sql count
    pub asks : (db : Database) (r : R) (holds : Holds db r) → is_query (knows db r holds).command ≡ true

  -- .. as a command that writes rows
  pub record KnowsWrite (sql : List ℕ) : Type 0 where
    pub knows : Knows sql
    pub rows : (db : Database) (r : R) (holds : Holds db r) → writes_rows (knows db r holds).command ≡ true
