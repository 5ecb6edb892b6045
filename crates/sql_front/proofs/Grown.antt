-- What CREATE TABLE makes of a database, where it also makes the list of AUTOINCREMENT's numbers and where it doesn't.
use Rattle.sql_front.proofs.Common.{◌≡◌, ◌⊎◌, inl, inr, sym, ap, ◌∙◌, ℕ, false, List, [], ◌∷◌, ◌++◌, append-nil, append_assoc, codes, None, Ok, Err, Result}
use Rattle.sql_front.proofs.Common.{◌+◌, slice_index_or, cases_Bool, Index, Table, Has, Schema, same_name, next_tree, is_used, created, automatics, KeepsRows}
use Rattle.sql_front.proofs.Common.{Name, arith}
use Rattle.sqlite.specs.Order.{Row}
use Rattle.sqlite.specs.Tree.{Trees}
use Rattle.sqlite.specs.Does.{sequence_text, MakesSequence}
use Rattle.sqlite.specs.Effect.{Database}
use Rattle.sqlite.specs.State.{State, Writes}
use Rattle.sqlite.specs.Command.TheVariants.{CreateTable}
use Rattle.sqlite_tied.specs.Compute.{everything}
use Rattle.sqlite_value.specs.Keys.{plain}
use Rattle.sqlite_rules.proofs.ListLemmas.{has_either}
use Rattle.sqlite_resolve.specs.Compile.{table_defined_by, first, table_in}
use Rattle.sqlite_resolve.specs.declared.error.CompileError.{CompileError}
use Rattle.sql_front.proofs.Created.{AreKeyless, SparesIndexes, still_free}

went : {B E R : Type 0} {b : B} {Stops : E → Type 0} → ((stop : E) × Stops stop × (Ok b ≡ Err stop)) ⊎ R → R
went h = grind arith

same_value : {B E : Type 0} {a b : B} → ◌≡◌ {A = Result B E} (Ok a) (Ok b) → a ≡ b
same_value e = cc

-- one of the indexes that SQLite makes for a table in this tree
pub record IsIndexOf (table : Table) (tree : ℕ) (index : Index) : Type 0 where
  pub its : index.table ≡ tree
  pub place : ℕ
  pub order : index.order ≡ slice_index_or table.orders place plain

-- the table is there with no row, those before it have their rows, and the names that it didn't take are free
pub record Grown (s : Schema) (table : Table) (old new : Database) : Type 0 where
  pub more : List Table
  pub tables : new.schema.tables ≡ s.tables ++ record table { tree = next_tree s } ∷ more
  pub bare : AreKeyless more
  pub empty : new.trees (next_tree s) ≡ []
  pub others : KeepsRows s.tables old.trees new.trees
  pub indexes : (index : Index) → Has new.schema.indexes index → Has s.indexes index ⊎ IsIndexOf table (next_tree s) index
  pub free : (name : Name) → is_used s name ≡ false → same_name table.name name ≡ false → SparesIndexes table name → same_name (codes "sqlite_sequence") name
      ≡ false → is_used new.schema name ≡ false

keeps_both : (front ours : List Table) (a b c : Trees) → KeepsRows front a b → KeepsRows (front ++ ours) b c → KeepsRows front a c
keeps_both [] ours a b c h k = tt
keeps_both (t ∷ front) ours a b c h k = (k.0 ∙ h.0, keeps_both front ours a b c h.1 k.1)

keeps_last : (front : List Table) (t : Table) (b c : Trees) → KeepsRows (front ++ t ∷ []) b c → c t.tree ≡ b t.tree
keeps_last [] t b c k = k.0
keeps_last (u ∷ front) t b c k = keeps_last front t b c k.1

automatic_is : (table : Table) (tree at next : ℕ) (keys : List (List ℕ)) (index : Index) → Has (automatics (record table { tree = tree }) at next keys) index
    → IsIndexOf table tree index
automatic_is table tree at next [] index h = absurd h
automatic_is table tree at next (key ∷ keys) index (inl is) = grind arith
automatic_is table tree at next (key ∷ keys) index (inr more) = automatic_is table tree (at + 1) (next + 1) keys index more

created_indexes : (s : Schema) (table : Table) (index : Index) → Has (created s table).indexes index → Has s.indexes index ⊎ IsIndexOf table (next_tree s) index
created_indexes s table index h = grind (arith, has_either, automatic_is)

abbrev part : {X : Type 0} → (Table → X) → X → Result Table CompileError → X
part f none (Ok t) = f t
part f none (Err e) = none

-- the table of AUTOINCREMENT's numbers
sequence_defined : (t : Table) → table_defined_by sequence_text ≡ Ok t → (t.name ≡ codes "sqlite_sequence") × (t.uniques ≡ []) × (t.references ≡ [])
unfolding table_defined_by first table_in everything
sequence_defined t h = (ap (part (λ t. t.name) []) (sym h), ap (part (λ t. t.uniques) []) (sym h), ap (part (λ t. t.references) []) (sym h))

finish : (s : Schema) (table : Table) (old mid final : Database) → mid.schema ≡ created s table → mid.trees (next_tree s) ≡ []
    → KeepsRows s.tables old.trees mid.trees → MakesSequence mid (Ok final) → Grown s table old final
finish s table old mid final is empty others h =
    grind (arith, cases_Bool, same_value, created_indexes, still_free, sequence_defined, append_assoc, keeps_last, keeps_both, append-nil)

pub grown : (s : Schema) (table : Table) (text : List ℕ) → table_defined_by text ≡ Ok table → (old new : State) → old.now.schema ≡ s
    → (params : Row) (count : ℕ) → Writes old new None CreateTable text params count → Grown s table old.now new.now
grown s table text defined old new has params count w = grind (arith, went, same_value, finish)
