-- Which rows meet a new one under a key of one column, where a schema has further indexes.
use Rattle.sql_calls.proofs.Common.{◌≡◌, ◌⊎◌, ℕ, Bool, true, false, List, [], ◌∷◌, Some, refl, bytes_eq, slice_get, list_any, cases_Bool, eq-eqb, first_key}
use Rattle.sql_calls.proofs.Common.{column, Binary, Schema, Table, Trees, Index, equal, guards, IsSound, conflicts, shares, Has, all-slice_get, and-true, arith}
use Rattle.std.proofs.lemmas.Slice.Eq.{bytes_eq-Decides}
use Rattle.sqlite_value.specs.Order.{Row}
use Rattle.sqlite_keyed.proofs.ListLemmas.{any_from_none}
use Rattle.sqlite_rules.proofs.ListLemmas.{all_from, some_from}
use Rattle.sql_calls.specs.KeyIndexes.{ComparesBytes}

-- ---- a key of one column

-- a unique index of the table on the column alone
pub record HasKeyIndex (schema : Schema) (table : Table) (c : ℕ) : Type 0 where
  pub index : Index
  pub listed : Has schema.indexes index
  pub unique : index.is_unique ≡ true
  pub its : index.table ≡ table.tree
  pub columns : index.columns ≡ c ∷ []

-- in a sound database each UNIQUE has one
pub key_index : (schema : Schema) (db : Trees) (at : ℕ) (table : Table) (k c : ℕ) → IsSound schema db → slice_get schema.tables at ≡ Some table
    → slice_get table.uniques k ≡ Some (c ∷ []) → HasKeyIndex schema table c
key_index schema db at table k c sound there unique = grind (arith, all-slice_get)

-- ---- conflicts

-- a test that is the same wherever it can hold, and stands somewhere
any_is : {X : Type 0} (f : X → Bool) (a : Bool) (xs : List X) → ((x : X) → Has xs x → (f x ≡ false) ⊎ (f x ≡ a)) → (i : X) → Has xs i → f i ≡ a → list_any f xs
    ≡ a
any_is f a xs each i there is = grind (arith, some_from, any_from_none, all_from, each)

-- whatever other indexes there are, a row conflicts where it has the key
abbrev pub IsKeyOnly : Schema → Table → ℕ → Type 0
IsKeyOnly schema table c = (new r : Row) → conflicts (Some (c ∷ [])) schema.indexes table new r ≡ equal Binary (column r c) (column new c)

module _ (schema : Schema) (table : Table) (c : ℕ) (other : bytes_eq (c ∷ []) (0 ∷ []) ≡ false) (key : HasKeyIndex schema table c)
    (plainly : ComparesBytes schema table c) where
  abbrev meets : Row → Row → Index → Bool
  meets new r = shares (Some (c ∷ [])) table new r

  self : bytes_eq (c ∷ []) (c ∷ []) ≡ true
  self = rw (eq-eqb c c refl)

  -- by an index on the column
  whole : (new r : Row) (i : Index) → guards i table ≡ true → i.columns ≡ c ∷ [] → (first_key i.order).collation ≡ Binary → meets new r i
      ≡ equal Binary (column r c) (column new c)
  whole new r i guarding on bytes = rw (guarding, on) (rw (self, bytes) (and-true _))

  each : (new r : Row) (i : Index) → Has schema.indexes i → (meets new r i ≡ false) ⊎ (meets new r i ≡ equal Binary (column r c) (column new c))
  each new r i there = grind (arith, cases_Bool, whole, bytes_eq-Decides, plainly)

  pub key_only : IsKeyOnly schema table c
  key_only new r = grind (arith, eq-eqb, any_is, each, whole, plainly)
