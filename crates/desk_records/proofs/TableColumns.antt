-- The columns of the tables of a desk are of their kinds, in each sound database.
use Rattle.desk_records.proofs.Common.{◌≡◌, ℕ, zero, suc, ◌+◌, ℤ, true, false, pos, List, [], ◌∷◌, drop, slice_get, Option, Some, refl, subst, arith, and_parts}
use Rattle.desk_records.proofs.Common.{Value, Int, Row, column, is_null, is_of, are_typed, are_present, Has, all_has, all-slice_get, Database, passes, lies_at}
use Rattle.desk_records.proofs.Common.{has_at, Place, table_at, table_by, HoldsTables, Tables}
use Rattle.sqlite_schema.specs.declared.schema.Kind.TheVariants as kind
use Rattle.sqlite_schema.specs.declared.schema.Column.{Column}
use Rattle.sqlite_schema.specs.declared.schema.Constraint.TheVariants.{Datatype, NotNull}
use Rattle.sqlite_schema.specs.Names.{is_key}
use Rattle.desk_records.proofs.MeaningWords.{at_key}
use Rattle.desk_records.proofs.NumberColumns.{passes_first, passes_two}
use Rattle.desk_records.proofs.PlacedParts.{at_part}

-- a value of each column that is there and isn't the rowid
typed_from : (key : Option ℕ) (at : ℕ) (columns : List Column) (vs : Row) (k : ℕ) (c : Column) → slice_get columns k ≡ Some c → c.is_strict ≡ true
    → is_key key (at + k) ≡ false
    → are_typed key at columns vs ≡ true → is_of c.kind (column vs k) ≡ true
typed_from key at [] vs k c there strict apart typed = absurd cc
typed_from key at (x ∷ columns) [] zero c there strict apart typed = refl
typed_from key at (x ∷ columns) [] (suc k) c there strict apart typed =
    grind (arith, typed_from key (at + 1) columns [] k c there strict, strict, is_key, and_parts, typed)
typed_from key at (x ∷ columns) (v ∷ vs) zero c there strict apart typed = grind (arith, there, strict, apart, typed)
typed_from key at (x ∷ columns) (v ∷ vs) (suc k) c there strict apart typed =
    grind (arith, typed_from key (at + 1) columns vs k c there strict, strict, is_key, and_parts, typed)

present_from : (key : Option ℕ) (at : ℕ) (columns : List Column) (row : Row) (k : ℕ) (c : Column) → slice_get columns k ≡ Some c → c.not_null ≡ true
    → is_key key (at + k) ≡ false
    → are_present key at columns row ≡ true → is_null (column row (at + k + 1)) ≡ false
present_from key at [] row k c there filled apart h = absurd cc
present_from key at (x ∷ columns) row zero c there filled apart h = grind (arith, there, filled, apart, h)
present_from key at (x ∷ columns) row (suc k) c there filled apart h =
    grind (arith, present_from key (at + 1) columns row k c there filled, column, is_key, and_parts)

number_there : (v : Value) → is_null v ≡ false → is_of kind.Integer v ≡ true → (n : ℤ) × (v ≡ Int n)
number_there v a b = grind arith

behind : (row : Row) (k : ℕ) → column (drop 1 row) k ≡ column row (suc k)
behind row k = grind arith

-- a column of whole numbers, which is given and isn't the rowid
pub record IsInteger (p : Place) (k : ℕ) : Type 0 where
  pub c : Column
  pub there : slice_get (table_by p).columns k ≡ Some c
  pub kind_is : c.kind ≡ kind.Integer
  pub strict : c.is_strict ≡ true
  pub filled : c.not_null ≡ true
  pub apart : is_key (table_by p).key k ≡ false

module _ (db : Database) (t : Tables) (holds : HoldsTables db t) (p : Place) (row : Row) (among : Has (t p) row) where
  here : Has (db.trees (holds.spot p).tree) row
  here = subst (λ l. Has l row) (holds.rows p) among

  typed : are_typed (table_by p).key 0 (table_by p).columns (drop 1 row) ≡ true
  typed =
      (and_parts _ _ (all_has _ _ row
      (all-slice_get _ db.schema.tables (holds.spot p).at (table_at p (holds.spot p).tree) (holds.stands p).got (holds.sound.obeys.rules Datatype)) here)).0

  present : are_present (table_by p).key 0 (table_by p).columns row ≡ true
  present = all_has _ _ row
      (all-slice_get _ db.schema.tables (holds.spot p).at (table_at p (holds.spot p).tree) (holds.stands p).got (holds.sound.obeys.rules NotNull)) here

  pub integer_at : (k : ℕ) → IsInteger p k → (n : ℤ) × (column row (suc k) ≡ Int n)
  integer_at k it =
      let apart : is_key (table_by p).key (0 + k) ≡ false = subst (λ n. is_key (table_by p).key n ≡ false) {x = k} (omega arith) it.apart in
      let kept = typed_from (table_by p).key 0 (table_by p).columns (drop 1 row) k it.c it.there it.strict apart typed in
      let given = present_from (table_by p).key 0 (table_by p).columns row k it.c it.there it.filled apart present in
      number_there (column row (suc k)) (grind (arith, given)) (grind (arith, kept, behind row k, it.kind_is))

  -- WHERE column = ?1, whatever parameters follow
  pub passes_integer : (k : ℕ) → IsInteger p k → (n : ℕ) (more : Row) → passes (at_key (suc k) 0 ∷ []) (Int (pos n) ∷ more) row ≡ has_at (suc k) n row
  passes_integer k it n more = let its = integer_at k it in passes_first row more (suc k) n its.0 its.1

  -- .. and of the first two columns, which say where a part lies
  pub passes_part : IsInteger p 0 → IsInteger p 1 → (number place : ℕ) → passes at_part (Int (pos number) ∷ Int (pos place) ∷ []) row ≡ lies_at number place row
  passes_part first second number place = let one = integer_at 0 first in let two = integer_at 1 second in
      passes_two row 1 2 number place one.0 two.0 one.1 two.1
