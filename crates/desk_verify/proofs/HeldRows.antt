-- Where the rows of records stand in tables that hold a ledger, and of what each row there is.
use Rattle.desk_verify.proofs.Common.{[], map, ◌++◌, ◌+◌, refl, ◌≡◌, ℕ, suc, pos, List, ◌∷◌, slice_get, Some, sym, ap, subst, arith, Has, Row, Int}
use Rattle.desk_verify.proofs.Common.{IsHeldBy, rows_from, item_row, numbered, of_part, part_among, parts_from, row_of, wanted_of}

-- ---- numbered rows, in the order of their numbers

pub record IsItem {X : Type 0} (f : ℕ → X → Row) (xs : List X) (row : Row) : Type 0 where
  pub d : ℕ
  pub one : X
  pub got : slice_get xs d ≡ Some one
  pub is : row ≡ f (suc d) one

module _ {X : Type 0} (f : ℕ → X → Row) (xs : List X) {rows : List Row} (are : rows ≡ rows_from f 1 xs) where
  pub item_of : (row : Row) → Has rows row → IsItem f xs row
  item_of row among = grind (arith, numbered f 1 xs row)

  pub item_lies : (d : ℕ) (x : X) → slice_get xs d ≡ Some x → Has rows (f (suc d) x)
  item_lies d x got = subst (λ l. Has l (f (suc d) x)) (sym are) (item_row f 1 (suc d) d xs x (omega arith) got)

-- ---- the parts of numbered records, in rows whose numbers nobody knows

pub record IsPartRow {X Y : Type 0} (f : ℕ → ℕ → Y → Row) (items : X → List Y) (xs : List X) (row : Row) : Type 0 where
  pub n : ℕ
  pub d : ℕ
  pub k : ℕ
  pub whole : X
  pub one : Y
  pub got : slice_get xs d ≡ Some whole
  pub lies : slice_get (items whole) k ≡ Some one
  pub is : row ≡ Int (pos n) ∷ f (suc d) (suc k) one

module _ {X Y : Type 0} (f : ℕ → ℕ → Y → Row) (items : X → List Y) (xs : List X) {rows : List Row} (held : IsHeldBy rows (parts_from f items 1 xs)) where
  pub part_of : (row : Row) → Has rows row → IsPartRow f items xs row
  part_of row among =
      let content = wanted_of rows (parts_from f items 1 xs) row held among in
      let of = of_part f items 1 xs content.1 content.2 in
      let item = numbered (f of.number) 1 (items of.whole) content.1 of.among in
      let at : of.number ≡ suc of.index = omega (arith, of.number_is) in
      let place : item.at ≡ suc item.index = omega (arith, item.at_is) in
      grind (arith, content.3, of.got, item.got, item.is)

  pub part_lies : (d k : ℕ) (x : X) (y : Y) → slice_get xs d ≡ Some x → slice_get (items x) k ≡ Some y → (n : ℕ) × Has rows (Int (pos n) ∷ f (suc d) (suc k) y)
  part_lies d k x y got lies = row_of rows (parts_from f items 1 xs) (f (suc d) (suc k) y) held
      (part_among f items 1 (suc d) d xs x (f (suc d) (suc k) y) (omega arith) got (item_row (f (suc d)) 1 (suc k) k (items x) y (omega arith) lies))

-- the parts of listed parts are those of the records
pub parts_mapped : {X Y : Type 0} (f : ℕ → ℕ → Y → Row) (items : X → List Y) (n : ℕ) (xs : List X)
    → parts_from f (λ (ys : List Y). ys) n (map items xs) ≡ parts_from f items n xs
parts_mapped f items n [] = refl
parts_mapped f items n (x ∷ xs) = ap (λ l. rows_from (f n) 1 (items x) ++ l) (parts_mapped f items (n + 1) xs)
