-- What the rows of a table are made of where a ledger is held, and when a row breaks no column.
use Rattle.desk_verify.proofs.Common.{◌≡◌, ℕ, suc, pos, Bool, true, false, List, ◌∷◌, map, slice_get, Option, Some, None, true≢false, sym, subst, ◌∙◌}
use Rattle.desk_verify.proofs.Common.{Records, ledger_of, IsHeld, flat_map, Has, Row, Int, IsHeldBy, rows_from, wanted_of}
use Rattle.desk_verify.proofs.Common.{has_mapped, parts_from, Place, Column, BreaksColumn, has_flat}
use Rattle.desk_verify.proofs.HeldRows.{item_of, part_of}
use Rattle.desk_records.specs.RowFaults.{BreaksRule}

-- ---- what is so of each row

module _ (P : Row → Type 0) where
  -- of a table of numbered rows
  pub of_ordered : {X : Type 0} (f : ℕ → X → Row) (xs : List X) (rows : List Row) → rows ≡ rows_from f 1 xs
      → ((d : ℕ) (x : X) → slice_get xs d ≡ Some x → P (f (suc d) x)) → (row : Row) → Has rows row → P row
  of_ordered f xs rows are each row among = let it = item_of f xs are row among in subst P (sym it.is) (each it.d it.one it.got)

  -- of one whose numbers nobody knows
  pub of_unordered : (wanted rows : List Row) → IsHeldBy rows wanted → ((n : ℕ) (x : Row) → Has wanted x → P (Int (pos n) ∷ x)) → (row : Row) → Has rows row
      → P row
  of_unordered wanted rows held each row among = let content = wanted_of rows wanted row held among in
      subst P (sym content.3) (each content.0 content.1 content.2)

  -- .. of the parts of numbered records
  pub of_parts : {X Y : Type 0} (f : ℕ → ℕ → Y → Row) (items : X → List Y) (xs : List X) (rows : List Row) → IsHeldBy rows (parts_from f items 1 xs)
      → ((n d k : ℕ) (x : X) (y : Y) → slice_get xs d ≡ Some x → slice_get (items x) k ≡ Some y → P (Int (pos n) ∷ f (suc d) (suc k) y)) → (row : Row)
      → Has rows row → P row
  of_parts f items xs rows held each row among = let it = part_of f items xs held row among in
      subst P (sym it.is) (each it.n it.d it.k it.whole it.one it.got it.lies)

  -- .. that are made of a list
  pub of_mapped : {X : Type 0} (f : X → Row) (xs : List X) (rows : List Row) → IsHeldBy rows (map f xs) → ((n : ℕ) (x : X) → Has xs x → P (Int (pos n) ∷ f x))
      → (row : Row) → Has rows row → P row
  of_mapped f xs rows held each =
      of_unordered (map f xs) rows held (λ n y among. let source = has_mapped f xs y among in
      subst (λ (z : Row). P (Int (pos n) ∷ z)) (sym source.2) (each n source.0 source.1))

  -- .. of the lists that each of a list has
  pub of_lists : {X Y : Type 0} (f : X → Y → Row) (items : X → List Y) (xs : List X) (rows : List Row) → IsHeldBy rows (flat_map (λ x. map (f x) (items x)) xs)
      → ((n : ℕ) (x : X) (y : Y) → Has xs x → Has (items x) y → P (Int (pos n) ∷ f x y)) → (row : Row) → Has rows row → P row
  of_lists f items xs rows held each = of_unordered (flat_map (λ x. map (f x) (items x)) xs) rows held (λ n row among.
      let its = has_flat (λ x. map (f x) (items x)) xs row among in
      let source = has_mapped (f its.0) (items its.0) row its.2 in
      subst (λ (z : Row). P (Int (pos n) ∷ z)) (sym source.2) (each n its.0 source.0 its.1 source.1))

-- ---- rows that break no column

-- no row of the table breaks one
abbrev pub Keeps : Records → Place → Type 0
Keeps r p = (rows : List Row) → IsHeld (ledger_of r) p rows → (row : Row) → Has rows row → BreaksColumn p row → ⊥

pub unbroken : (column : Option Column) → column ≡ None → BreaksRule column → ⊥
unbroken column none broken = let told : None ≡ Some broken.first = sym none ∙ broken.is in absurd cc

pub fails_not : (test : Bool) → test ≡ true → test ≡ false → ⊥
fails_not test good bad = true≢false (sym good ∙ bad)
