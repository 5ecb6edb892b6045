-- Where the rows of numbered records and of their parts are, and how many are of one record.
use Rattle.desk_records.proofs.Common.{◌≡◌, inl, inr, ◌<◌, ℕ, zero, suc, ◌+◌, Bool, List, [], ◌∷◌, filter, length, slice_get, Some, refl, sym, ap, ◌∙◌, arith}
use Rattle.desk_records.proofs.Common.{nat_tests, length-map, length_permutation, Row, Has, has_left, has_right, IsHeldBy, rows_from, IsBlind, held_seen}
use Rattle.desk_records.proofs.Common.{on_content, has_at, part_row, parts_from, parts_of}
use Rattle.desk_records.proofs.Parts.{all_pass, its_parts}

-- ---- places in a list

pub place_within : {X : Type 0} (xs : List X) (d : ℕ) (x : X) → slice_get xs d ≡ Some x → d < length xs
place_within [] d x e = absurd cc
place_within (y ∷ xs) zero x e = omega arith
place_within (y ∷ xs) (suc d) x e = let less = place_within xs d x e in omega (arith, less)

pub has_place : {X : Type 0} (xs : List X) (x : X) → Has xs x → (d : ℕ) × (slice_get xs d ≡ Some x)
has_place [] x among = absurd among
has_place (y ∷ xs) x (inl same) = (0, ap (λ z. Some z) (sym same))
has_place (y ∷ xs) x (inr among) = let it = has_place xs x among in (suc it.0, it.1)

pub at_place : {X : Type 0} (xs : List X) (d : ℕ) → d < length xs → (x : X) × (slice_get xs d ≡ Some x)
at_place [] d few = absurd (omega (arith, few))
at_place (y ∷ xs) zero few = (y, refl)
at_place (y ∷ xs) (suc d) few = at_place xs d (omega (arith, few))

pub has_got : {X : Type 0} (xs : List X) (d : ℕ) (x : X) → slice_get xs d ≡ Some x → Has xs x
has_got [] d x e = absurd cc
has_got (y ∷ xs) zero x e = let same : x ≡ y = cc in inl same
has_got (y ∷ xs) (suc d) x e = inr (has_got xs d x e)

-- ---- rows of numbered things

pub item_row : {Y : Type 0} (f : ℕ → Y → Row) (k n d : ℕ) (ys : List Y) (y : Y) → n ≡ k + d → slice_get ys d ≡ Some y → Has (rows_from f k ys) (f n y)
item_row f k n d [] y number e = absurd cc
item_row f k n zero (z ∷ ys) y number e = let same : y ≡ z = cc in let at : n ≡ k = omega (arith, number) in inl (ap (λ i. f i y) at ∙ ap (f k) same)
item_row f k n (suc d) (z ∷ ys) y number e = inr (item_row f (k + 1) n d ys y (omega (arith, number)) e)

-- ---- rows of parts

module _ {X Y : Type 0} (f : ℕ → ℕ → Y → Row) (items : X → List Y) where
  pub part_among : (n at d : ℕ) (xs : List X) (x : X) (row : Row) → at ≡ n + d → slice_get xs d ≡ Some x → Has (rows_from (f at) 1 (items x)) row
      → Has (parts_from f items n xs) row
  part_among n at d [] x row number e among = absurd cc
  part_among n at zero (y ∷ xs) x row number e among = grind (arith, has_left)
  part_among n at (suc d) (y ∷ xs) x row number e among = has_right _ _ row (part_among (n + 1) at d xs x row (omega (arith, number)) e among)

-- ---- how many

-- of rows whose numbers nobody knows, by a test that doesn't see the number
pub held_passing : (p : Row → Bool) → IsBlind p → (rows wanted : List Row) → IsHeldBy rows wanted
    → length (filter p rows) ≡ length (filter (on_content p) wanted)
held_passing p blind rows wanted held = sym (length-map (filter p rows) p) ∙ length_permutation _ _ (held_seen p blind p blind rows wanted held)
    ∙ length-map (filter (on_content p) wanted) (on_content p)

row_count : {Y : Type 0} (f : ℕ → Y → Row) (k : ℕ) (ys : List Y) → length (rows_from f k ys) ≡ length ys
row_count f k [] = refl
row_count f k (y ∷ ys) = ap suc (row_count f (k + 1) ys)

-- the rows of one record are as many as its parts
pub own_parts : {X Y : Type 0} (rest : Y → Row) (items : X → List Y) (n r d : ℕ) (xs : List X) (x : X) → r ≡ n + d → slice_get xs d ≡ Some x
    → length (filter (has_at 0 r) (parts_from (part_row rest) items n xs)) ≡ length (items x)
own_parts rest items n r d xs x number e =
    let its = its_parts (part_row rest) items (has_at 0 r) r (λ m place y apart. apart) (parts_of items) refl (λ z. refl) n d number xs in
    grind (arith, nat_tests, its, e, all_pass (part_row rest r) (has_at 0 r), row_count (part_row rest r) 1 (items x))
