-- The rows of numbered records.
use Rattle.sql_calls.proofs.Common.{◌≡◌, ℕ, ◌+◌, pos, ◌+ℤ◌, List, [], ◌∷◌, ◌++◌, length, map, drop, fold, Bool, cond, ap, sym, ◌∙◌, arith, append_assoc}
use Rattle.sql_calls.proofs.Common.{append-nil}
use Rattle.sql_calls.proofs.Common.{Value, Null, Int, rowid, put_row, cast, cast_all, cast_row, Chosen, id_in, with_rowid, Integer, Table, rows_from}
use Rattle.sqlite_rules.specs.Edit.{numbered, put_all}
use Rattle.sql_calls.proofs.KeyedRows.{ids_less}
use Rattle.sqlite_value.specs.Order.{Row}
use Rattle.sqlite_sql.specs.Ops.{unary}

-- the row of the next number goes to the end
pub put_next : {X : Type 0} (f : ℕ → X → Row) → ((n : ℕ) (x : X) → rowid (f n x) ≡ Int (pos n)) → (n : ℕ) (xs : List X) (x : X)
    → put_row (f (n + length xs) x) (rows_from f n xs) ≡ rows_from f n (xs ++ x ∷ [])
put_next f ids n [] x = let at : n + 0 ≡ n = omega arith in ap (λ m. f m x ∷ []) at
put_next f ids n (y ∷ ys) x = grind (arith, put_next f ids (n + 1) ys x, ids_less)

either : (b : Bool) (x : Value) → cond b x x ≡ x
either b x = grind arith

pub cast_int : (n : ℕ) → cast Integer (Int (pos n)) ≡ Int (pos n)
unfolding unary
cast_int n = either _ (Int (pos n))

pub cast_null : cast Integer Null ≡ Null
unfolding unary
cast_null = either _ Null

-- ---- rows whose numbers SQLite chooses

next_number : {X : Type 0} (f : ℕ → X → Row) → ((n : ℕ) (x : X) → rowid (f n x) ≡ Int (pos n)) → (n : ℕ) (xs : List X)
    → fold (λ _ r. id_in (rowid r) +ℤ pos 1) (pos n) (rows_from f n xs) ≡ pos (n + length xs)
next_number f ids n [] = let at : n ≡ n + 0 = omega arith in ap pos at
next_number f ids n (x ∷ xs) =
    let at : n + 1 + length xs ≡ n + length (x ∷ xs) = omega arith in
    ap (λ v. fold (λ _ r. id_in (rowid r) +ℤ pos 1) (id_in v +ℤ pos 1) (rows_from f (n + 1) xs)) (ids n x) ∙ next_number f ids (n + 1) xs ∙ ap pos at

module _ {X : Type 0} (f : ℕ → X → Row) (ids : (n : ℕ) (x : X) → rowid (f n x) ≡ Int (pos n)) (table : Table) (source : X → Row)
    (becomes : (n : ℕ) (x : X) → Int (pos n) ∷ cast_all table.columns (source x) ≡ f n x) where
  numbered_next : (xs : List X) (x : X) → with_rowid Chosen (rows_from f 1 xs) (cast_row table (Null ∷ source x)) ≡ f (1 + length xs) x
  numbered_next xs x = rw (cast_null) (ap (λ id. Int id ∷ cast_all table.columns (source x)) (next_number f ids 1 xs) ∙ becomes (1 + length xs) x)

  -- they go to the end, in their order
  pub puts_on : (xs ys : List X)
      → put_all (rows_from f 1 xs) (numbered Chosen (rows_from f 1 xs) (map (λ s. cast_row table (drop 0 s)) (map (λ x. Null ∷ source x) ys)))
      ≡ rows_from f 1 (xs ++ ys)
  puts_on xs [] = ap (rows_from f 1) (sym (append-nil xs))
  puts_on xs (y ∷ ys) =
      let more = map (λ s. cast_row table (drop 0 s)) (map (λ x. Null ∷ source x) ys) in
      ap (λ r. put_all (put_row r (rows_from f 1 xs)) (numbered Chosen (put_row r (rows_from f 1 xs)) more)) (numbered_next xs y)
      ∙ ap (λ rows. put_all rows (numbered Chosen rows more)) (put_next f ids 1 xs y)
      ∙ puts_on (xs ++ y ∷ []) ys ∙ ap (rows_from f 1) (append_assoc xs (y ∷ []) ys)
