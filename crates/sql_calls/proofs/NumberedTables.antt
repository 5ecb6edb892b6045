-- A table whose k-th row has number k, with any UNIQUE and any index.
use Rattle.sql_calls.proofs.Common.{sym, ◌≡◌, ◌<◌, ℕ, zero, suc, ◌+◌, pos, List, [], ◌∷◌, ◌++◌, length, map, filter, take, set, slice_get, Bool, true, false}
use Rattle.sql_calls.proofs.Common.{Option, Some, option_map, refl, ap, ap₂, subst, ◌∙◌, arith, Ordering, Less, IsPermutation, AllByRecursion, is_eq, Value}
use Rattle.sql_calls.proofs.Common.{Null, Int, value_cmp, rowid, put_row, without_rowid, IsAscending, Trees, Binary, Schema, Table, cast_all, Term, col, lit}
use Rattle.sql_calls.proofs.Common.{Query, Output, output_cmp, page, IsAnswer, overlay, Database, one_permutation, all_of, filter_all, map-map, rows_from}
use Rattle.sql_calls.proofs.Common.{IsPermutation-map, IsPermutation-sym}
use Rattle.sql_calls.proofs.KeyedRows.{ids_less, ids_same, IsPast, over, put_first, put_later}
use Rattle.sqlite_keyed.proofs.ListLemmas.{filter_none, all_weaker, ascending-filter, ascending-map}
use Rattle.std.specs.Option.{option_to_list}
use Rattle.sqlite_value.specs.Order.{Row}
use Rattle.sql_calls.proofs.Selects.{simple, by, passes, shown_of, shown_in, simple_rows, rises_to}
use Rattle.sql_calls.proofs.Updates.{Updated}
use Rattle.sql_calls.proofs.KeyedTables.{written, one_written}
use Rattle.std.specs.Prelude.{reverse}
use Rattle.std.proofs.lemmas.Grind.{reverse_onto}
use Rattle.std.proofs.lemmas.List.Sorted.{IsPermutation-refl, IsPermutation-reverse}
use Rattle.sqlite_exec.proofs.ScanLemmas.{ascending-reverse}

module _ {X : Type 0} (f : ℕ → X → Row) (ids : (n : ℕ) (x : X) → rowid (f n x) ≡ Int (pos n)) where
  abbrev pub has_number : ℕ → Row → Bool
  has_number k r = is_eq (value_cmp (rowid r) (Int (pos k)))

  abbrev pub row_of : ℕ → Option X → List Row
  row_of k o = option_to_list (option_map (f k) o)

  past_from : (m n : ℕ) (xs : List X) → m < n → AllByRecursion (IsPast m) (rows_from f n xs)
  past_from m n [] h = tt
  past_from m n (x ∷ xs) h = ((n, h, ids n x), past_from m (n + 1) xs (omega (arith, h)))

  none_past : (n k : ℕ) (xs : List X) → k < n → filter (has_number k) (rows_from f n xs) ≡ []
  none_past n k xs h = filter_none _ _ (all_weaker (IsPast k) _ (λ r past. ap is_eq (over k r past)) _ (past_from k n xs h))

  -- WHERE number = ?1
  pub at_number : (n k : ℕ) (xs : List X) → filter (has_number (n + k)) (rows_from f n xs) ≡ row_of (n + k) (slice_get xs k)
  at_number n k [] = refl
  at_number n zero (x ∷ xs) = grind (arith, is_eq, ids_same, none_past)
  at_number n (suc k) (x ∷ xs) = grind (arith, at_number (n + 1) k xs, is_eq, ids_less)

  -- UPDATE .. WHERE number = ?1
  pub put_at : (n k : ℕ) (xs : List X) (y : X) → k < length xs → put_row (f (n + k) y) (without_rowid (pos (n + k)) (rows_from f n xs))
      ≡ rows_from f n (set xs k y)
  put_at n k [] y h = absurd (omega (arith, h))
  put_at n zero (x ∷ xs) y h =
      let at : n + zero ≡ n = omega arith in
      ap (λ m. put_row (f m y) (without_rowid (pos m) (rows_from f n (x ∷ xs)))) at
      ∙ put_first n (f n y) (f n x) _ (ids n y) (ids n x) (past_from n (n + 1) xs (omega arith))
  put_at n (suc k) (x ∷ xs) y h =
      let next : n + suc k ≡ (n + 1) + k = omega arith in
      ap (λ m. put_row (f m y) (without_rowid (pos m) (rows_from f n (x ∷ xs)))) next
      ∙ put_later ((n + 1) + k) n (f ((n + 1) + k) y) (f n x) _ (ids ((n + 1) + k) y) (ids n x) (omega arith)
      ∙ ap (λ l. f n x ∷ l) (put_at (n + 1) k xs y (omega (arith, h)))

-- ---- with the statements

module _ {X : Type 0} (f : ℕ → X → Row) (ids : (n : ℕ) (x : X) → rowid (f n x) ≡ Int (pos n)) where
  pub filter_numbered : (p : Row → Bool) (k n : ℕ) (xs : List X) → ((m : ℕ) (x : X) → p (f m x) ≡ has_number f ids k (f m x)) → filter p (rows_from f n xs)
      ≡ filter (has_number f ids k) (rows_from f n xs)
  filter_numbered p k n [] is = refl
  filter_numbered p k n (x ∷ xs) is = rw (is n x, filter_numbered p k (n + 1) xs is) refl

  module _ (schema : Schema) (table : Table) (test values : List Term) (params : Row) (old new : Database) where
    -- UPDATE .. WHERE number = ?1, of a row that is there
    pub sets_at : (i : ℕ) (xs : List X) (x y : X) → slice_get xs i ≡ Some x → i < length xs
        → ((m : ℕ) (z : X) → passes test params (f m z) ≡ has_number f ids (1 + i) (f m z))
        → Int (pos (1 + i)) ∷ cast_all table.columns (shown_of values params (f (1 + i) x)) ≡ f (1 + i) y → old.trees table.tree ≡ rows_from f 1 xs
        → Updated schema table (record { lets = []; body = simple table.tree test (col 1 0 ∷ col 1 0 ∷ values) }) params old new → new.trees table.tree
        ≡ rows_from f 1 (set xs i y)
    sets_at i xs x y there low names becomes was u =
        let shows = shown_of (col 1 0 ∷ col 1 0 ∷ values) params in
        let found : filter (passes test params) (old.trees table.tree) ≡ f (1 + i) x ∷ [] =
        ap (filter (passes test params)) was ∙ filter_numbered (passes test params) (1 + i) 1 xs names ∙ at_number f ids 1 i xs
        ∙ ap (row_of f ids (1 + i)) there in
        let answer = simple_rows table.tree test (col 1 0 ∷ col 1 0 ∷ values) params old.trees u.rows (u.answers.answer Null) in
        let rows : u.rows ≡ shows (f (1 + i) x) ∷ [] =
        one_permutation (shows (f (1 + i) x)) u.rows (subst (λ l. IsPermutation (map shows l) u.rows) found answer) in
        let id : shows (f (1 + i) x) ≡ Int (pos (1 + i)) ∷ Int (pos (1 + i)) ∷ shown_of values params (f (1 + i) x) =
        ap (λ v. v ∷ v ∷ shown_of values params (f (1 + i) x)) (ids (1 + i) x) in
        u.applies.rows ∙ ap (written table (old.trees table.tree) (λ r. r)) (rows ∙ ap (λ l. l ∷ []) id)
        ∙ one_written table (old.trees table.tree) (λ r. r) (1 + i) (shown_of values params (f (1 + i) x))
        ∙ ap₂ (λ r rows. put_row r (without_rowid (pos (1 + i)) rows)) becomes was ∙ put_at f ids 1 i xs y low

-- ---- in the order of their numbers

-- what is shown of the rows that pass rises as their numbers do
module _ {X : Type 0} (f : ℕ → X → Row) (cmp : Output → Output → Ordering) (show : Row → Output) (p : Row → Bool)
    (below : (m n : ℕ) (x y : X) → m < n → cmp (show (f m x)) (show (f n y)) ≡ Less) where
  abbrev IsBelow : Row → Row → Type 0
  IsBelow r s = cmp (show r) (show s) ≡ Less

  all_below : (m n : ℕ) (x : X) (ys : List X) → m < n → AllByRecursion (IsBelow (f m x)) (rows_from f n ys)
  all_below m n x [] h = tt
  all_below m n x (y ∷ ys) h = (below m n x y h, all_below m (n + 1) x ys (omega (arith, h)))

  rows_rise : (n : ℕ) (xs : List X) → IsAscending IsBelow (rows_from f n xs)
  rows_rise n [] = tt
  rows_rise n (x ∷ xs) = (all_below n (n + 1) x xs (omega arith), rows_rise (n + 1) xs)

  pub passing_rise : (n : ℕ) (xs : List X) → IsAscending IsBelow (filter p (rows_from f n xs))
  passing_rise n xs = ascending-filter IsBelow p _ (rows_rise n xs)

  pub rises : (n : ℕ) (xs : List X) → IsAscending (λ a b. cmp a b ≡ Less) (map show (filter p (rows_from f n xs)))
  rises n xs = ascending-map (λ a b. cmp a b ≡ Less) show _ (passing_rise n xs)

module _ {X : Type 0} (f : ℕ → X → Row) (ids : (n : ℕ) (x : X) → rowid (f n x) ≡ Int (pos n)) where
  -- SELECT .. ORDER BY number, or number DESC
  abbrev pub counted_query : Bool → ℕ → List Term → List Term → Term → Term → Query
  counted_query falling tree test shows limit offset =
      by (simple tree test shows) ((col 1 0, record { descending = falling; collation = Binary }) ∷ []) limit offset

  abbrev pub number_query : ℕ → List Term → List Term → Term → Term → Query
  number_query tree test shows limit offset = counted_query false tree test shows limit offset

  module _ (tree : ℕ) (test shows : List Term) (limit offset : Term) (params : Row) where
    abbrev passing : List X → List Row
    passing xs = filter (passes test params) (rows_from f 1 xs)

    module _ (falling : Bool) where
      abbrev q : Query
      q = counted_query falling tree test shows limit offset

      abbrev show : Row → Output
      show = shown_in q params

      -- over whatever index
      in_order : (db : Trees) (xs : List X) → db tree ≡ rows_from f 1 xs → (rows : List Row) → IsAnswer q (overlay db []) params rows → (kept : List Row)
          → IsPermutation (passing xs) kept → IsAscending (λ r s. output_cmp q (show r) (show s) ≡ Less) kept
          → rows ≡ page q params (map (shown_of shows params) kept)
      in_order db xs was rows answer kept same up =
          rises_to tree test shows ((col 1 0, record { descending = falling; collation = Binary }) ∷ []) limit offset params db rows answer (map show kept)
          (subst (λ l. IsPermutation (map show kept) (map show (filter (passes test params) l))) (sym was)
          (IsPermutation-map show _ _ (IsPermutation-sym _ _ same)))
          (ascending-map (λ a b. output_cmp q a b ≡ Less) show kept up) ∙ ap (page q params) (map-map (λ (o : Output). o.1) show kept)

    below : (m n : ℕ) (x y : X) → m < n → output_cmp (q false) (show false (f m x)) (show false (f n y)) ≡ Less
    below m n x y h = rw (ids m x, ids n y, ids_less m n h) refl

    above : (m n : ℕ) (x y : X) → m < n → output_cmp (q true) (show true (f n y)) (show true (f m x)) ≡ Less
    above m n x y h = rw (ids m x, ids n y, ids_less m n h) refl

    -- INSERT .. SELECT .. ORDER BY, and SELECT .. WHERE .. ORDER BY number LIMIT .. OFFSET ..
    pub numbered_in_order : (db : Trees) (xs : List X) → db tree ≡ rows_from f 1 xs → (rows : List Row) → IsAnswer (q false) (overlay db []) params rows
        → rows ≡ page (q false) params (map (shown_of shows params) (filter (passes test params) (rows_from f 1 xs)))
    numbered_in_order db xs was rows answer =
        in_order false db xs was rows answer (passing xs) (IsPermutation-refl _)
        (passing_rise f (output_cmp (q false)) (show false) (passes test params) below 1 xs)

    -- .. ORDER BY number DESC
    pub numbered_down : (db : Trees) (xs : List X) → db tree ≡ rows_from f 1 xs → (rows : List Row) → IsAnswer (q true) (overlay db []) params rows
        → rows ≡ page (q true) params (map (shown_of shows params) (reverse (filter (passes test params) (rows_from f 1 xs))))
    numbered_down db xs was rows answer =
        in_order true db xs was rows answer (reverse (passing xs)) (IsPermutation-reverse (passing xs))
        (ascending-reverse (λ r s. output_cmp (q true) (show true s) (show true r) ≡ Less) (passing xs)
        (passing_rise f (λ a b. output_cmp (q true) b a) (show true) (passes test params) above 1 xs))

  at_end : (n : ℕ) (x : X) (xs : List X) → (r : Row) × (more : List Row) × (reverse (rows_from f n (x ∷ xs)) ≡ r ∷ more)
      × (rowid r ≡ Int (pos (n + length xs)))
  at_end n x [] = let at : n ≡ n + 0 = omega arith in (f n x, [], refl, ids n x ∙ ap (λ m. Int (pos m)) at)
  at_end n x (y ∷ ys) =
      let it = at_end (n + 1) y ys in
      let on : n + 1 + length ys ≡ n + length (y ∷ ys) = omega arith in
      (it.0, it.1 ++ f n x ∷ [], reverse_onto (rows_from f (n + 1) (y ∷ ys)) (f n x) [] ∙ ap (λ l. l ++ f n x ∷ []) it.2, it.3 ∙ ap (λ m. Int (pos m)) on)

  -- SELECT number .. ORDER BY number DESC LIMIT 1
  abbrev pub last_query : ℕ → Query
  last_query tree = counted_query true tree [] (col 1 0 ∷ []) (lit (Int (pos 1))) (lit (Int (pos 0)))

  module _ (tree : ℕ) where
    abbrev pub last_of : ℕ → List Row
    last_of zero = []
    last_of (suc k) = (Int (pos (1 + k)) ∷ []) ∷ []

    -- the number of the last row, which is how many there are
    pub last_number : (params : Row) (db : Trees) (xs : List X) → db tree ≡ rows_from f 1 xs → (rows : List Row)
        → IsAnswer (last_query tree) (overlay db []) params rows → rows ≡ last_of (length xs)
    last_number params db xs was rows answer =
        let all : filter (passes [] params) (rows_from f 1 xs) ≡ rows_from f 1 xs = filter_all _ _ (all_of (λ r. true ≡ true) (λ r. refl) _) in
        numbered_down tree [] (col 1 0 ∷ []) (lit (Int (pos 1))) (lit (Int (pos 0))) params db xs was rows answer
        ∙ ap (λ l. take 1 (map (shown_of (col 1 0 ∷ []) params) (reverse l))) all ∙ last xs
      where
        last : (xs : List X) → take 1 (map (shown_of (col 1 0 ∷ []) params) (reverse (rows_from f 1 xs))) ≡ last_of (length xs)
        last [] = refl
        last (x ∷ xs) = let it = at_end 1 x xs in ap (λ l. take 1 (map (shown_of (col 1 0 ∷ []) params) l)) it.2 ∙ ap (λ (v : Value). (v ∷ []) ∷ []) it.3
