-- How the rows and their ids go on by one record.
use native.Mathlib.Omega.{arith}
use Rattle.desk_files.proofs.Common.{◌≡◌, ◌&&◌, ◌||◌, ℕ, List, [], ◌∷◌, ◌++◌, Bool, true, false, not, cond, nat_eq, nat_cmp, Option, Some, None, option_map}
use Rattle.desk_files.proofs.Common.{kept_if}
use Rattle.desk_files.proofs.Common.{option_and_then, BTreeSet, refl, ◌∙◌, ap, list_any, map-append, list_any-append}
use Rattle.desk_files.proofs.Common.{are_distinct_words, TargetRow, each_row, ids_of_rows, HasIds, Pushes, TakesRecord, has_id, if_new}
use Rattle.desk_files.proofs.Common.{row_behind}
use Rattle.desk_files.proofs.Common.{Record, row_of, ImportedRows}
use Rattle.std.specs.BTreeMap.{is_at}
use Rattle.std.specs.BTreeSet.{contains}
use Rattle.std.specs.Cmp.Lexicographic.{nat_list_eq_equiv, pointwise, slice_cmp, texts_ties}

-- ---- the set of ids

-- one more id in the set, for one more row
pub ids_with : (old new : BTreeSet (List ℕ)) (rows : List TargetRow) (row : TargetRow) → ((q : List ℕ) → contains (slice_cmp nat_cmp) old q ≡ has_id q rows)
    → ((q : List ℕ) → contains (slice_cmp nat_cmp) new q ≡ cond (is_at (slice_cmp nat_cmp row.id) q) true (contains (slice_cmp nat_cmp) old q))
    → (q : List ℕ) → contains (slice_cmp nat_cmp) new q ≡ has_id q (rows ++ row ∷ [])
ids_with old new rows row had added q = grind (arith, texts_ties, map-append, list_any-append)

-- an id that was added is new
pub was_absent : (added had : Bool) → added ≡ true → added ≡ not had → had ≡ false
was_absent added had so e = grind arith

pub takes_new : (old new : ImportedRows) (r : Record) (row : TargetRow) → row_of r ≡ Some row → has_id row.id old.rows ≡ false → new.rows ≡ old.rows ++ row ∷ []
    → HasIds new → TakesRecord old new r true
takes_new old new r row read fresh pushed ids = rw (read, fresh) (refl, record { pushed = pushed; ids = ids })

-- ---- what a taken record says

pub not_taken : (old new : ImportedRows) (r : Record) → TakesRecord old new r false → row_behind old.rows r ≡ None
not_taken old new r h = grind arith

pub taken : (old new : ImportedRows) (r : Record) → TakesRecord old new r true → (row : TargetRow) × (row_behind old.rows r ≡ Some row) × Pushes old new row
taken old new r h = grind arith

-- ---- rows of records

pub each_row-append : (rs ss : List Record) (xs ys : List TargetRow) → each_row rs ≡ Some xs → each_row ss ≡ Some ys → each_row (rs ++ ss) ≡ Some (xs ++ ys)
each_row-append [] ss xs ys e f = let same : [] ≡ xs = cc e in rw (← same) f
each_row-append (r ∷ rs) ss xs ys e f = grind (arith, each_row-append rs ss)

none_go : (o : Option TargetRow) (n : Option (List TargetRow)) → n ≡ None → option_and_then (λ row. option_map (λ rows. row ∷ rows) n) o ≡ None
none_go o n e = grind arith

each_row-none : (rs ss : List Record) → each_row ss ≡ None → each_row (rs ++ ss) ≡ None
each_row-none [] ss none = none
each_row-none (r ∷ rs) ss none = none_go (row_of r) (each_row (rs ++ ss)) (each_row-none rs ss none)

-- ---- ids

flipped : (v w : List ℕ) → pointwise nat_eq v w ≡ pointwise nat_eq w v
flipped v w = nat_list_eq_equiv.symm v w

or_parts : (a b : Bool) → (a || b) ≡ false → (a ≡ false) × (b ≡ false)
or_parts a b e = grind arith

and_parts : (a b : Bool) → (a && b) ≡ true → (a ≡ true) × (b ≡ true)
and_parts a b e = grind arith

-- a word that is not among distinct ones
distinct_more : (ws : List (List ℕ)) (w : List ℕ) → are_distinct_words ws ≡ true → list_any (λ v. pointwise nat_eq v w) ws ≡ false
    → are_distinct_words (ws ++ w ∷ []) ≡ true
distinct_more [] w so fresh = refl
distinct_more (x ∷ ws) w so fresh =
    let was = and_parts (not (list_any (λ v. pointwise nat_eq v x) ws)) (are_distinct_words ws) so in
    let apart = or_parts (pointwise nat_eq x w) (list_any (λ v. pointwise nat_eq v w) ws) fresh in
    let w_x : pointwise nat_eq w x ≡ false = flipped w x ∙ apart.0 in
    rw (list_any-append (λ v. pointwise nat_eq v x) ws (w ∷ []), w_x, distinct_more ws w was.1 apart.1) (still (list_any (λ v. pointwise nat_eq v x) ws) was.0)
  where
    still : (b : Bool) → not b ≡ true → not (b || (false || false)) && true ≡ true
    still true n = cc n
    still false n = refl

-- a word that stands twice
distinct_twice : (ws : List (List ℕ)) (w : List ℕ) (more : List (List ℕ)) → list_any (λ v. pointwise nat_eq v w) ws ≡ true → are_distinct_words (ws ++ w ∷ more)
    ≡ false
distinct_twice [] w more there = cc there
distinct_twice (x ∷ ws) w more there = by (pointwise nat_eq x w) refl (list_any-append (λ v. pointwise nat_eq v x) ws (w ∷ more)) (distinct_twice ws w more)
  where
    or_true : (a b : Bool) → a || (true || b) ≡ true
    or_true true b = refl
    or_true false b = refl

    and_false : (a : Bool) → a && false ≡ false
    and_false true = refl
    and_false false = refl

    by : (b : Bool) → pointwise nat_eq x w ≡ b → list_any (λ v. pointwise nat_eq v x) (ws ++ w ∷ more)
        ≡ list_any (λ v. pointwise nat_eq v x) ws || list_any (λ v. pointwise nat_eq v x) (w ∷ more)
        → (list_any (λ v. pointwise nat_eq v w) ws ≡ true → are_distinct_words (ws ++ w ∷ more) ≡ false) → are_distinct_words ((x ∷ ws) ++ w ∷ more) ≡ false
    by true same joined later =
        let w_x : pointwise nat_eq w x ≡ true = flipped w x ∙ same in
        rw (joined, w_x, or_true (list_any (λ v. pointwise nat_eq v x) ws) (list_any (λ v. pointwise nat_eq v x) more)) refl
    by false other joined later =
        rw (later (rw other at there)) (and_false (not (list_any (λ v. pointwise nat_eq v x) (ws ++ w ∷ more))))

-- ---- one record more

-- the rows of distinct ids, and one behind them
pub rows_more : (done : List Record) (r : Record) (rows : List TargetRow) (row : TargetRow) → each_row done ≡ Some rows → are_distinct_words (ids_of_rows rows)
    ≡ true → row_behind rows r ≡ Some row
    → (each_row (done ++ r ∷ []) ≡ Some (rows ++ row ∷ [])) × (are_distinct_words (ids_of_rows (rows ++ row ∷ [])) ≡ true)
rows_more done r rows row so distinct next = grind (arith, each_row-append, map-append, distinct_more)

old_id : (rows : List TargetRow) (row : TargetRow) → if_new rows row ≡ None → has_id row.id rows ≡ true
old_id rows row e = by (has_id row.id rows) e
  where
    by : (b : Bool) → cond b None (Some row) ≡ None → b ≡ true
    by true f = refl
    by false f = cc f

-- a faulty record, whatever follows
pub rows_fault : (done : List Record) (r : Record) (rest : List Record) (rows : List TargetRow) → each_row done ≡ Some rows → row_behind rows r ≡ None
    → option_and_then (kept_if (λ (rows : List TargetRow). are_distinct_words (ids_of_rows rows))) (each_row (done ++ r ∷ rest)) ≡ None
rows_fault done r rest rows so none = by (row_of r) (each_row rest) refl refl none
  where
    by : (o : Option TargetRow) (m : Option (List TargetRow)) → row_of r ≡ o → each_row rest ≡ m → option_and_then (if_new rows) o ≡ None
        → option_and_then (kept_if (λ (rows : List TargetRow). are_distinct_words (ids_of_rows rows))) (each_row (done ++ r ∷ rest)) ≡ None
    by None m read others e = let no : each_row (r ∷ rest) ≡ None = rw read refl in rw (each_row-none done (r ∷ rest) no) refl
    by (Some row) None read others e = let no : each_row (r ∷ rest) ≡ None = rw (read, others) refl in rw (each_row-none done (r ∷ rest) no) refl
    by (Some row) (Some more) read others e =
        let all : each_row (r ∷ rest) ≡ Some (row ∷ more) = rw (read, others) refl in
        let twice : are_distinct_words (ids_of_rows (rows ++ row ∷ more)) ≡ false =
        ap are_distinct_words (map-append (λ (x : TargetRow). x.id) rows (row ∷ more))
        ∙ distinct_twice (ids_of_rows rows) row.id (ids_of_rows more) (old_id rows row e) in
        rw (each_row-append done (r ∷ rest) rows (row ∷ more) so all, twice) refl
