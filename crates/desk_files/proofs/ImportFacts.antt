-- What the records so far say of the whole import.
use Rattle.desk_files.proofs.Common.{◌≡◌, ◌<◌, ◌≤◌, ◌+◌, ℕ, zero, suc, List, [], ◌∷◌, ◌++◌, length, take, Bool, true, false, Some, None, is_none, unwrap_or}
use Rattle.desk_files.proofs.Common.{header, pointwise}
use Rattle.desk_files.proofs.Common.{Ok, Err, Bor, refl, sym, ◌∙◌, ap, arith, add-zero, length-append, append_assoc, below_more, codes, nat_eq, ends_with}
use Rattle.desk_files.proofs.Common.{find, range_with_len, true≢false, append-nil, Reader, are_distinct_words, TargetRow, each_row, faulty_line}
use Rattle.desk_files.proofs.Common.{ids_of_rows, import_of, records_of, rows_of, targets_in_file, HasIds, Pushes, row_behind, GivesRecords}
use Rattle.desk_files.proofs.Common.{GivesNext, Record}
use Rattle.desk_files.proofs.Common.{ImportedRows}
use Rattle.desk_files.proofs.StepFacts.{rows_fault, rows_more}

-- the header and the records that were taken, before those that the reader still gives
pub record Imported (records : List Record) (rows : ImportedRows) (line : ℕ) (reader : Reader (Bor (List ℕ))) : Type 0 where
  pub first : Record
  pub done : List Record
  pub more : List Record
  pub whole : records ≡ first ∷ (done ++ more)
  pub header : pointwise (pointwise nat_eq) first header ≡ true
  pub gives : GivesRecords reader more
  pub taken : each_row done ≡ Some rows.rows
  pub distinct : are_distinct_words (ids_of_rows rows.rows) ≡ true
  pub ids : HasIds rows
  pub count : line ≡ length done + 2
  -- no beginning so far is faulty
  pub clean : (n : ℕ) → n < line → 1 ≤ n → is_none (rows_of (take n records)) ≡ false

-- a file that ends with a line feed says what its records say
pub says : (bytes : List ℕ) (b : Bool) → b ≡ ends_with nat_eq bytes (codes "\n") → b ≡ true → targets_in_file bytes ≡ import_of (records_of bytes)
says bytes b told is = rw (sym told ∙ is) refl

-- ---- the header

pub no_record : (records : List Record) (new : Reader (Bor (List ℕ))) (r : Record) → GivesNext records new false r → import_of records ≡ Err 1
no_record records new r h = grind arith

pub no_header : (records : List Record) (new : Reader (Bor (List ℕ))) (r : Record) → GivesNext records new true r → pointwise (pointwise nat_eq) r header
    ≡ false → import_of records
    ≡ Err 1
no_header records new r h other = grind arith

only_one : (n : ℕ) → n < 2 → 1 ≤ n → n ≡ 1
only_one n below least = omega arith

pub begins : (records : List Record) (new : Reader (Bor (List ℕ))) (r : Record) (rows : ImportedRows) → GivesNext records new true r
    → pointwise (pointwise nat_eq) r header ≡ true
    → rows.rows ≡ [] → HasIds rows → Imported records rows 2 new
begins [] new r rows h is none ids = absurd (true≢false h)
begins (first ∷ rest) new r rows h is none ids =
    let named : pointwise (pointwise nat_eq) first header ≡ true = rw h.1 at is in
    record {
      first = first;
      done = [];
      more = rest;
      whole = refl;
      header = named;
      gives = h.2;
      taken = rw none refl;
      distinct = rw none refl;
      ids = ids;
      count = refl;
      clean = λ n below least. rw (only_one n below least, named) refl;
    }

-- ---- the end

rows_are : (first : Record) (done : List Record) (rows : List TargetRow) → pointwise (pointwise nat_eq) first header ≡ true → each_row done ≡ Some rows
    → are_distinct_words (ids_of_rows rows)
    ≡ true → rows_of (first ∷ done) ≡ Some rows
rows_are first done rows named taken distinct = rw (named, taken, distinct) refl

nothing_more : (more : List Record) (new : Reader (Bor (List ℕ))) (r : Record) → GivesNext more new false r → more ≡ []
nothing_more more new r h = grind arith

pub ends : (records : List Record) (rows : ImportedRows) (line : ℕ) (old new : Reader (Bor (List ℕ))) (r : Record) (i : Imported records rows line old)
    → GivesNext i.more new false r → import_of records ≡ Ok rows.rows
ends records rows line old new r i h =
    let whole : records ≡ i.first ∷ i.done = i.whole ∙ ap (λ more. i.first ∷ (i.done ++ more)) (nothing_more i.more new r h)
    ∙ ap (λ done. i.first ∷ done) (append-nil i.done) in
    rw (whole, rows_are i.first i.done rows.rows i.header i.taken i.distinct) refl

-- ---- the beginnings

take-suc_length : (done : List Record) (r : Record) (rest : List Record) → take (suc (length done)) (done ++ r ∷ rest) ≡ done ++ r ∷ []
take-suc_length [] r rest = refl
take-suc_length (d ∷ done) r rest = ap (λ ds. d ∷ ds) (take-suc_length done r rest)

-- the first records, up to the one at hand
take_here : (first : Record) (done : List Record) (r : Record) (rest : List Record) (n : ℕ) → n ≡ length done + 2 → take n (first ∷ (done ++ r ∷ rest))
    ≡ first ∷ (done ++ r ∷ [])
take_here first done r rest n e =
    let s : n ≡ suc (suc (length done)) = omega arith in
    rw s (ap (λ ds. first ∷ ds) (take-suc_length done r rest))

-- the least number of a range that passes
find_least : (p : ℕ → Bool) (k n a : ℕ) → k < n → ((j : ℕ) → j < k → p (a + j) ≡ false) → p (a + k) ≡ true → find p (range_with_len a n) ≡ Some (a + k)
find_least p k zero a within below here = absurd (omega arith)
find_least p zero (suc n) a within below here = let h : p a ≡ true = rw (add-zero a) at here in rw (h, add-zero a) refl
find_least p (suc k) (suc n) a within below here =
    let next : (j : ℕ) → (a + 1) + j ≡ a + suc j = λ j. omega arith in
    let h : p a ≡ false = rw (add-zero a) at (below 0 (omega arith)) in
    rw (h, ← next k)
    (find_least p k n (a + 1) (omega arith) (λ j lt. ap p (next j) ∙ below (suc j) (omega (arith, lt))) (ap p (next k) ∙ here))

found_line : (p : ℕ → Bool) (n line : ℕ) → 1 ≤ line → line ≤ n → ((j : ℕ) → j < line → 1 ≤ j → p j ≡ false) → p line ≡ true
    → unwrap_or (find p (range_with_len 1 n)) 1 ≡ line
found_line p n zero least within below here = absurd (omega arith)
found_line p n (suc k) least within below here =
    let e : 1 + k ≡ suc k = omega arith in
    let found : find p (range_with_len 1 n) ≡ Some (1 + k) = find_least p k n 1 (omega arith) (λ j lt. below (1 + j) (omega (arith, lt)) (omega arith))
    (ap p e ∙ here) in
    rw (found, e) refl

-- ---- a fault

pub faults : (records : List Record) (rows : ImportedRows) (line : ℕ) (old new : Reader (Bor (List ℕ))) (r : Record) (i : Imported records rows line old)
    → GivesNext i.more new true r → row_behind rows.rows r ≡ None → import_of records ≡ Err line
faults records rows line old new r i h none = by i.more refl h
  where
    by : (more : List Record) → i.more ≡ more → GivesNext more new true r → import_of records ≡ Err line
    by [] e g = absurd (true≢false g)
    by (x ∷ rest) e g =
        let faulty : row_behind rows.rows x ≡ None = rw g.1 at none in
        let whole : records ≡ i.first ∷ (i.done ++ x ∷ rest) = i.whole ∙ ap (λ more. i.first ∷ (i.done ++ more)) e in
        let no_rows : rows_of (i.first ∷ (i.done ++ x ∷ rest)) ≡ None = rw (i.header, rows_fault i.done x rest rows.rows i.taken faulty) refl in
        let none_so_far : rows_of (i.first ∷ (i.done ++ x ∷ [])) ≡ None = rw (i.header, rows_fault i.done x [] rows.rows i.taken faulty) refl in
        let here : is_none (rows_of (take line records)) ≡ true = rw (whole, take_here i.first i.done x rest line i.count, none_so_far) refl in
        let size : length records ≡ suc (length i.done + suc (length rest)) = ap length whole ∙ ap suc (length-append i.done (x ∷ rest)) in
        let told : faulty_line records ≡ line = found_line (λ n. is_none (rows_of (take n records))) (length records) line (omega (arith, i.count))
        (omega (arith, i.count, size)) i.clean here in
        let no : rows_of records ≡ None = ap rows_of whole ∙ no_rows in
        rw (no, told) refl

-- ---- one record more

pub goes_on : (records : List Record) (old_rows rows : ImportedRows) (line : ℕ) (old new : Reader (Bor (List ℕ))) (r : Record)
    (i : Imported records old_rows line old) (row : TargetRow) → GivesNext i.more new true r → row_behind old_rows.rows r ≡ Some row
    → Pushes old_rows rows row → Imported records rows (line + 1) new
goes_on records old_rows rows line old new r i row h next pushes = by i.more refl h
  where
    by : (more : List Record) → i.more ≡ more → GivesNext more new true r → Imported records rows (line + 1) new
    by [] e g = absurd (true≢false g)
    by (x ∷ rest) e g =
        let good : row_behind old_rows.rows x ≡ Some row = rw g.1 at next in
        let both = rows_more i.done x old_rows.rows row i.taken i.distinct good in
        let taken : each_row (i.done ++ x ∷ []) ≡ Some rows.rows = rw pushes.pushed both.0 in
        let distinct : are_distinct_words (ids_of_rows rows.rows) ≡ true = rw pushes.pushed both.1 in
        let whole : records ≡ i.first ∷ (i.done ++ x ∷ rest) = i.whole ∙ ap (λ more. i.first ∷ (i.done ++ more)) e in
        let so_far : rows_of (i.first ∷ (i.done ++ x ∷ [])) ≡ Some rows.rows = rows_are i.first (i.done ++ x ∷ []) rows.rows i.header taken distinct in
        let here : is_none (rows_of (take line records)) ≡ false = rw (whole, take_here i.first i.done x rest line i.count, so_far) refl in
        record {
          first = i.first;
          done = i.done ++ x ∷ [];
          more = rest;
          whole = whole ∙ ap (λ more. i.first ∷ more) (sym (append_assoc i.done (x ∷ []) rest));
          header = i.header;
          gives = g.2;
          taken = taken;
          distinct = distinct;
          ids = pushes.ids;
          count = omega (arith, i.count, length-append i.done (x ∷ []));
          clean = below_more (λ n. 1 ≤ n → is_none (rows_of (take n records)) ≡ false) line i.clean (λ least. here);
        }
