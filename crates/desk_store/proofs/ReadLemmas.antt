-- Rows that are read, whatever they are read as.
use Rattle.desk_store.proofs.Common.{slice_get, Command, few_of, has_at, nat_tests, ◌≡◌, ◌<◌, ◌++◌, ◌+◌, ℕ, get_or, take, List, [], ◌∷◌, length, map, Option}
use Rattle.desk_store.proofs.Common.{Some, None, option_map, Ok, Result, IfErr, IfOk, Vec, refl, sym, ap₂, subst, filter_map, ap, ◌∙◌, arith, cons_option}
use Rattle.desk_store.proofs.Common.{Global, Row, IsLastRow, Database, HasCleanDisk, IsUnchanged, State, Fault, AsksFew, AsksText, TakesFirst, Finds, Sees}
use Rattle.desk_store.proofs.Common.{Wears, Known, Knows, ShowsFirst, ask_finds, first_finds, HoldsLedger, Ledger, HoldsTables, AreReadAs, HasBroken, Bool}
use Rattle.desk_store.proofs.Common.{is_some, Place, Query, IfRowsBroken, IsReadAs, Asks}
use Rattle.std.specs.Prelude.{Err, IsErrAnd}
use Rattle.std.proofs.lemmas.List.{take_more}
use Rattle.std.proofs.lemmas.Slice.Zip.{all_zipped_more}
use Rattle.sqlite.specs.Effect.{Reads as Shows}
use Rattle.sqlite.proofs.Callers.{EndsIn}
use Rattle.sql_calls.proofs.Framing.{took}
use Rattle.sql_calls.proofs.Leavings.{unchanged_by}
use Rattle.desk_store.proofs.Known.{in_ledgers, known}

-- a further row, and what it is read as
pub read_more : {A : Type 0} (is : Row → A → Type 0) (rows : List Row) (found : List A) (at : ℕ) (row : Row) (one : A) → at < length rows
    → row ≡ get_or rows at row → AreReadAs is (take at rows) found → is row one
    → AreReadAs is (take (at + 1) rows) (found ++ one ∷ [])
read_more is rows found at row one within same so_far has = grind (arith, take_more, all_zipped_more, get_or)

-- what is read of the rows, by a part of it
pub read_mapped : {A B : Type 0} (f : A → B) (is : Row → B → Type 0) (rows : List Row) (found : List A) → AreReadAs (λ row a. is row (f a)) rows found
    → AreReadAs is rows (map f found)
read_mapped f is [] [] h = h
read_mapped f is (row ∷ rows) (a ∷ found) h = (h.0, read_mapped f is rows found h.1)
read_mapped f is rows found h = absurd h

-- what is read of each row by a part of it
pub read_parts : {A : Type 0} (part : Row → Row) (is : Row → A → Type 0) (rows : List Row) (found : List A) → AreReadAs (λ row a. is (part row) a) rows found
    → AreReadAs is (map part rows) found
read_parts part is [] [] h = h
read_parts part is (row ∷ rows) (a ∷ found) h = (h.0, read_parts part is rows found h.1)
read_parts part is rows found h = absurd h

-- a further row, and what is picked of it
module _ {X A : Type 0} (pick : X → Option A) where
  picked_push : (rows : List X) (row : X) → filter_map pick (rows ++ row ∷ []) ≡ filter_map pick rows ++ cons_option (pick row) []
  picked_push [] row = refl
  picked_push (r ∷ rows) row = grind (arith, picked_push rows row, filter_map)

  pub pick_more : (rows : List X) (found : List A) (at : ℕ) (row : X) (one : Option A) → at < length rows → row ≡ get_or rows at row
      → found ≡ filter_map pick (take at rows) → one ≡ pick row
      → found ++ cons_option one [] ≡ filter_map pick (take (at + 1) rows)
  pick_more rows found at row one within same so_far is =
      ap (λ l. l ++ cons_option one []) so_far ∙ ap (λ o. filter_map pick (take at rows) ++ cons_option o []) (is ∙ ap pick same)
      ∙ sym (ap (filter_map pick) (take_more rows at row within) ∙ picked_push (take at rows) (get_or rows at row))

module _ {A B : Type 0} (is : Row → A → Type 0) (row_of : B → Row) where
  -- what is read of one row tells of what the row was made of, and so does what is read of none
  pub one_read : (Tells : Option A → Option B → Type 0) → Tells None None → ((a : A) (b : B) → is (row_of b) a → Tells (Some a) (Some b))
      → (found : Option A) (wanted : Option B) (row : Option Row) → IsReadAs is found row → row ≡ option_map row_of wanted → Tells found wanted
  one_read h0 none some found wanted row h same = grind arith

module _ {A : Type 0} (is : Row → A → Type 0) (row_of : A → Row) (one : (a b : A) → is (row_of b) a → a ≡ b) where
  pub all_read : (found wanted : List A) → AreReadAs is (map row_of wanted) found → found ≡ wanted
  all_read [] [] h = refl
  all_read (a ∷ as_are) (b ∷ bs) h = ap₂ ◌∷◌ (one a b h.0) (all_read as_are bs h.1)
  all_read found wanted h = absurd h

-- rows of which the first is shown, if there is one
pub rows_of_first : (command : Command) (db : Database) (params : Row) (row : Option Row) → ShowsFirst command db params row
    → (rows : List Row) × (slice_get rows 0 ≡ row) × Shows command db params rows
rows_of_first command db params None shown = ([], refl, shown)
rows_of_first command db params (Some row) shown = (row ∷ shown.0, refl, shown.1)

-- ---- what is found by the rows that a text shows

few_kept : (most : ℕ) (rows : Vec Row Global) (answer : Result (Vec Row Global) Fault) → Ok (Some rows) ≡ few_of most answer → answer ≡ Ok rows
few_kept most rows answer e = grind (arith, nat_tests)

module _ {old new : State} {sql : List ℕ} {given params : Row} where
  -- where what was given comes to these parameters
  pub first_at : {row : Option Row} → TakesFirst old new sql given (Ok row) → given ≡ params → TakesFirst old new sql params (Ok row)
  first_at {row} h same = subst (λ its. TakesFirst old new sql its (Ok row)) same h

  pub all_at : {rows : Vec Row Global} → AsksText old new sql given (Ok rows) → given ≡ params → AsksText old new sql params (Ok rows)
  all_at {rows} h same = subst (λ its. AsksText old new sql its (Ok rows)) same h

-- few rows are all of them
pub few_asks : {old new : State} {sql : List ℕ} {params : Row} {rows : Vec Row Global} {most : ℕ} → AsksFew old new sql params most (Ok (Some rows))
    → AsksText old new sql params (Ok rows)
few_asks {rows = rows} {most = most} h = subst (AsksText _ _ _ _) (few_kept most rows h.answer h.few) h.asks

-- none are given where there are more
pub many_asks : {old new : State} {sql : List ℕ} {params : Row} {most : ℕ} → AsksFew old new sql params most (Ok None)
    → (rows : Vec Row Global) × AsksText old new sql params (Ok rows) × (most < length rows.items)
many_asks {old} {new} {sql} {params} {most} h = go h.answer h.asks h.few
  where
    go : (answer : Result (Vec Row Global) Fault) → AsksText old new sql params answer → Ok None ≡ few_of most answer
        → (rows : Vec Row Global) × AsksText old new sql params (Ok rows) × (most < length rows.items)
    go (Ok rows) asks few = (rows, asks, grind (arith, nat_tests))
    go (Err fault) asks few = absurd cc

module _ {R Q : Type 0} {Holds : Database → R → Type 0} {of : Q → R} {sql : List ℕ} {params : Row} {old new : State} (knows : Knows Holds sql)
    {A : Type 0} {Answer : Q → A → Type 0} {Read : A → Type 0} where
  pub all_tell : {rows : Vec Row Global} → ((db : Database) (now : Q) (holds : Holds db (of now))
      → Shows (knows db (of now) holds).command db params rows.items → (found : A) → Read found → Answer now found)
      → AsksText old new sql params (Ok rows) → (out : Result A Fault) → IfOk out Read → Finds Holds of old new out Answer
  all_tell {rows} means h out read = ask_finds Holds of sql params old new Answer knows rows h out (grind arith)

  pub first_tells : ((db : Database) (r : R) (holds : Holds db r) (at : Database) (given : Row) → EndsIn (knows db r holds).command at given)
      → {row : Option Row} → ((db : Database) (now : Q) (holds : Holds db (of now)) → ShowsFirst (knows db (of now) holds).command db params row
      → (found : A) → Read found → Answer now found)
      → TakesFirst old new sql params (Ok row) → (out : Result A Fault) → IfOk out Read → Finds Holds of old new out Answer
  first_tells ends {row} means h out read = first_finds Holds of sql params old new Answer knows ends row h out (grind arith)

-- ---- reads of one table of a ledger

one_last : (row : Option Row) (m n : ℕ) → IsLastRow m row → IsLastRow n row → m ≡ n
one_last row m n h k = grind arith

module _ {p : Place} {sql : List ℕ} {query : ℕ → Query} {names : List (List ℕ)} (text : Asks p sql query names)
    {Q : Type 0} {of : Q → Ledger} {params : Row} {old new : State} where
  -- the first row, if there is one, was made of one thing
  pub reads_one : {A : Type 0} (is : Row → A → Type 0) {row_of : A → Row} {wanted : Q → Option A} {row : Option Row}
      → ((db : Database) (now : Q) (holds : HoldsLedger db (of now)) (row : Option Row)
      → ShowsFirst (in_ledgers (known text) db (of now) holds).command db params row → row ≡ option_map row_of (wanted now))
      → TakesFirst old new sql params (Ok row) → (out : Result (Option A) Fault) → IfOk out (λ found. IsReadAs is found row)
      → ((a b : A) → is (row_of b) a → a ≡ b) → Finds HoldsLedger of old new out (λ q found. found ≡ wanted q)
  reads_one is {row_of = row_of} {wanted = wanted} {row = row} shows h out read one = first_tells (in_ledgers (known text)) (λ db l holds at given. tt)
      (λ db now holds shown found is_read. one_read is row_of ◌≡◌ refl (λ a b same. ap Some (one a b same)) found (wanted now) row is_read
      (shows db now holds row shown)) h out read

  -- the rows were made of a list
  pub reads_all : {A : Type 0} (is : Row → A → Type 0) {row_of : A → Row} {wanted : Q → List A} {rows : Vec Row Global}
      → ((db : Database) (now : Q) (holds : HoldsLedger db (of now)) (rows : List Row)
      → Shows (in_ledgers (known text) db (of now) holds).command db params rows → rows ≡ map row_of (wanted now))
      → AsksText old new sql params (Ok rows) → (out : Result (Vec A Global) Fault) → IfOk out (λ found. AreReadAs is rows.items found.items)
      → ((a b : A) → is (row_of b) a → a ≡ b) → Finds HoldsLedger of old new out (λ q found. found.items ≡ wanted q)
  reads_all is {row_of = row_of} {wanted = wanted} {rows = rows} shows h out read one = all_tell (in_ledgers (known text))
      (λ db now holds shown found are. all_read is row_of one found.items (wanted now)
      (subst (λ l. AreReadAs is l found.items) (shows db now holds rows.items shown) are)) h out read

  -- the first row has the last number
  pub reads_last : {count : Q → ℕ} {row : Option Row} → ((db : Database) (now : Q) (holds : HoldsLedger db (of now)) (row : Option Row)
      → ShowsFirst (in_ledgers (known text) db (of now) holds).command db params row → IsLastRow (count now) row)
      → TakesFirst old new sql params (Ok row) → (out : Result ℕ Fault) → IfOk out (λ n. IsLastRow n row)
      → Finds HoldsLedger of old new out (λ q last. last ≡ count q)
  reads_last {count = count} {row = row} shows = first_tells (in_ledgers (known text)) (λ db l holds at given. tt)
      (λ db now holds shown n is. one_last row n (count now) is (shows db now holds row shown))

  -- there is a row where there is such a thing
  pub reads_whether : {there : Q → Bool} {row : Option Row} → ((db : Database) (now : Q) (holds : HoldsLedger db (of now)) (row : Option Row)
      → ShowsFirst (in_ledgers (known text) db (of now) holds).command db params row → is_some row ≡ there now)
      → TakesFirst old new sql params (Ok row) → Finds HoldsLedger of {E = Fault} old new (Ok (is_some row)) (λ q found. found ≡ there q)
  reads_whether {row = row} shows h = first_finds HoldsLedger of sql params old new _ (in_ledgers (known text)) (λ db l holds at given. tt) row h
      (Ok (is_some row)) (λ db now holds. shows db now holds row)

-- one that is broken among all
pub told_broken : {A : Type 0} (broken : Row → Type 0) (rows : List Row) (at : ℕ) (row : Row) → at < length rows → row ≡ get_or rows at row → (fault : Fault)
    → IfRowsBroken fault (broken row) → (out : Result A Fault) → IsErrAnd out (λ e. e ≡ fault) → IfErr out (λ fault. IfRowsBroken fault (HasBroken broken rows))
told_broken broken rows at row within is fault told out same = let among = has_at rows at row within is in grind arith

-- ---- what a read leaves

module _ {R : Type 0} (Holds : Database → R → Type 0) {sql : List ℕ} (params : Row) (old new : State) (knows : Knows Holds sql) where
  still_seen : Wears old new → ((k : Known old.now.schema sql) → HasCleanDisk new → IsUnchanged old new) → (r : R) → Sees Holds old r → Sees Holds new r
  still_seen wears same r was = grind arith

  pub first_sees : (row : Option Row) → TakesFirst old new sql params (Ok row) → (r : R) → Sees Holds old r → Sees Holds new r
  first_sees row h = still_seen h.survives.clean (λ k clean. took Holds sql params old new knows row k (h.answers clean))

  pub ask_sees : (rows : Vec Row Global) → AsksText old new sql params (Ok rows) → (r : R) → Sees Holds old r → Sees Holds new r
  ask_sees rows h = still_seen h.survives.clean (λ k clean. unchanged_by sql k.command params old new k.means rows.items (h.answers clean))

  pub few_sees : (most : ℕ) (found : Option (Vec Row Global)) → AsksFew old new sql params most (Ok found) → (r : R) → Sees Holds old r → Sees Holds new r
  few_sees most None h = let many = many_asks h in ask_sees many.0 many.1
  few_sees most (Some rows) h = ask_sees rows (few_asks h)

-- .. of a ledger, by what is known of tables
module _ {sql : List ℕ} (params : Row) (old new : State) (knows : Knows HoldsTables sql) where
  pub first_keeps : (row : Option Row) → TakesFirst old new sql params (Ok row) → (l : Ledger) → Sees HoldsLedger old l → Sees HoldsLedger new l
  first_keeps = first_sees HoldsLedger params old new (in_ledgers knows)

  pub ask_keeps : (rows : Vec Row Global) → AsksText old new sql params (Ok rows) → (l : Ledger) → Sees HoldsLedger old l → Sees HoldsLedger new l
  ask_keeps = ask_sees HoldsLedger params old new (in_ledgers knows)

  pub few_keeps : (most : ℕ) (found : Option (Vec Row Global)) → AsksFew old new sql params most (Ok found) → (l : Ledger) → Sees HoldsLedger old l
      → Sees HoldsLedger new l
  few_keeps = few_sees HoldsLedger params old new (in_ledgers knows)
