-- What a failed read of a table is blamed on.
use Rattle.desk_store.proofs.FailLemmas.{told_alone, broken_so, from_table, tells_by}
use Rattle.std.specs.Prelude.{◌&&◌, Err, filter}
use Rattle.desk_store.proofs.Common.{◌≡◌, ◌≤◌, ◌<◌, ◌⊎◌, ◌^◌, inl, inr, ℕ, min, pos, negsuc, Bool, true, false, not, List, [], ◌∷◌, length, Option, Some, None}
use Rattle.desk_store.proofs.Common.{Ok, Result, IfErr, Vec, refl, subst, arith, and_parts, nat_tests, number_in_good, number_in_is, Global, Value, Null, Int}
use Rattle.desk_store.proofs.Common.{Row, column, Database, Query, Ghosts, lit, Has, Fault, AsksText, TakesFirst, ShowsFirst, passes, shown_of, Members, Place}
use Rattle.desk_store.proofs.Common.{Rollouts, HoldsTables, Tables, are_entries, is_too_long, is_wide, first_broken, number_in, broken_stored_action_column}
use Rattle.desk_store.proofs.Common.{broken_offer_column, Offer, Column, StoredAction, LAST_ROLLOUT, LIST_PLACES, count_shown, list_places_is, of_rollout}
use Rattle.desk_store.proofs.Common.{placed_columns, places_query, BlamesGiven, seen_in, HasBroken, HasNoNumber, IfRowsBroken, large_number, many_rows}
use Rattle.desk_store.proofs.Common.{Calls, State, last_rollout_is, HasUnreadable, Reading, ReadsOf, Broken, Asks, Counts, counted_at}
use Rattle.desk_store.proofs.Common.{AsksFew, columns_of_stored_action, page}
use Rattle.std.proofs.lemmas.List.Filters.{length-filter_both}
use Rattle.sqlite.specs.Effect.{Reads as Shows}
use Rattle.desk_records.specs.TableRows.{IsAction, IsOffer}
use Rattle.desk_store.proofs.BlameLemmas.{blamed, found_reading, unread}
use Rattle.desk_records.specs.ReadRows.{columns_of_offer}
use Rattle.desk_store.specs.Blaming.{HoldsReading}
use Rattle.desk_store.specs.Breaking.{TellsOnly}
use Rattle.desk_store.specs.Unreadable.{HasTwo}
use Rattle.desk_store.proofs.Known.{answer_of, known, over, tables_know}
use Rattle.desk_store.proofs.RawCalls.{count_shown as row_of_count}
use Rattle.desk_store.proofs.ReadLemmas.{all_tell, first_tells, many_asks}
use Rattle.desk_store.proofs.RawLists.{small_or_wide}
use Rattle.desk_records.specs.declared.table_columns.Column.TheVariants as rule

-- ---- any read of one table

module _ {p : Place} {sql : List ℕ} {query : ℕ → Query} {names : List (List ℕ)} (text : Asks p sql query names) where
  -- each row that is shown is one of the table
  abbrev AreOf : Row → List Row → Tables → Type 0
  AreOf params rows t = (shown : Row) → Has rows shown → (row : Row) × Has (t p) row × (shown ≡ shown_of (query 0).project params row)

  module _ {S B : Type 0} {g : Ghosts S} {Given : Reading → Type 0} (is_broken : Row → Type 0) {old new : Calls S} where
    pub all_blamed : {params : Row} {rows : Vec Row Global} → AsksText (seen_in g old) (seen_in g new) sql params (Ok rows) → (out : Result B Fault)
        → IfErr out (λ fault. IfRowsBroken fault (HasBroken is_broken rows.items)) → ((reading : Reading) (row : Row) → Has (reading.tables p) row
        → is_broken (shown_of (query 0).project params row) → Given reading → HasUnreadable reading) → BlamesGiven g Given old new out
    all_blamed {params} {rows} h out is blames = blamed
        (all_tell (known text) {Answer = λ t u. AreOf params rows.items t} {Read = λ u. Unit {0}}
        (λ db t holds shows u is. from_table text params db t holds rows.items shows) h (Ok (tt {0})) tt) out
        (broken_so {Spoiled = HasBroken is_broken rows.items}
        (λ it reading of given. let its = of it.row it.among in blames reading its.0 its.1 (subst is_broken its.2 it.broken) given) out is)

-- ---- two rows of one key

module _ {p : Place} {sql : List ℕ} {query : ℕ → Query} {names : List (List ℕ)} (text : Asks p sql query names) {params : Row}
    (whole : (tree : ℕ) (xs : List Row) → page (over query tree) params xs ≡ xs) {passing : Row → Bool}
    (judged : (db : Database) (t : Tables) → HoldsTables db t → (row : Row) → Has (t p) row → passes (query 0).filter params row ≡ passing row) where
  pub two_blamed : {S B : Type 0} {g : Ghosts S} {Given : Reading → Type 0} {old new : Calls S}
      → AsksFew (seen_in g old) (seen_in g new) sql params 1 (Ok None)
      → ((reading : Reading) → HasTwo (reading.tables p) passing → Given reading → HasUnreadable reading) → BlamesGiven g Given {A = B} old new (Err Broken)
  two_blamed h blames =
      let many = many_asks h in
      blamed (all_tell (known text) {Answer = λ t u. HasTwo (t p) passing} {Read = λ u. Unit {0}}
      (λ db t holds shows u is. omega (arith, many.2, counted db t holds many.0.items shows)) many.1 (Ok (tt {0})) tt) (Err Broken) blames
    where
      counted : (db : Database) (t : Tables) (holds : HoldsTables db t) (shown : List Row) → Shows (known text db t holds).command db params shown
          → length shown ≡ length (filter passing (t p))
      counted db t holds shown shows = count_shown _ _ _ _ _ _ params db.trees (t p) (holds.rows p) (whole (holds.spot p).tree) passing (judged db t holds)
          shown (answer_of text holds shows)

-- ---- rows of tables that were judged

-- an action that can't be read has a history that is too long
pub long_action : (row : Row) (number : ℕ) (a : StoredAction) → IsAction row number a → (c : Column)
    → broken_stored_action_column (columns_of_stored_action row)
    ≡ Some c
    → is_too_long (columns_of_stored_action row) ≡ true
long_action row number a is c broken =
    let told : first_broken ((not (is_wide (Int (pos a.entries))), rule.ActionEntries) ∷ []) ≡ Some c =
    rw (is.shows.rollout, is.place, is.word, is.shows.canceling, is.shows.outcome, is.notes, is.shows.entries, small_or_wide a.entries) at broken in
    rw (is.number_is, is.shows.rollout, is.place, is.word, is.shows.canceling, is.shows.outcome, is.notes, is.shows.entries, small_or_wide a.entries)
    (go (is_wide (Int (pos a.entries))) told)
  where
    go : (wide : Bool) → first_broken ((not wide, rule.ActionEntries) ∷ []) ≡ Some c
        → (wide && are_entries (first_broken ((not wide, rule.ActionEntries) ∷ []))) ≡ true
    go true h = refl
    go false h = absurd cc

-- an offer can be read
pub no_offer : (row : Row) (id : List ℕ) (o : Offer) → IsOffer row id o → (c : Column) → broken_offer_column (columns_of_offer row) ≡ Some c → ⊥
no_offer row id o is c broken = let told : None ≡ Some c = rw (is.shows.action, is.shows.canceling) at broken in absurd cc

-- ---- numbers

-- more rows than can be counted
many : (n size : ℕ) → (n ≡ size → n < 2 ^ 32 → ⊥) → n ≡ min size 9223372036854775807 → 2 ^ 32 ≤ size
many n size not_small is = grind (arith, nat_tests)

-- a value that is no number of 32 bits is no rollout's number
no_number : (v : Value) → ((n : ℕ) → n < 2 ^ 32 → v ≡ Int (pos n) → ⊥) → number_in v ≡ None
no_number v unread = grind (arith, and_parts, number_in_good, nat_tests, number_in_is)

module _ {S : Type 0} {g : Ghosts S} {old new : Calls S} where
  pub place_count_blamed : {r : ℕ} {rows : Vec Row Global} → AsksText (seen_in g old) (seen_in g new) LIST_PLACES.now (Int (pos r) ∷ []) (Ok rows)
      → (out : Result ℕ Fault) → IfErr out (λ fault. (fault ≡ Broken) × (2 ^ 32 ≤ length rows.items)) → BlamesGiven g (ReadsOf Members) old new out
  place_count_blamed {r} {rows} h out large =
      blamed (all_tell (known list_places_is) {Answer = λ t u. length rows.items ≤ length (t Members)} {Read = λ u. Unit {0}}
      (λ db t holds shows u is. counts db t holds shows) h (Ok (tt {0})) tt) out
      (broken_so (λ many reading fewer given. unread reading (many_rows Members (omega (arith, many, fewer))) given) out (told_alone _ out large))
    where
      counts : (db : Database) (t : Tables) (holds : HoldsTables db t) → Shows (known list_places_is db t holds).command db (Int (pos r) ∷ []) rows.items
          → length rows.items ≤ length (t Members)
      counts db t holds shows =
          let of = count_shown (holds.spot Members).tree of_rollout placed_columns (places_query 0).order (lit (Int (negsuc 0))) (lit (Int (pos 0)))
          (Int (pos r) ∷ []) db.trees (t Members) (holds.rows Members) (λ xs. refl) (passes of_rollout (Int (pos r) ∷ [])) (λ row among. refl) rows.items
          (shows.answer Null) in
          omega (
            arith,
            of,
            length-filter_both (passes of_rollout (Int (pos r) ∷ [])) (λ row. not (passes of_rollout (Int (pos r) ∷ []) row)) (λ row. refl)
                (t Members),
          )

  pub count_blamed : {p : Place} {sql : List ℕ} (text : Counts p sql) {row : Option Row} → TakesFirst (seen_in g old) (seen_in g new) sql [] (Ok row)
      → (out : Result ℕ Fault) → IfErr out (λ fault. IfRowsBroken fault ((row ≡ None) ⊎ HasNoNumber row)) → BlamesGiven g (ReadsOf p) old new out
  count_blamed {p} text {row} h out broken =
      blamed (first_tells (tables_know (counted_at text)) {Answer = λ t u. IsCounted t} {Read = λ u. Unit {0}} (λ db t holds at given. tt)
      (λ db t holds shows u is. row_of_count text db t holds row shows) h (Ok (tt {0})) tt) out
      (broken_so (λ none reading is given. unread reading (many_rows p (large reading.tables none is)) given) out broken)
    where
      IsCounted : Tables → Type 0
      IsCounted t = row ≡ Some (Int (pos (min (length (t p)) 9223372036854775807)) ∷ [])

      large : (t : Tables) → (row ≡ None) ⊎ HasNoNumber row → IsCounted t → 2 ^ 32 ≤ length (t p)
      large t (inl none) is = absurd cc
      large t (inr none) is =
          many (min (length (t p)) 9223372036854775807) (length (t p))
          (λ same few. (subst HasNoNumber is none) (omega arith) (min (length (t p)) 9223372036854775807) few refl) refl

-- the row of the last rollout
pub last_blamed : {old new : State} {row : Option Row} → TakesFirst old new LAST_ROLLOUT.now [] (Ok row) → (out : Result ℕ Fault)
    → IfErr out (λ fault. IfRowsBroken fault (HasNoNumber row)) → TellsOnly HoldsReading (ReadsOf Rollouts) HasUnreadable old new out
last_blamed {row = row} h out broken =
    tells_by (found_reading (first_tells (known last_rollout_is) {Answer = λ t u. IsOfRollout t row} {Read = λ u. Unit {0}} (λ db t holds at given. tt)
    (λ db t holds shows u is. rollout_of db t holds row shows) h (Ok (tt {0})) tt)) out
    (broken_so (λ none reading its given. unreadable reading row none its given) out broken)
  where
    IsOfRollout : Tables → Option Row → Type 0
    IsOfRollout t None = Unit {0}
    IsOfRollout t (Some shown) = (its : Row) × Has (t Rollouts) its × (shown ≡ column its 0 ∷ [])

    rollout_of : (db : Database) (t : Tables) (holds : HoldsTables db t) (row : Option Row)
        → ShowsFirst ((known last_rollout_is) db t holds).command db [] row → IsOfRollout t row
    rollout_of db t holds None shows = tt
    rollout_of db t holds (Some shown) shows = from_table last_rollout_is [] db t holds (shown ∷ shows.0) shows.1 shown (inl refl)

    unreadable : (reading : Reading) (row : Option Row) → HasNoNumber row → IsOfRollout reading.tables row → ReadsOf Rollouts reading → HasUnreadable reading
    unreadable reading None none its given = absurd none
    unreadable reading (Some shown) none its given =
        unread reading (large_number its.0 its.1 (no_number (column its.0 0) (subst (λ x. HasNoNumber (Some x)) its.2 none (omega arith)))) given
