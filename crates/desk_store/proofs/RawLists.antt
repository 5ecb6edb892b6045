-- The lists of tables with whatever rows they have.
use Rattle.desk_store.proofs.Common.{Text, inl, length, slice_get, IfSome, sym, subst, nat_tests, AsksFew, TakesFirst, few_of, ShowsFirst, Bytes, is_word}
use Rattle.desk_store.proofs.Common.{Offer, FindsOne, IsSaid, has_text_at, IsStoredActionRow, IsStoredArtifactRow, IsOfferRow, StoredArtifact, StoredAction}
use Rattle.desk_store.proofs.Common.{action_columns, offer_columns, from_shown, is_only, none_passes, IsReadAs, suc, arith, Finds, ◌≡◌, ◌≤◌, ℕ, pos, negsuc}
use Rattle.desk_store.proofs.Common.{Bool, true, false, not, List, [], ◌∷◌, Option, Some, None, Ok, Result, IfOk, option_map, Vec, vec_items, refl, is_none}
use Rattle.desk_store.proofs.Common.{is_some, option_or, Global, Value, Int, Row, column, Database, output_cmp, page, State, Has, Fault, AsksText, passes}
use Rattle.desk_store.proofs.Common.{shown_in, shown_of, GroupRecord, is_number, has_size, small_number, IsCheckedArtifactRow, IsOwnedOfferRow, is_wide}
use Rattle.desk_store.proofs.Common.{keeps_action_rules, keeps_artifact_rules, keeps_offer_rules, first_broken, number_in, AreRead}
use Rattle.desk_store.proofs.Common.{AreSaid, IsSequencedRow, broken_group_column, broken_listed_action_column, Actions, Artifacts, Feedbacks, Groups, Numbers}
use Rattle.desk_store.proofs.Common.{Place, HoldsTables, Tables, has_word, ListedAction, entry_columns, listed_columns, owned_columns, are_said, broken}
use Rattle.desk_store.proofs.Common.{rise, all_columns, is_number_in, number_in_good, number_in_is, number_is, group_columns, AreReadAs, Query, Asks}
use Rattle.desk_records.proofs.ArtifactMeaning.{told_columns}
use Rattle.desk_records.proofs.TextColumns.{text_is}
use Rattle.desk_store.specs.RawLists.{FindsFirst, SaysNumbered, SaysOfferOf, SaysStored, IsFoundInOrder, IsKeptActionRow, IsKeptGroupRow, ListsRows, SaysAction}
use Rattle.desk_store.specs.RawLists.{SaysArtifact, SaysEntry, SaysGroup, SaysOffer, any_row}
use Rattle.desk_store.proofs.ReadLemmas.{first_tells, few_asks, all_tell}
use Rattle.desk_store.proofs.Known.{over, answer_of, known}
use Rattle.desk_records.proofs.TableColumns.{IsInteger, passes_integer}
use Rattle.std.specs.List.Sorted.{IsNonDecreasingBy}
use Rattle.std.specs.Ordering.{is_lt}
use Rattle.sqlite.specs.Effect.{Reads as Shows}
use Rattle.desk_records.specs.Listings.{has_at}
use Rattle.desk_records.specs.declared.checked_rows.CheckedArtifact.{CheckedArtifact}
use Rattle.desk_records.specs.declared.checked_rows.OwnedOffer.{OwnedOffer}
use Rattle.desk_records.specs.declared.entry_row.SequencedEntry.{SequencedEntry}
use Rattle.desk_records.proofs.MeaningWords.{at_key}
use Rattle.desk_records.specs.Columns.{has_number}
use Rattle.desk_records.specs.declared.table_columns.Column.TheVariants as rule

-- ---- any read of one table

one_at_most : (rows : Vec Row Global) (answer : Result (Vec Row Global) Fault) → Ok (Some rows) ≡ few_of 1 answer → length rows.items ≤ 1
one_at_most rows answer e = grind (arith, nat_tests)

module _ {p : Place} {sql : List ℕ} {query : ℕ → Query} {names : List (List ℕ)} (text : Asks p sql query names) {params : Row}
    (whole : (tree : ℕ) (xs : List Row) → page (over query tree) params xs ≡ xs) {passing : Row → Bool}
    (judged : (db : Database) (t : Tables) → HoldsTables db t → (row : Row) → Has (t p) row → passes (query 0).filter params row ≡ passing row)
    {A : Type 0} (is : Row → A → Type 0) {says : Row → A → Type 0}
    (means_so : (row : Row) → passing row ≡ true → (a : A) → is (shown_of (query 0).project params row) a → says row a) where
  said : (db : Database) (t : Tables) (holds : HoldsTables db t) (shown : List Row) → Shows (known text db t holds).command db params shown → (found : List A)
      → AreReadAs is shown found → AreSaid (t p) passing says found
  said db t holds shown shows found read = are_said _ _ _ _ _ _ params db.trees (t p) (holds.rows p) (whole (holds.spot p).tree) passing (judged db t holds)
      shown
      (answer_of text holds shows) is says (λ row among. means_so row) found read

  -- where each row is read
  pub each_read : {old new : State} {rows : Vec Row Global} → AsksText old new sql params (Ok rows) → (out : Result (Vec A Global) Fault)
      → IfOk out (λ found. AreReadAs is rows.items found.items)
      → Finds HoldsTables (λ (t : Tables). t) old new out (λ t found. AreSaid (t p) passing says found.items)
  each_read {rows = rows} = all_tell (known text) (λ db t holds shows found read. said db t holds rows.items shows found.items read)

  -- where they are read until one breaks a rule
  pub rows_read : (keeps : Row → Bool) → ((row : Row) (a : A) → says row a → keeps (shown_of (query 0).project params row) ≡ true)
      → {old new : State} {rows : Vec Row Global} → AsksText old new sql params (Ok rows) → (out : Result (Option (Vec A Global)) Fault)
      → IfOk out (λ found. AreRead is keeps rows.items (option_map vec_items found))
      → Finds HoldsTables (λ (t : Tables). t) old new out (λ t found. ListsRows (t p) passing says (option_map vec_items found))
  rows_read keeps kept_by {rows = rows} = all_tell (known text) (λ db t holds shows found read. lists db t holds shows (option_map vec_items found) read)
    where
      lists : (db : Database) (t : Tables) (holds : HoldsTables db t) → Shows (known text db t holds).command db params rows.items
          → (found : Option (List A)) → AreRead is keeps rows.items found → ListsRows (t p) passing says found
      lists db t holds shows (Some found) read = said db t holds rows.items shows found read
      lists db t holds shows None fails = broken _ _ _ _ _ _ params db.trees (t p) (holds.rows p) (whole (holds.spot p).tree) passing (judged db t holds)
          rows.items (answer_of text holds shows) says keeps (λ row among. kept_by row) fails

  -- in the order of a number
  module _ (key : A → ℕ) (rising : (tree : ℕ) (low high : Row) (a b : A) → says low a → says high b
      → is_lt (output_cmp (over query tree) (shown_in (over query tree) params high) (shown_in (over query tree) params low)) ≡ false → key a ≤ key b) where
    in_order : (db : Database) (t : Tables) (holds : HoldsTables db t) (shown : List Row) → Shows (known text db t holds).command db params shown
        → (found : List A) → AreReadAs is shown found → IsNonDecreasingBy key found
    in_order db t holds shown shows found read = rise _ _ _ _ _ _ params db.trees (t p) (holds.rows p) (whole (holds.spot p).tree) passing (judged db t holds)
        shown (answer_of text holds shows) is says (λ row among. means_so row) found read key (rising (holds.spot p).tree)

    pub each_in_order : {old new : State} {rows : Vec Row Global} → AsksText old new sql params (Ok rows) → (out : Result (Vec A Global) Fault)
        → IfOk out (λ found. AreReadAs is rows.items found.items)
        → Finds HoldsTables (λ (t : Tables). t) old new out (λ t found. IsNonDecreasingBy key found.items)
    each_in_order {rows = rows} = all_tell (known text) (λ db t holds shows found read. in_order db t holds rows.items shows found.items read)

    pub rows_in_order : (keeps : Row → Bool) {old new : State} {rows : Vec Row Global} → AsksText old new sql params (Ok rows)
        → (out : Result (Option (Vec A Global)) Fault) → IfOk out (λ found. AreRead is keeps rows.items (option_map vec_items found))
        → Finds HoldsTables (λ (t : Tables). t) old new out (λ t found. IsFoundInOrder key (option_map vec_items found))
    rows_in_order keeps {rows = rows} = all_tell (known text) (λ db t holds shows found read. go db t holds shows (option_map vec_items found) read)
      where
        go : (db : Database) (t : Tables) (holds : HoldsTables db t) → Shows (known text db t holds).command db params rows.items → (found : Option (List A))
            → AreRead is keeps rows.items found → IsFoundInOrder key found
        go db t holds shows (Some found) read = in_order db t holds rows.items shows found read
        go db t holds shows None read = tt

  -- the only one that passes, or none does
  pub finds_one : {old new : State} {rows : Vec Row Global} → AsksFew old new sql params 1 (Ok (Some rows)) → (out : Result (Option A) Fault)
      → IfOk out (λ found. IsReadAs is found (slice_get rows.items 0))
      → Finds HoldsTables (λ (t : Tables). t) old new out (λ t found. FindsOne (t p) passing says found)
  finds_one {rows = rows} h = all_tell (known text)
      (λ db t holds shows found read. finds db t holds rows.items (one_at_most rows h.answer h.few) shows found read) (few_asks h)
    where
      finds : (db : Database) (t : Tables) (holds : HoldsTables db t) (shown : List Row) → length shown ≤ 1
          → Shows (known text db t holds).command db params shown → (found : Option A) → IsReadAs is found (slice_get shown 0)
          → FindsOne (t p) passing says found
      finds db t holds [] few shows found read = subst (FindsOne (t p) passing says) (sym read) (none_passes _ _ _ _ _ _ params db.trees (t p) (holds.rows p)
          (whole (holds.spot p).tree) passing (judged db t holds) [] (answer_of text holds shows) refl)
      finds db t holds (x ∷ []) few shows found read =
          subst (FindsOne (t p) passing says) (sym read.1) (is_only _ _ _ _ _ _ params db.trees (t p) (holds.rows p)
          (whole (holds.spot p).tree) passing (judged db t holds) (x ∷ []) (answer_of text holds shows) is says (λ row among. means_so row) x refl read.0
          read.2)
      finds db t holds (x ∷ y ∷ more) few shows found read = absurd (omega (arith, few))

  -- what the first row says, or none passes
  pub finds_first : {old new : State} {row : Option Row} {Answer : Tables → Option A → Type 0}
      → ((t : Tables) (found : Option A) → FindsFirst (t p) passing says found → Answer t found)
      → TakesFirst old new sql params (Ok row) → (out : Result (Option A) Fault) → IfOk out (λ found. IsReadAs is found row)
      → Finds HoldsTables (λ (t : Tables). t) old new out Answer
  finds_first {row = row} so = first_tells (known text) (λ db t holds at given. tt)
      (λ db t holds shown found read. so t found (says_first db t holds row shown found read))
    where
      says_first : (db : Database) (t : Tables) (holds : HoldsTables db t) (row : Option Row) → ShowsFirst (known text db t holds).command db params row
          → (found : Option A) → IsReadAs is found row → FindsFirst (t p) passing says found
      says_first db t holds None shows found read = subst (FindsFirst (t p) passing says) (sym read) (none_passes _ _ _ _ _ _ params db.trees (t p)
          (holds.rows p) (whole (holds.spot p).tree) passing (judged db t holds) [] (answer_of text holds shows) refl)
      says_first db t holds (Some x) shows found read =
          let from = from_shown _ _ _ _ _ _ params db.trees (t p) (holds.rows p) (whole (holds.spot p).tree) passing (judged db t holds) (x ∷ shows.0)
          (answer_of text holds shows.1) x (inl refl) in
          subst (FindsFirst (t p) passing says) (sym read.1)
          (record { row = from.0; among = from.1; passes = from.2; is = means_so from.0 from.2 read.0 (subst (λ y. is y read.0) from.3 read.2) })

pub said_if_found : {A : Type 0} (rows : List Row) (test : Row → Bool) (says : Row → A → Type 0) (found : Option A) → FindsFirst rows test says found
    → IfSome found (IsSaid rows test says)
said_if_found rows test says found first = grind arith

-- a column of whole numbers that is asked for is judged by the number in it
abbrev Judges : Place → ℕ → ℕ → Row → Type 0
Judges p k n more = (db : Database) (t : Tables) → HoldsTables db t → (row : Row) → Has (t p) row
    → passes (at_key (suc k) 0 ∷ []) (Int (pos n) ∷ more) row ≡ has_at (suc k) n row

judges : {p : Place} {k : ℕ} → IsInteger p k → (n : ℕ) (more : Row) → Judges p k n more
judges it n more db t holds row among = passes_integer db t holds _ row among _ it n more

-- ---- artifacts

good_in : (v : Value) (n : ℕ) → number_in v ≡ Some n → has_number v ≡ true
good_in v n h = rw (number_in_is v n h) (number_in_good v n h)

pub says_artifact : (row : Row) → any_row row ≡ true → (a : CheckedArtifact) → IsCheckedArtifactRow (shown_of all_columns [] row) a → SaysArtifact row a
says_artifact row any a is = grind (arith, number_is, is_number_in)

pub kept_artifact : (row : Row) (a : CheckedArtifact) → SaysArtifact row a → keeps_artifact_rules (shown_of all_columns [] row) ≡ true
kept_artifact row a says = rw (says.kept, good_in (column row 0) a.number says.number_is) refl

pub judges_artifact : (m : ℕ) → Judges Artifacts 1 m []
judges_artifact m = judges (record { c = _; there = refl; kind_is = refl; strict = refl; filled = refl; apart = refl }) m []

-- ---- offers

pub says_offer : (row : Row) → any_row row ≡ true → (o : OwnedOffer) → IsOwnedOfferRow (shown_of owned_columns [] row) o → SaysOffer row o
says_offer row any o is = record { id_is = is.id; word = is.word; shows = is.offer }

pub kept_offer : (row : Row) (o : OwnedOffer) → SaysOffer row o → keeps_offer_rules (shown_of owned_columns [] row) ≡ true
kept_offer row o says = rw (says.shows.action, says.shows.canceling, says.word) refl

-- ---- groups

module _ (r : ℕ) where
  pub judges_group : Judges Groups 0 r []
  judges_group = judges (record { c = _; there = refl; kind_is = refl; strict = refl; filled = refl; apart = refl }) r []

  pub says_group : is_number r ≡ true → (row : Row) → has_at 1 r row ≡ true → (g : GroupRecord)
      → IsKeptGroupRow (shown_of group_columns (Int (pos r) ∷ []) row) g → SaysGroup r row g
  says_group good row of g is = record { rollout_is = rw (number_is (column row 1) r of) (is_number_in r good); shows = is.group; kept = is.kept }

  pub kept_group : (row : Row) (g : GroupRecord) → SaysGroup r row g → is_none (broken_group_column (shown_of group_columns (Int (pos r) ∷ []) row)) ≡ true
  kept_group row g says = rw says.kept refl

-- ---- actions and their histories

-- the parameters that ask for all
abbrev pub all_of : ℕ → Row
all_of n = Int (pos n) ∷ Int (negsuc 0) ∷ Int (pos 0) ∷ []

-- where no column of an action breaks its rule, place, id and notes keep theirs
three_kept : (number rollout place word canceling outcome notes entries : Bool) → option_or (first_broken ((number, rule.ActionNumber) ∷ []))
    (first_broken ((rollout, rule.ActionRollout) ∷ (place, rule.ActionPlace) ∷ (word, rule.TargetId) ∷ (canceling, rule.ActionCanceling)
    ∷ (outcome, rule.ActionOutcome) ∷ (notes, rule.ActionNotes) ∷ (entries, rule.ActionEntries) ∷ [])) ≡ None
    → (place ≡ true) × (word ≡ true) × (notes ≡ true)
three_kept number rollout place word canceling outcome notes entries h = grind arith

rules_kept : (row : Row) → broken_listed_action_column row ≡ None
    → (has_size (column row 1) ≡ true) × (has_word (column row 2) ≡ true) × (has_size (column row 5) ≡ true)
rules_kept row h = grind (arith, three_kept, is_some, column)

-- a count is small, or too large to be read
pub small_or_wide : (n : ℕ) → is_some (small_number (Int (pos n))) ≡ not (is_wide (Int (pos n)))
small_or_wide n = grind (arith, is_some)

module _ (n : ℕ) where
  pub judges_action : Judges Actions 1 n (Int (negsuc 0) ∷ Int (pos 0) ∷ [])
  judges_action = judges (record { c = _; there = refl; kind_is = refl; strict = refl; filled = refl; apart = refl }) n (Int (negsuc 0) ∷ Int (pos 0) ∷ [])

  pub says_action : (row : Row) → has_at 2 n row ≡ true → (a : ListedAction) → IsKeptActionRow (shown_of listed_columns (all_of n) row) a → SaysAction row a
  says_action row of a is = grind (arith, rules_kept, number_is)

  pub kept_action : (row : Row) (a : ListedAction) → SaysAction row a → keeps_action_rules (shown_of listed_columns (all_of n) row) ≡ true
  kept_action row a says = grind (arith, small_or_wide, is_none)

  pub judges_entry : Judges Feedbacks 0 n (Int (negsuc 0) ∷ Int (pos 0) ∷ [])
  judges_entry = judges (record { c = _; there = refl; kind_is = refl; strict = refl; filled = refl; apart = refl }) n (Int (negsuc 0) ∷ Int (pos 0) ∷ [])

  pub says_entry : (row : Row) → has_at 1 n row ≡ true → (e : SequencedEntry) → IsSequencedRow (shown_of entry_columns (all_of n) row) e → SaysEntry row e
  says_entry row of e is = record { sequence_is = is.sequence; shows = is.entry }

  -- ---- the numbers of an action

  pub judges_number : Judges Numbers 0 n []
  judges_number = judges (record { c = _; there = refl; kind_is = refl; strict = refl; filled = refl; apart = refl }) n []

-- ---- what the row of a number says, and that of an id

pub says_stored : (params row : Row) (a : StoredArtifact) → IsStoredArtifactRow (shown_of told_columns params row) a → SaysStored row a
says_stored params row a is = record { module_number = is.module_number; filename = is.filename; size = is.size; digest = is.digest }

pub says_numbered : (params row : Row) (a : StoredAction) → IsStoredActionRow (shown_of action_columns params row) a → SaysNumbered row a
says_numbered params row a is = grind arith

pub says_offer_of : (id : Bytes) → is_word id ≡ true → (row : Row) → has_text_at 1 id row ≡ true → (o : Offer)
    → IsOfferRow (shown_of offer_columns (Text id ∷ []) row) o → SaysOfferOf id row o
says_offer_of id word row of o is = grind (arith, text_is, column)
