-- The statements on targets and their tags, in records.
use Rattle.desk_records.proofs.Common.{arith, ◌≡◌, ◌∷◌, ◌&&◌, ℕ, min, pos, List, [], Bool, true, cond, not, map, filter, flat_map, length}
use Rattle.desk_records.proofs.Common.{slice_get, Option, Some, None, option_map, refl, sym, ap, subst, ◌∙◌, list_all, and_parts, length-map}
use Rattle.desk_records.proofs.Common.{IsPermutation-map, Null, Int, Text, Blob, Row, plain, agree, map-map, cast_all, col}
use Rattle.desk_records.proofs.Common.{Command, Insert, Values, Database, State, Writes, IsHeldBy, Rise, ShowsFirst, on_content, changed, keys_apart, reads_key}
use Rattle.desk_records.proofs.Common.{changes_key, drops, reads_risen, simple, passes, shown_of, updates, deletes, same_bytes, with_word, without_word, Bytes}
use Rattle.desk_records.proofs.Common.{TargetRow, change_target, Records, Target, tags_of, target_of, Targets, TargetTags, target_table}
use Rattle.desk_records.proofs.Common.{target_tag_table, target_row, tag_rows, in_byte_order, ids_of, is_sorted, renamed, tagged, untagged}
use Rattle.desk_records.proofs.Common.{with_target, with_changed, AddsTarget, AddsTag, HoldsRecords, ledger_of, and-true, false, Shows}
use Rattle.sqlite_value.specs.Keys.{first_key}
use Rattle.sqlite.specs.Effect.{Reads as Shows}
use Rattle.sql_calls.proofs.Counts.{count_query, count_rows, length_held}
use Rattle.desk_records.proofs.HoldsAfter.{ChangesOnly, holds_after, puts, records_differ}
use Rattle.desk_records.proofs.TargetMeaning.{of_target, target_columns, target_terms, new_values, tag_terms, of_tag}
use Rattle.desk_records.proofs.Comparisons.{words_equal}
use Rattle.desk_records.proofs.ByteOrder.{sorted_from, in_order_with, in_order_without}
use Rattle.desk_records.proofs.Targets.{has_id, first_found, changed_map, changed_rows, changed_sorted, rows_of, its_rows, put_is_more, put_rows, put_sorted}
use Rattle.desk_records.proofs.Targets.{keys_rise, tag_row, tags_sorted, tag_is_more, tag_is_less}
use Rattle.std.proofs.lemmas.List.{map-id}
use Rattle.desk_records.proofs.MeaningWords.{changes, drops_those, in_order, no_limit, no_offset, selects}

-- ---- which rows a statement names

pub first_fixed : (params r : Row) → passes of_target params r ≡ true → agree plain (1 ∷ []) r (0 ∷ []) params ≡ true
unfolding first_key
first_fixed params r h = h

abbrev pub is_of : Bytes → Row → Bool
is_of id = on_content (passes of_target (Text id ∷ []))

-- of all rows a statement may name, those whose first column is the id
pub names_it : (id other : Bytes) (more params : Row) → on_content (passes of_target (Text id ∷ params)) (Text other ∷ more) ≡ same_bytes other id
names_it id other more params = and-true _ ∙ words_equal other id

-- what the records say of all targets
pub ids_sorted : (db : Database) (now : Records) → HoldsRecords db now → in_byte_order (ids_of now.targets) ≡ true
ids_sorted db now holds = (and_parts (in_byte_order (ids_of now.targets)) (list_all is_sorted now.targets) holds.sorted).0

pub each_sorted : (db : Database) (now : Records) → HoldsRecords db now → list_all is_sorted now.targets ≡ true
each_sorted db now holds = (and_parts (in_byte_order (ids_of now.targets)) (list_all is_sorted now.targets) holds.sorted).1

-- ---- what is read

-- what is told of a target: name and digest
abbrev pub told_target : Target → Row
told_target t = Text t.name ∷ Blob t.digest ∷ []

-- what is listed of it: id and name
abbrev pub listed_row : Target → Row
listed_row t = Text t.id ∷ Text t.name ∷ []

abbrev pub shown_tags : List Bytes → List Row
shown_tags ws = map (λ (w : Bytes). Text w ∷ []) ws

pub first_row : (command : Command) (db : Database) (params : Row) (is : Option Row)
    → ((rows : List Row) → Shows command db params rows → slice_get rows 0 ≡ is) → (row : Option Row) → ShowsFirst command db params row → row ≡ is
first_row command db params is all row shown = grind arith

-- the rows of what one target has
pub its_own : {A : Type 0} (row : Bytes → A → Row) (id : Bytes) → ((i : Bytes) (a : A) → is_of id (row i a) ≡ same_bytes i id) → (i : Bytes) (b : Bool)
    → same_bytes i id ≡ b → (all : List A) → filter (is_of id) (map (row i) all) ≡ cond b (map (row i) all) []
its_own row id first i b e [] = grind arith
its_own row id first i b e (a ∷ more) = grind (arith, its_own row id first i b e more, first i a)

module _ (id : Bytes) where
  tags_shown : (found : Option Target) → map (on_content (shown_of (col 1 2 ∷ []) (Text id ∷ []))) (rows_of tag_rows found) ≡ shown_tags (tags_of found)
  tags_shown found = grind (arith, map-map)

  found_rise : (found : Option Target) → in_byte_order (tags_of found) ≡ true → Rise 1 (rows_of tag_rows found)
  found_rise None ordered = tt
  found_rise (Some t) ordered = keys_rise (λ (w : Bytes). w) (tag_row t.id) 1 (λ a b. refl) t.tags (ap in_byte_order (map-id t.tags) ∙ ordered)

module _ (db : Database) (now : Records) (holds : HoldsRecords db now) (names : List (List ℕ)) where
  -- a target by its id
  pub gets_target : (id : Bytes) (row : Option Row) → ShowsFirst (selects (simple (holds.spot Targets).tree of_target target_columns) names) db (Text id ∷ [])
      row → row ≡ option_map told_target (target_of now id)
  gets_target id row shown =
      let spot = holds.spot Targets in
      let params = Text id ∷ [] in
      let table = target_table spot.tree in
      first_row (selects (simple spot.tree of_target target_columns) names) db params _ (λ rows shows. ap (λ (l : List Row). slice_get l 0)
      (reads_key db.schema table (1 ∷ []) of_target params (λ i x. refl) (0 ∷ []) (first_fixed params) target_columns (λ i x. refl) db.trees
      (map target_row now.targets)
      (keys_apart db.schema db.trees spot.at table 0 (1 ∷ []) holds.sound (holds.stands Targets).got refl refl) (holds.rows Targets) rows (shows.answer Null))
      ∙ first_found target_row (is_of id) (on_content (shown_of target_columns params)) (has_id id)
      (λ t. names_it id t.id (Text t.name ∷ Blob t.digest ∷ []) []) now.targets) row shown

  -- how many there are
  pub counts_targets : (row : Option Row) → ShowsFirst (selects (count_query (holds.spot Targets).tree) names) db [] row
      → row ≡ Some (Int (pos (min (length now.targets) 9223372036854775807)) ∷ [])
  counts_targets row shown =
      let spot = holds.spot Targets in
      first_row (selects (count_query spot.tree) names) db [] _ (λ rows shows.
      grind (arith, count_rows spot.tree [] db.trees rows (shows.answer Null), length_held _ _ (holds.rows Targets), length-map)) row shown

  -- the tags of a target, in byte order
  pub lists_target_tags : (id : Bytes) (rows : List Row)
      → Shows (selects (in_order 2 false of_target (col 1 2 ∷ []) no_limit no_offset (holds.spot TargetTags).tree) names) db
      (Text id ∷ []) rows → rows ≡ shown_tags (tags_of (target_of now id))
  lists_target_tags id rows shows =
      let spot = holds.spot TargetTags in
      let params = Text id ∷ [] in
      let wanted = flat_map tag_rows now.targets in
      let found = target_of now id in
      let its : filter (is_of id) wanted ≡ rows_of tag_rows found =
      its_rows tag_rows (is_of id) id (λ t. its_own tag_row id (λ i w. names_it id i (Text w ∷ []) []) t.id (same_bytes t.id id) refl t.tags) now.targets
      (sorted_from (ids_of now.targets) (ids_sorted db now holds)) in
      let rise = subst (Rise 1) (sym its) (found_rise id found (tags_sorted id now.targets (each_sorted db now holds))) in
      reads_risen spot.tree of_target params (λ i x. refl) 1 (col 1 2 ∷ []) (λ i x. refl) no_limit no_offset db.trees wanted (holds.rows TargetTags) rise rows
      (shows.answer Null) ∙ grind (arith, its, tags_shown id found)

-- ---- a new target

pub adds_target : (id name digest : Bytes) (old new : State) (text : List ℕ) (count : ℕ) (now next : Records) (holds : HoldsRecords old.now now)
    → AddsTarget id name digest now next
    → (w : Writes old new None (Insert (holds.spot Targets).at (Values target_terms 4)) text (Text id ∷ Text name ∷ Blob digest ∷ []) count)
    → HoldsRecords new.now next
adds_target id name digest old new text count now next holds change w =
    let given = Text id ∷ Text name ∷ Blob digest ∷ [] in
    let row : TargetRow = record { id = id; name = name; digest = digest; tags = [] } in
    subst (HoldsRecords new.now) (sym change.next_is)
    (puts Targets (ledger_of now) (ledger_of (with_target now id name digest)) (grind (arith, records_differ, put_rows, change.is_new))
    (put_sorted row refl now.targets change.is_new holds.sorted) target_terms 4
    holds w (λ tree. refl) given given (λ tree. refl) (λ tree. refl) refl refl (IsPermutation-map target_row _ _ (put_is_more row now.targets change.is_new)))

-- ---- another name and digest

changed_targets : (p : Row → Bool) (g : Row → Row) (id : Bytes) (f : Target → Target) → ((t : Target) → p (target_row t) ≡ same_bytes t.id id)
    → ((t : Target) → g (target_row t) ≡ target_row (f t))
    → (ts : List Target) → changed p g (map target_row ts) ≡ map target_row (change_target id f ts)
changed_targets p g id f same becomes [] = refl
changed_targets p g id f same becomes (t ∷ ts) = grind (arith, changed_targets p g id f same becomes ts, same t, becomes t)

pub sets_target : (id name digest : Bytes) (old new : State) (text : List ℕ) (count : ℕ) (now : Records) (holds : HoldsRecords old.now now)
    → (w : Writes old new None (changes (holds.spot Targets) of_target new_values) text (Text id ∷ Text name ∷ Blob digest ∷ []) count)
    → HoldsRecords new.now (with_changed now id (renamed name digest))
sets_target id name digest old new text count now holds w =
    let spot = holds.spot Targets in
    let params = Text id ∷ Text name ∷ Blob digest ∷ [] in
    let table = target_table spot.tree in
    let made = updates old.now.schema spot.at table _ (holds.stands Targets).got (holds.stands Targets).keyless old new refl text params count w in
    let set = changes_key old.now.schema table (1 ∷ []) of_target params (λ i x. refl) (0 ∷ []) (first_fixed params) new_values (λ i x. refl) old.now new.now
    (map target_row now.targets)
    (keys_apart old.now.schema old.now.trees spot.at table 0 (1 ∷ []) holds.sound (holds.stands Targets).got refl refl) (holds.rows Targets) made in
    let is = changed_targets (on_content (passes of_target params)) (λ x. cast_all table.columns (on_content (shown_of new_values params) x)) id
    (renamed name digest) (λ t. names_it id t.id (Text t.name ∷ Blob t.digest ∷ []) (Text name ∷ Blob digest ∷ [])) (λ t. refl) now.targets in
    holds_after Targets now (with_changed now id (renamed name digest)) old.now new.now holds
    (record { schema = made.schema_is; sound = w.sound; others = made.applies.tables }) (subst (IsHeldBy (new.now.trees spot.tree)) is set)
    (grind (arith, records_differ, changed_rows)) (changed_sorted id (renamed name digest) (λ t. refl) (λ t sorted. sorted) now.targets holds.sorted)

-- ---- tags

-- a change of tags alone leaves the other tables
only_tags : (now : Records) (id : Bytes) (tags : List Bytes → List Bytes)
    → ChangesOnly TargetTags (ledger_of now) (ledger_of (with_changed now id (λ (it : Target). record it { tags = tags it.tags })))
only_tags now id tags = grind (arith, records_differ, changed_map, changed_rows)

tags_keep : (tags : List Bytes → List Bytes) → ((ws : List Bytes) → in_byte_order ws ≡ true → in_byte_order (tags ws) ≡ true) → (t : Target) → is_sorted t
    ≡ true → is_sorted (record t { tags = tags t.tags }) ≡ true
tags_keep tags keeps t sorted = grind (arith, keeps t.tags)

pub adds_tag : (id w : Bytes) (old new : State) (text : List ℕ) (count : ℕ) (now next : Records) (holds : HoldsRecords old.now now) → AddsTag id w now next
    → (done : Writes old new None (Insert (holds.spot TargetTags).at (Values tag_terms 3)) text (tag_row id w) count) → HoldsRecords new.now next
adds_tag id w old new text count now next holds change done =
    subst (HoldsRecords new.now) (sym change.next_is)
    (puts TargetTags (ledger_of now) (ledger_of (with_changed now id (tagged w))) (only_tags now id (with_word w))
    (changed_sorted id (tagged w) (λ t. refl) (tags_keep (with_word w) (in_order_with w)) now.targets holds.sorted) tag_terms 3 holds done (λ tree. refl)
    (tag_row id w) (tag_row id w) (λ tree. refl) (λ tree. refl) refl refl
    (tag_is_more id w now.targets (sorted_from (ids_of now.targets) (ids_sorted old.now now holds)) change.is_there change.is_new))

names_tag : (id w i v : Bytes) → not (passes of_tag (tag_row id w) (Null ∷ tag_row i v)) ≡ not (same_bytes i id && same_bytes v w)
names_tag id w i v = ap not (rw (words_equal i id, words_equal v w) (ap (λ b. same_bytes i id && b) (and-true (same_bytes v w))))

pub drops_tag : (id w : Bytes) (old new : State) (text : List ℕ) (count : ℕ) (now : Records) (holds : HoldsRecords old.now now)
    → (done : Writes old new None (drops_those (holds.spot TargetTags) of_tag) text
    (tag_row id w) count) → HoldsRecords new.now (with_changed now id (untagged w))
drops_tag id w old new text count now holds done =
    let spot = holds.spot TargetTags in
    let table = target_tag_table spot.tree in
    let made = deletes old.now.schema spot.at table _ (holds.stands TargetTags).got
    (holds.stands TargetTags).keyless old new refl text (tag_row id w) count done in
    let left = drops old.now.schema table (1 ∷ 2 ∷ []) of_tag (tag_row id w) (λ i x. refl) old.now new.now (flat_map tag_rows now.targets)
    (holds.rows TargetTags) made in
    let is = tag_is_less id w (λ x. not (passes of_tag (tag_row id w) (Null ∷ x))) (names_tag id w) now.targets in
    holds_after TargetTags now (with_changed now id (untagged w)) old.now new.now holds
    (record { schema = made.schema_is; sound = done.sound; others = made.applies.tables }) (subst (IsHeldBy (new.now.trees spot.tree)) is left)
    (only_tags now id (without_word w))
    (changed_sorted id (untagged w) (λ t. refl) (tags_keep (without_word w) (in_order_without w)) now.targets holds.sorted)
