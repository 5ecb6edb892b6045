-- The statements on attributes of targets, in records.
use Rattle.desk_records.proofs.Common.{map-map, arith, ◌≡◌, ◌∷◌, ◌&&◌, ℕ, List, [], true, map, filter, flat_map, Option, Some, None, refl, sym, ap, subst, ◌∙◌}
use Rattle.desk_records.proofs.Common.{Null, Text, Row, plain, agree, cast_all, col, Insert, Values, Database, State, Writes, IsHeldBy, Rise, on_content}
use Rattle.desk_records.proofs.Common.{keys_apart, changes_key, reads_risen, passes, shown_of, updates, same_bytes, Bytes, Attribute, Records, Target}
use Rattle.desk_records.proofs.Common.{target_of, TargetAttributes, false, target_attribute_table, attribute_rows, in_byte_order, ids_of, keys_of, is_sorted}
use Rattle.desk_records.proofs.Common.{attributes_of, attributed, with_changed, AddsAttribute, SetsAttribute, HoldsRecords, ledger_of, and-true, Shows}
use Rattle.sqlite_value.specs.Keys.{first_key}
use Rattle.sqlite.specs.Effect.{Reads as Shows}
use Rattle.desk_records.proofs.HoldsAfter.{ChangesOnly, holds_after, puts, records_differ}
use Rattle.desk_records.proofs.TargetMeaning.{of_target, attribute_terms, of_attribute, new_value}
use Rattle.desk_records.proofs.Comparisons.{words_equal}
use Rattle.desk_records.proofs.ByteOrder.{sorted_from}
use Rattle.desk_records.proofs.Targets.{keys_rise, changed_map, changed_rows, changed_sorted, rows_of, its_rows}
use Rattle.desk_records.proofs.Attributes.{in_order_with_attribute, attribute_row, attributes_sorted, attribute_is_more, attribute_is_set}
use Rattle.desk_records.proofs.TargetRecords.{its_own, is_of, names_it, ids_sorted, each_sorted}
use Rattle.desk_records.proofs.MeaningWords.{changes, in_order, no_limit, no_offset, selects}

-- ---- what is read

abbrev pub shown_attributes : List Attribute → List Row
shown_attributes attributes = map (λ (a : Attribute). Text a.key ∷ Text a.value ∷ []) attributes

module _ (id : Bytes) where
  attributes_shown : (found : Option Target) → map (on_content (shown_of (col 1 2 ∷ col 1 3 ∷ []) (Text id ∷ []))) (rows_of attribute_rows found)
      ≡ shown_attributes (attributes_of found)
  attributes_shown found = grind (arith, map-map)

  found_rise : (found : Option Target) → in_byte_order (keys_of (attributes_of found)) ≡ true → Rise 1 (rows_of attribute_rows found)
  found_rise None ordered = tt
  found_rise (Some t) ordered = keys_rise (λ (a : Attribute). a.key) (attribute_row t.id) 1 (λ a b. refl) t.attributes ordered

module _ (db : Database) (now : Records) (holds : HoldsRecords db now) (names : List (List ℕ)) where
  -- the attributes of a target, by their keys in byte order
  pub lists_target_attributes : (id : Bytes) (rows : List Row)
      → Shows (selects (in_order 2 false of_target (col 1 2 ∷ col 1 3 ∷ []) no_limit no_offset (holds.spot TargetAttributes).tree) names) db (Text id ∷ []) rows
      → rows ≡ shown_attributes (attributes_of (target_of now id))
  lists_target_attributes id rows shows =
      let spot = holds.spot TargetAttributes in
      let params = Text id ∷ [] in
      let wanted = flat_map attribute_rows now.targets in
      let found = target_of now id in
      let its : filter (is_of id) wanted ≡ rows_of attribute_rows found =
      its_rows attribute_rows (is_of id) id (λ t. its_own attribute_row id (λ i a. names_it id i (Text a.key ∷ Text a.value ∷ []) []) t.id (same_bytes t.id id)
      refl t.attributes) now.targets
      (sorted_from (ids_of now.targets) (ids_sorted db now holds)) in
      let rise = subst (Rise 1) (sym its) (found_rise id found (attributes_sorted id now.targets (each_sorted db now holds))) in
      reads_risen spot.tree of_target params (λ i x. refl) 1 (col 1 2 ∷ col 1 3 ∷ []) (λ i x. refl) no_limit no_offset db.trees wanted
      (holds.rows TargetAttributes) rise rows (shows.answer Null)
      ∙ ap (map (on_content (shown_of (col 1 2 ∷ col 1 3 ∷ []) params))) its ∙ attributes_shown id found

-- ---- what is written

-- a change of attributes alone leaves the other tables
only_attributes : (now : Records) (id : Bytes) (a : Attribute) → ChangesOnly TargetAttributes (ledger_of now) (ledger_of (with_changed now id (attributed a)))
only_attributes now id a = grind (arith, records_differ, changed_map, changed_rows)

keeps_sorted : (a : Attribute) (t : Target) → is_sorted t ≡ true → is_sorted (attributed a t) ≡ true
keeps_sorted a t sorted = grind (arith, in_order_with_attribute a t.attributes)

pub adds_attribute : (id : Bytes) (a : Attribute) (old new : State) (text : List ℕ) (count : ℕ) (now next : Records) (holds : HoldsRecords old.now now)
    → AddsAttribute id a now next
    → (done : Writes old new None (Insert (holds.spot TargetAttributes).at (Values attribute_terms 4)) text (attribute_row id a) count)
    → HoldsRecords new.now next
adds_attribute id a old new text count now next holds change done =
    subst (HoldsRecords new.now) (sym change.next_is)
    (puts TargetAttributes (ledger_of now) (ledger_of (with_changed now id (attributed a))) (only_attributes now id a)
    (changed_sorted id (attributed a) (λ t. refl) (keeps_sorted a) now.targets holds.sorted) attribute_terms 4 holds done (λ tree. refl) (attribute_row id a)
    (attribute_row id a) (λ tree. refl) (λ tree. refl) refl refl
    (attribute_is_more id a now.targets (sorted_from (ids_of now.targets) (ids_sorted old.now now holds)) change.is_there change.is_new))

both_fixed : (params r : Row) → passes of_attribute params r ≡ true → agree plain (1 ∷ 2 ∷ []) r (0 ∷ 1 ∷ []) params ≡ true
unfolding first_key
both_fixed params r h = h

names_attribute : (id : Bytes) (a : Attribute) (i : Bytes) (b : Attribute) → on_content (passes of_attribute (attribute_row id a)) (attribute_row i b)
    ≡ (same_bytes i id && same_bytes b.key a.key)
names_attribute id a i b = rw (words_equal i id, words_equal b.key a.key) (ap (λ k. same_bytes i id && k) (and-true (same_bytes b.key a.key)))

pub sets_attribute : (id : Bytes) (a : Attribute) (old new : State) (text : List ℕ) (count : ℕ) (now next : Records) (holds : HoldsRecords old.now now)
    → SetsAttribute id a now next → (done : Writes old new None (changes (holds.spot TargetAttributes) of_attribute new_value) text (attribute_row id a) count)
    → HoldsRecords new.now next
sets_attribute id a old new text count now next holds change done =
    let spot = holds.spot TargetAttributes in
    let params = attribute_row id a in
    let table = target_attribute_table spot.tree in
    let made = updates old.now.schema spot.at table _ (holds.stands TargetAttributes).got
    (holds.stands TargetAttributes).keyless old new refl text params count done in
    let set = changes_key old.now.schema table (1 ∷ 2 ∷ []) of_attribute params (λ i x. refl) (0 ∷ 1 ∷ []) (both_fixed params) new_value (λ i x. refl) old.now
    new.now (flat_map attribute_rows now.targets)
    (keys_apart old.now.schema old.now.trees spot.at table 0 (1 ∷ 2 ∷ []) holds.sound (holds.stands TargetAttributes).got refl refl)
    (holds.rows TargetAttributes) made in
    let is = attribute_is_set id a (on_content (passes of_attribute params)) (λ x. cast_all table.columns (on_content (shown_of new_value params) x))
    (names_attribute id a) (λ i b. refl) now.targets
    (sorted_from (ids_of now.targets) (ids_sorted old.now now holds)) (each_sorted old.now now holds) change.is_there in
    subst (HoldsRecords new.now) (sym change.next_is)
    (holds_after TargetAttributes now (with_changed now id (attributed a)) old.now new.now holds
    (record { schema = made.schema_is; sound = done.sound; others = made.applies.tables }) (subst (IsHeldBy (new.now.trees spot.tree)) is set)
    (only_attributes now id a)
    (changed_sorted id (attributed a) (λ t. refl) (keeps_sorted a) now.targets holds.sorted))
