-- The statements on what many targets have, in records: a row for each tag of each, and one for each attribute.
use Rattle.desk_records.proofs.Common.{Less, Equal, arith, nat_cmp, nat_tests, ◌≡◌, ◌∷◌, ◌++◌, ◌&&◌, ℕ, Bool, cond, true, List, [], map, filter, flat_map}
use Rattle.desk_records.proofs.Common.{refl, sym, ap, ap₂, ◌∙◌, list_all, and_parts, AllByRecursion, filter-append, map-append, map-map, and-true, Null, Text}
use Rattle.desk_records.proofs.Common.{value_cmp, value_cmp-Text, Row, Database, Query, Term, Output, Binary, by, simple, col, false, output_cmp, held_seen}
use Rattle.desk_records.proofs.Common.{all_of, filter_all, on_content, passes, same_bytes, shown_in}
use Rattle.desk_records.proofs.Common.{shown_of, bytes_below, Attribute, Bytes, Records, Target, TargetAttributes, TargetTags, HoldsRecords, IsHeldBy}
use Rattle.desk_records.proofs.Common.{ids_of, in_byte_order, is_sorted}
use Rattle.sqlite.specs.Effect.{Reads as Shows}
use Rattle.sqlite_keyed.proofs.ListLemmas.{all-append, ascending-append, ascending-filter, ascending-map}
use Rattle.sqlite_trees.specs.Tree.{IsAscending}
use Rattle.std.specs.Cmp.Lexicographic.{slice_cmp}
use Rattle.std.proofs.Common.{map-id}
use Rattle.sql_calls.proofs.KeyedRows.{IsBlind}
use Rattle.sql_calls.proofs.Selects.{rises_to}
use Rattle.desk_records.proofs.WrittenRows.{shown_owned_attribute, shown_owned_tag}
use Rattle.desk_records.specs.TargetRow.{owned_attributes, owned_tags}
use Rattle.desk_records.specs.declared.target_row.OwnedTag.{OwnedTag}
use Rattle.desk_records.specs.Targets.{is_between, targets_between}
use Rattle.desk_records.proofs.MeaningWords.{at_key, no_limit, no_offset, selects}
use Rattle.desk_records.proofs.ByteOrder.{below_rises}
use Rattle.desk_records.proofs.Comparisons.{words_at_least, words_at_most, words_equal}
use Rattle.desk_records.proofs.TargetMeaning.{attributes_between, between_ids, owned_attribute_columns, owned_tag_columns, tag_between, tags_between}
use Rattle.desk_records.proofs.TargetRecords.{each_sorted, ids_sorted}

-- the ids, and what else a statement is given
abbrev given : Bytes → Bytes → Row → Row
given first last more = Text first ∷ Text last ∷ more

itself : (a : Bytes) → value_cmp (Text a) (Text a) ≡ Equal
itself a = value_cmp-Text a a ∙ go a
  where
    go : (a : Bytes) → slice_cmp nat_cmp a a ≡ Equal
    go [] = refl
    go (x ∷ xs) = grind (arith, go xs, nat_tests)

-- What each target has of a kind, by keys of their own: a row of the target's id, the key and the rest. A statement asks for those of the
-- targets between two ids that pass what else it tests.
module _ {X O : Type 0} (key : X → Bytes) (rest : X → Row) (has : Target → List X) (own : Bytes → X → O) (shown : O → Row) (columns : List Term) where
  abbrev row : Bytes → X → Row
  row i x = Text i ∷ Text (key x) ∷ rest x

  abbrev rows_of : Target → List Row
  rows_of t = map (row t.id) (has t)

  abbrev owned_of : Target → List O
  owned_of t = map (own t.id) (has t)

  module _ (first last : Bytes) (more : Row) (also : List Term) where
    abbrev params : Row
    params = given first last more

    abbrev test : List Term
    test = between_ids ++ also

    abbrev asked : ℕ → Query
    asked tree = by (simple tree test columns)
        ((col 1 1, record { descending = false; collation = Binary }) ∷ (col 1 2, record { descending = false; collation = Binary }) ∷ []) no_limit no_offset

    -- ---- in which order

    -- the query lists one row before the other
    abbrev Before : Row → Row → Type 0
    Before x y = output_cmp (asked 0) (on_content (shown_in (asked 0) params) x) (on_content (shown_in (asked 0) params) y) ≡ Less

    of_one : (i : Bytes) (x : X) (ys : List X) → list_all (bytes_below (key x)) (map key ys) ≡ true → AllByRecursion (Before (row i x)) (map (row i) ys)
    of_one i x [] below = tt
    of_one i x (y ∷ ys) below =
        let both = and_parts (bytes_below (key x) (key y)) _ below in (rw (itself i, below_rises (key x) (key y) both.0) refl, of_one i x ys both.1)

    of_next : (i : Bytes) (x : X) (j : Bytes) (ys : List X) → bytes_below i j ≡ true → AllByRecursion (Before (row i x)) (map (row j) ys)
    of_next i x j [] below = tt
    of_next i x j (y ∷ ys) below = (rw (below_rises i j below) refl, of_next i x j ys below)

    of_later : (i : Bytes) (x : X) (ts : List Target) → list_all (bytes_below i) (ids_of ts) ≡ true → AllByRecursion (Before (row i x)) (flat_map rows_of ts)
    of_later i x [] below = tt
    of_later i x (t ∷ ts) below =
        let both = and_parts (bytes_below i t.id) _ below in
        all-append (Before (row i x)) (rows_of t) (flat_map rows_of ts) (of_next i x t.id (has t) both.0) (of_later i x ts both.1)

    each_before : (i : Bytes) (xs : List X) (ts : List Target) → list_all (bytes_below i) (ids_of ts) ≡ true
        → AllByRecursion (λ r. AllByRecursion (Before r) (flat_map rows_of ts)) (map (row i) xs)
    each_before i [] ts below = tt
    each_before i (x ∷ xs) ts below = (of_later i x ts below, each_before i xs ts below)

    own_rise : (i : Bytes) (xs : List X) → in_byte_order (map key xs) ≡ true → IsAscending Before (map (row i) xs)
    own_rise i [] ordered = tt
    own_rise i (x ∷ xs) ordered =
        let both = and_parts (list_all (bytes_below (key x)) (map key xs)) _ ordered in (of_one i x xs both.0, own_rise i xs both.1)

    all_rise : ((t : Target) → is_sorted t ≡ true → in_byte_order (map key (has t)) ≡ true) → (ts : List Target) → in_byte_order (ids_of ts) ≡ true
        → list_all is_sorted ts ≡ true → IsAscending Before (flat_map rows_of ts)
    all_rise sorts [] ids each = tt
    all_rise sorts (t ∷ ts) ids each =
        let apart = and_parts (list_all (bytes_below t.id) (ids_of ts)) _ ids in
        let both = and_parts (is_sorted t) _ each in
        ascending-append Before (rows_of t) (flat_map rows_of ts) (own_rise t.id (has t) (sorts t both.0)) (all_rise sorts ts apart.1 both.1)
        (each_before t.id (has t) ts apart.0)

    module _ (wanted : O → Bool) (tested : (i : Bytes) (x : X) → on_content (passes also params) (row i x) ≡ wanted (own i x)) where
      -- ---- which rows it names

      abbrev is_within : Row → Bool
      is_within = on_content (passes test params)

      abbrev wanted_rows : Target → List Row
      wanted_rows t = map (row t.id) (filter (λ x. wanted (own t.id x)) (has t))

      names_row : (t : Target) (x : X) → is_within (row t.id x) ≡ is_between first last t && wanted (own t.id x)
      names_row t x = rw (words_at_least t.id first, words_at_most t.id last, tested t.id x) grind arith

      its_own : (t : Target) (b : Bool) → is_between first last t ≡ b → (xs : List X)
          → filter is_within (map (row t.id) xs) ≡ cond b (map (row t.id) (filter (λ x. wanted (own t.id x)) xs)) []
      its_own t b e [] = grind arith
      its_own t b e (x ∷ xs) = grind (arith, its_own t b e xs, names_row t x)

      rows_between : (ts : List Target) → filter is_within (flat_map rows_of ts) ≡ flat_map wanted_rows (filter (is_between first last) ts)
      rows_between [] = refl
      rows_between (t ∷ ts) =
          grind (arith, filter-append is_within (rows_of t) (flat_map rows_of ts), its_own t (is_between first last t) refl (has t), rows_between ts)

      -- ---- what it shows of them

      module _ (shows : (i : Bytes) (x : X) → on_content (shown_of columns params) (row i x) ≡ shown (own i x)) where
        its_shown : (i : Bytes) (xs : List X)
            → map (on_content (shown_of columns params)) (map (row i) (filter (λ x. wanted (own i x)) xs)) ≡ map shown (filter wanted (map (own i) xs))
        its_shown i [] = refl
        its_shown i (x ∷ xs) = grind (arith, its_shown i xs, shows i x)

        all_shown : (ts : List Target) → map (on_content (shown_of columns params)) (flat_map wanted_rows ts)
            ≡ map shown (filter wanted (flat_map owned_of ts))
        all_shown [] = refl
        all_shown (t ∷ ts) =
            map-append (on_content (shown_of columns params)) (wanted_rows t) (flat_map wanted_rows ts) ∙ ap₂ ◌++◌ (its_shown t.id (has t)) (all_shown ts)
            ∙ sym (map-append shown (filter wanted (owned_of t)) (filter wanted (flat_map owned_of ts)))
            ∙ ap (map shown) (sym (filter-append wanted (owned_of t) (flat_map owned_of ts)))

        module _ (db : Database) (now : Records) (holds : HoldsRecords db now) (names : List (List ℕ)) (tree : ℕ) where
          lists_owned : IsBlind (shown_in (asked tree) params) → ((t : Target) → is_sorted t ≡ true → in_byte_order (map key (has t)) ≡ true)
              → IsHeldBy (db.trees tree) (flat_map rows_of now.targets) → IsBlind (passes test params) → (rows : List Row)
              → Shows (selects (asked tree) names) db params rows → rows ≡ map shown (filter wanted (flat_map owned_of (targets_between first last now)))
          lists_owned blind sorts held fair rows is =
              let all = flat_map rows_of now.targets in
              let kept = filter is_within all in
              let f = shown_in (asked tree) params in
              let rise : IsAscending Before kept = ascending-filter Before is_within all (all_rise sorts now.targets (ids_sorted db now holds)
              (each_sorted db now holds)) in
              rises_to tree test columns (asked tree).order no_limit no_offset params db.trees rows (is.answer Null) (map (on_content f) kept)
              (held_seen (passes test params) fair f blind (db.trees tree) all held)
              (ascending-map (λ a b. output_cmp (asked tree) a b ≡ Less) (on_content f) kept rise)
              ∙ map-map (λ (o : Output). o.1) (on_content f) kept
              ∙ ap (map (on_content (shown_of columns params))) (rows_between now.targets)
              ∙ all_shown (targets_between first last now)

-- a statement that tests nothing else asks for all of them
all_wanted : {O : Type 0} (os : List O) → filter (λ o. true) os ≡ os
all_wanted os = filter_all _ _ (all_of (λ o. true ≡ true) (λ o. refl) os)

-- the tags of a target, as they come
tags_rise : (t : Target) → is_sorted t ≡ true → in_byte_order (map (λ (w : Bytes). w) t.tags) ≡ true
tags_rise t sorted = ap in_byte_order (map-id t.tags) ∙ (and_parts (in_byte_order t.tags) _ sorted).0

module _ (db : Database) (now : Records) (holds : HoldsRecords db now) (names : List (List ℕ)) (first last : Bytes) where
  -- the tags of the targets from an id to another
  pub lists_tags_between : (rows : List Row) → Shows (selects (tags_between (holds.spot TargetTags).tree) names) db (given first last []) rows
      → rows ≡ map shown_owned_tag (flat_map owned_tags (targets_between first last now))
  lists_tags_between rows is =
      lists_owned (λ w. w) (λ w. []) (λ (t : Target). t.tags) (λ (i w : Bytes). record { id = i; tag = w }) shown_owned_tag owned_tag_columns first last [] []
      (λ o. true) (λ i w. refl) (λ i w. refl) db now holds names (holds.spot TargetTags).tree (λ i x. refl) tags_rise (holds.rows TargetTags) (λ i x. refl) rows
      is
      ∙ ap (map shown_owned_tag) (all_wanted _)

  -- one tag of them, where they have it
  pub lists_tag_between : (tag : Bytes) (rows : List Row)
      → Shows (selects (tag_between (holds.spot TargetTags).tree) names) db (given first last (Text tag ∷ [])) rows
      → rows ≡ map shown_owned_tag (filter (λ (o : OwnedTag). same_bytes o.tag tag) (flat_map owned_tags (targets_between first last now)))
  lists_tag_between tag rows is =
      lists_owned (λ w. w) (λ w. []) (λ (t : Target). t.tags) (λ (i w : Bytes). record { id = i; tag = w }) shown_owned_tag owned_tag_columns
      first last (Text tag ∷ []) (at_key 2 2 ∷ []) (λ (o : OwnedTag). same_bytes o.tag tag) (λ i w. and-true _ ∙ words_equal w tag) (λ i w. refl)
      db now holds names (holds.spot TargetTags).tree (λ i x. refl) tags_rise (holds.rows TargetTags) (λ i x. refl) rows is

  -- their attributes
  pub lists_attributes_between : (rows : List Row)
      → Shows (selects (attributes_between (holds.spot TargetAttributes).tree) names) db (given first last []) rows
      → rows ≡ map shown_owned_attribute (flat_map owned_attributes (targets_between first last now))
  lists_attributes_between rows is =
      lists_owned (λ (a : Attribute). a.key) (λ (a : Attribute). Text a.value ∷ []) (λ (t : Target). t.attributes)
      (λ (i : Bytes) (a : Attribute). record { id = i; attribute = a }) shown_owned_attribute owned_attribute_columns first last [] []
      (λ o. true) (λ i a. refl) (λ i a. refl) db now holds names (holds.spot TargetAttributes).tree (λ i x. refl)
      (λ t sorted. (and_parts (in_byte_order t.tags) _ sorted).1) (holds.rows TargetAttributes) (λ i x. refl) rows is
      ∙ ap (map shown_owned_attribute) (all_wanted _)
