-- What the usual statements do to a table that has a text or composite key, in contents: rows less their rowids, in any order.
use Rattle.sqlite_keyed.proofs.ListLemmas.{ascending_weaker, ascending-map, filter_none}
use Rattle.sql_calls.proofs.Common.{Rise, column, suc, Binary, false, Query, Less, get_or, ◌≡◌, ◌⊎◌, inl, inr, ◌≤◌, ℕ, pos, Bool, true, not, List, [], ◌∷◌, map}
use Rattle.sql_calls.proofs.Common.{filter, length, slice_get, Some, refl, sym, ap, ◌∙◌, subst, arith, IsPermutation, length-map, IsPermutation-trans}
use Rattle.sql_calls.proofs.Common.{IsPermutation-map, length_permutation, Null, Int, Trees, rowid, put_row, without_rowid, Table, Schema, agree, Has, cast_all}
use Rattle.sql_calls.proofs.Common.{ids_of, agree_back, agree_chain, Given, Term, col, IsAnswer, output_cmp, page, Output, overlay, Database, one_permutation}
use Rattle.sql_calls.proofs.Common.{map-map, plain, IsSound, all_from, has_got, IsHeldBy, HaveKeysApart, Key, id_in}
use Rattle.sqlite_value.specs.Order.{Row}
use Rattle.sqlite_rules.specs.Edit.{edit_of, edited}
use Rattle.sqlite_catalog.proofs.AlterLemmas.{keys_are_unique}
use Rattle.sql_calls.proofs.KeyedRows.{IsBlind, on_content, IsKey, changed, held_added, held_seen, held_dropped, held_unchanged, held_changed, one_at_most}
use Rattle.sql_calls.proofs.KeyedRows.{are_apart, risen}
use Rattle.std.proofs.lemmas.Bool.{false_from_ne_true}
use Rattle.sqlite_rules.proofs.ListLemmas.{has_kept}
use Rattle.sql_calls.proofs.NumberedRows.{cast_int, cast_null}
use Rattle.sql_calls.proofs.Selects.{simple, passes, shown_of, simple_rows, by, shown_in, rises_to}
use Rattle.sql_calls.proofs.Inserts.{Inserted, given_rows}
use Rattle.sql_calls.proofs.Updates.{Updated, Deleted}

pub short : {X : Type 0} (xs ys : List X) → IsPermutation xs ys → length xs ≤ 1 → ys ≡ xs
short [] [] same low = refl
short [] (y ∷ ys) same low = absurd (omega (arith, length_permutation _ _ same))
short (x ∷ []) ys same low = one_permutation x ys same
short (x ∷ y ∷ xs) ys same low = absurd (omega (arith, low))

pub none_passes : (p : Row → Bool) (rows : List Row) → ((r : Row) → Has rows r → p r ≡ true → ⊥) → filter p rows ≡ []
none_passes p rows h = filter_none p rows (all_from _ rows (λ r there. false_from_ne_true _ (h r there)))

pub is_among : (p : Row → Bool) (rows : List Row) (r : Row) → Has rows r → p r ≡ true → Has (filter p rows) r
is_among = has_kept

pub only_one : (found r : Row) → Has (found ∷ []) r → r ≡ found
only_one found r h2 = grind arith

-- the rows of the answer that an UPDATE or DELETE of one row is given
module _ (table : Table) (rows : List Row) (f : Row → Row) where
  abbrev pub written : List Row → List Row
  written given = edited (λ t. rows) (edit_of (λ t. rows) table (ids_of given) Given 1 given)

  pub one_written : (n : ℕ) (x : Row) → written ((Int (pos n) ∷ Int (pos n) ∷ x) ∷ [])
      ≡ put_row (Int (pos n) ∷ cast_all table.columns x) (without_rowid (pos n) rows)
  one_written n x = rw (cast_int n) refl

-- In a sound database a UNIQUE keeps the keys of its table apart, whatever else the database has.
pub keys_apart : (schema : Schema) (db : Trees) (at : ℕ) (table : Table) (k : ℕ) (key : List ℕ) → IsSound schema db → slice_get schema.tables at ≡ Some table
    → slice_get table.uniques k ≡ Some key → get_or table.orders k plain ≡ plain
    → HaveKeysApart key (db table.tree)
keys_apart schema db at table k key sound there unique in_order = grind (arith, all_from, keys_are_unique, has_got)

module _ (schema : Schema) (table : Table) (key : List ℕ) where
  module _ (test : List Term) (params : Row) (blind : IsBlind (passes test params)) (ks : List ℕ) (keyed : (r : Row) → passes test params r ≡ true
      → agree plain key r ks params ≡ true) where
    abbrev p : Row → Bool
    p = passes test params

    pub key_is : IsKey p plain key
    key_is r s h k = agree_chain plain key ks key r params s (keyed r h) (agree_back plain key ks s params (keyed s k))

    pub found_once : (db : Trees) (wanted : List Row) → HaveKeysApart key (db table.tree) → IsHeldBy (db table.tree) wanted → (filter p (db table.tree) ≡ [])
        ⊎ ((found : Row) × (filter p (db table.tree) ≡ found ∷ []))
    found_once db wanted unique held = one_at_most plain key p key_is (db table.tree)
        (are_apart plain key (risen 1 _ held.order held.rising) unique)

    few : (rows : List Row) → (filter p rows ≡ []) ⊎ ((found : Row) × (filter p rows ≡ found ∷ [])) → length (filter p rows) ≤ 1
    few rows one = grind arith

    -- SELECT .. WHERE key: the one row, or none
    pub reads_key : (shows : List Term) → IsBlind (shown_of shows params) → (db : Trees) (wanted : List Row) → HaveKeysApart key (db table.tree)
        → IsHeldBy (db table.tree) wanted
        → (rows : List Row) → IsAnswer (simple table.tree test shows) (overlay db []) params rows
        → rows ≡ map (on_content (shown_of shows params)) (filter (on_content p) wanted)
    reads_key shows fair db wanted unique held rows answer =
        let f = shown_of shows params in
        let first = held_seen p blind f fair (db table.tree) wanted held in
        let low = few (db table.tree) (found_once db wanted unique held) in
        let size : length (map f (filter p (db table.tree))) ≡ length (filter p (db table.tree)) = length-map (filter p (db table.tree)) f in
        let same : length (map f (filter p (db table.tree))) ≡ length (map (on_content f) (filter (on_content p) wanted)) = length_permutation _ _ first in
        short _ rows (IsPermutation-trans _ _ _ first (simple_rows table.tree test shows params db rows answer)) (omega (arith, low, size, same))

    -- UPDATE .. WHERE key
    pub changes_key : (values : List Term) → IsBlind (shown_of values params) → (old new : Database) (wanted : List Row)
        → HaveKeysApart key (old.trees table.tree) → IsHeldBy (old.trees table.tree) wanted
        → Updated schema table (record { lets = []; body = simple table.tree test (col 1 0 ∷ col 1 0 ∷ values) }) params old new
        → IsHeldBy (new.trees table.tree) (changed (on_content p) (λ x. cast_all table.columns (on_content (shown_of values params) x)) wanted)
    changes_key values fair old new wanted unique held u =
        let rows = old.trees table.tree in
        let shows = shown_of (col 1 0 ∷ col 1 0 ∷ values) params in
        let values_of = λ (x : Row). cast_all table.columns (on_content (shown_of values params) x) in
        let next = changed (on_content p) values_of wanted in
        let same : IsPermutation (map shows (filter p rows)) u.rows = simple_rows table.tree test (col 1 0 ∷ col 1 0 ∷ values) params old.trees u.rows
        (u.answers.answer Null) in
        elim (found_once old.trees wanted unique held) [
          | inl none ↦
              let given : u.rows ≡ [] = short [] u.rows (subst (λ l. IsPermutation (map shows l) u.rows) none same) (omega arith) in
              subst (λ l. IsHeldBy l next) (sym (u.applies.rows ∙ ap (written table rows values_of) given))
              (held_unchanged p blind values_of rows wanted held none)
          | inr one ↦
              let made = held_changed p blind values_of rows wanted held one.0 one.1 in
              let given : u.rows ≡ shows one.0 ∷ [] = short (shows one.0 ∷ []) u.rows (subst (λ l. IsPermutation (map shows l) u.rows) one.1 same)
              (omega arith) in
              let found : shows one.0 ≡ Int (pos made.0) ∷ Int (pos made.0) ∷ on_content (shown_of values params) made.1 = ap shows made.2
              ∙ ap (λ l. Int (pos made.0) ∷ Int (pos made.0) ∷ l) (fair (Int (pos made.0)) made.1) in
              let all : new.trees table.tree ≡ put_row (Int (pos made.0) ∷ values_of made.1) (without_rowid (pos made.0) rows) =
              u.applies.rows ∙ ap (written table rows values_of) (given ∙ ap (λ l. l ∷ []) found)
              ∙ one_written table rows values_of made.0 (on_content (shown_of values params) made.1) in
              subst (λ l. IsHeldBy l next) (sym all) made.3
        ]

  module _ (test : List Term) (params : Row) (blind : IsBlind (passes test params)) where
    -- DELETE .. WHERE
    pub drops : (old new : Database) (wanted : List Row) → IsHeldBy (old.trees table.tree) wanted
        → Deleted schema table (record { lets = []; body = simple table.tree test (col 1 0 ∷ []) }) params old new
        → IsHeldBy (new.trees table.tree) (filter (λ x. not (passes test params (Null ∷ x))) wanted)
    drops old new wanted held u =
        let p = passes test params in
        let shows = shown_of (col 1 0 ∷ []) params in
        let rows = old.trees table.tree in
        let same : IsPermutation (map shows (filter p rows)) u.rows = simple_rows table.tree test (col 1 0 ∷ []) params old.trees u.rows
        (u.answers.answer Null) in
        let ids : IsPermutation (ids_of (filter p rows)) (ids_of u.rows) =
        subst (λ l. IsPermutation l (ids_of u.rows)) (map-map (λ r. id_in (rowid r)) shows (filter p rows))
        (IsPermutation-map (λ r. id_in (rowid r)) _ _ same) in
        subst (λ l. IsHeldBy l (filter (λ x. not (p (Null ∷ x))) wanted)) (sym u.applies.rows) (held_dropped p blind rows wanted held (ids_of u.rows) ids)

  -- INSERT .. VALUES of one row, whose rowid SQLite chooses
  pub adds_row : (params : Row) (terms : List Term) (width : ℕ) (source : Row) → given_rows table params terms width ≡ (Null ∷ source) ∷ []
      → (old new : Database) (wanted : List Row) → IsHeldBy (old.trees table.tree) wanted
      → Inserted schema table (given_rows table params terms width) old new → IsHeldBy (new.trees table.tree) (cast_all table.columns source ∷ wanted)
  adds_row params terms width source one old new wanted held made = grind (arith, edited, cast_null, held_added)

-- SELECT .. WHERE .. ORDER BY column LIMIT .., where the contents that pass are written in that order
module _ (tree : ℕ) (test : List Term) (params : Row) (blind : IsBlind (passes test params)) (c : ℕ) (shows : List Term)
    (fair : IsBlind (shown_of shows params)) (limit offset : Term) where
  abbrev order : List (Term × Key)
  order = (col 1 (suc c), record { descending = false; collation = Binary }) ∷ []

  abbrev rising : Query
  rising = by (simple tree test shows) order limit offset

  pub reads_risen : (db : Trees) (wanted : List Row) → IsHeldBy (db tree) wanted → Rise c (filter (on_content (passes test params)) wanted)
      → (rows : List Row) → IsAnswer rising (overlay db []) params rows
      → rows ≡ page rising params (map (on_content (shown_of shows params)) (filter (on_content (passes test params)) wanted))
  reads_risen db wanted held rise rows answer =
      let f = shown_in rising params in
      let kept = filter (on_content (passes test params)) wanted in
      rises_to tree test shows order limit offset params db rows answer (map (on_content f) kept)
      (held_seen (passes test params) blind f (λ id x. ap (λ (shown : Row). (column (id ∷ x) (suc c) ∷ [], shown)) (fair id x)) (db tree) wanted held)
      (ascending-map (λ a b. output_cmp rising a b ≡ Less) (on_content f) kept
      (ascending_weaker _ (λ a b. output_cmp rising (on_content f a) (on_content f b) ≡ Less) (λ a b less. rw less refl) kept rise))
      ∙ ap (page rising params) (map-map (λ (o : Output). o.1) (on_content f) kept)
