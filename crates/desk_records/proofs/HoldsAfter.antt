-- One table changes, and the others keep their rows.
use Rattle.desk_records.proofs.Common.{◌≡◌, ◌≢◌, ℕ, suc, true, List, [], ◌∷◌, Some, refl, sym, ap, subst, ◌∙◌, find, ◌==◌, map, cond, AllByRecursion, cases_eq}
use Rattle.desk_records.proofs.Common.{Chosen, Table, Database, IsDatabase, all-slice_get, Bytes, Records, ActionRecord, Stands, Place, Offers, places}
use Rattle.desk_records.proofs.Common.{offer_table, table_at, name_of, are_sorted, AreRowsOf, HoldsLedger, HoldsRecords, IsHeld, Ledger, Offered, content_of}
use Rattle.desk_records.proofs.Common.{ledger_of, Row, Term, Insert, Values, None, Null, State, Writes, IsPermutation, IsPermutation-trans, IsHeldBy, Inserted}
use Rattle.desk_records.proofs.Common.{given_rows, inserts, adds_row, cast_all, slice_get, Unordered, ◌+◌, ◌++◌, arith, length, pos, rowid, rows_from, put_row}
use Rattle.desk_records.proofs.Common.{put_next, edit_of, Trees, Int, Ordered, drop, cast_null, cast_row, IsPermutation-middle, IsPermutation-sym}
use Rattle.rollout_machine.specs.Offers.{first_offer}
use Rattle.sql_calls.proofs.Apart.{HasNoForeignKey}
use Rattle.sqlite_rules.specs.Edit.{edited, next_rowid, numbered, put_all}
use Rattle.sql_calls.proofs.Inserts.{uncounted}
use Rattle.sql_calls.proofs.KeyedRows.{held_added}
use Rattle.sql_calls.specs.KeyIndexes.{ComparesBytes}
use Rattle.desk_records.proofs.Places.{place_named, is_named, is_among, same_elsewhere}

-- what one statement leaves of the tables, where it writes the rows of one place
pub record Leaves (old new : Database) (tree : ℕ) : Type 0 where
  pub schema : new.schema ≡ old.schema
  pub sound : IsDatabase new
  pub others : AllByRecursion (λ (s : Table). HasNoForeignKey old.schema s.tree → s.tree ≢ tree → new.trees s.tree ≡ old.trees s.tree) old.schema.tables

abbrev pub ChangesOnly : Place → Ledger → Ledger → Type 0
ChangesOnly k now next = (t : Place) → t ≢ k → content_of next t ≡ content_of now t

module _ (k : Place) (now next : Ledger) (old new : Database) (was : HoldsLedger old now) where
  -- a tree is that of one table alone
  one_place : (t : Place) → (was.spot t).tree ≡ (was.spot k).tree → t ≡ k
  one_place t same =
      let both : Some (table_at t (was.spot t).tree) ≡ Some (table_at k (was.spot k).tree) = sym (was.stands t).found
      ∙ ap (λ tree. find (λ (x : Table). x.tree == tree) old.schema.tables) same ∙ (was.stands k).found in
      let tables : table_at t (was.spot t).tree ≡ table_at k (was.spot k).tree = cc in
      let named : Some t ≡ Some k = sym (is_named t) ∙ ap (λ (x : Table). place_named x.name) tables ∙ is_named k in
      cc

  -- One place holds the new ledger, and the others, whose contents stay, hold it too.
  pub ledger_after : Leaves old new (was.spot k).tree → IsHeld next k (new.trees (was.spot k).tree) → ChangesOnly k now next → are_sorted next.records.targets
      ≡ true → HoldsLedger new next
  ledger_after left there same sorted = record {
    sound = left.sound;
    spot = was.spot;
    stands = λ t. subst (λ s. Stands s (name_of t) (was.spot t).at (table_at t (was.spot t).tree)) (sym left.schema) (was.stands t);
    rows = rows;
    sorted = sorted;
    keyed = subst (λ s. ComparesBytes s (offer_table (was.spot Offers).tree) 1) (sym left.schema) was.keyed;
  }
    where
      kept : (t : Place) → (was.spot t).tree ≢ (was.spot k).tree → new.trees (was.spot t).tree ≡ old.trees (was.spot t).tree
      kept t apart = all-slice_get (λ (s : Table). HasNoForeignKey old.schema s.tree → s.tree ≢ (was.spot k).tree → new.trees s.tree ≡ old.trees s.tree)
          old.schema.tables (was.spot t).at (table_at t (was.spot t).tree) (was.stands t).got left.others (was.stands t).keyless apart

      rows : (t : Place) → IsHeld next t (new.trees (was.spot t).tree)
      rows t = grind (arith, cases_eq (was.spot t).tree (was.spot k).tree, one_place t, kept t, same t, was.rows t, there)

-- rows whose rowids SQLite chooses are put one after the other
held_rows : (table : Table) (rows wanted news : List Row) → IsHeldBy rows wanted
    → IsHeldBy (put_all rows (numbered Chosen rows (map (λ s. cast_row table (drop 0 s)) (map (λ x. Null ∷ x) news))))
    (map (cast_all table.columns) news ++ wanted)
held_rows table rows wanted [] held = held
held_rows table rows wanted (x ∷ news) held =
    let y = cast_all table.columns x in
    let more = held_rows table (put_row (Int (next_rowid rows) ∷ y) rows) (y ∷ wanted) news (held_added rows wanted held y) in
    rw (cast_null) (record {
      order = more.order;
      rising = more.rising;
      same = IsPermutation-trans _ _ _ (IsPermutation-sym _ _ (IsPermutation-middle (map (cast_all table.columns) news) y wanted)) more.same;
    })

-- A new row of one place, whose rows come in any order.
module _ (k : Place) (l next : Ledger) (only : ChangesOnly k l next) (sorted : are_sorted next.records.targets ≡ true) where
  inserted : {old new : State} {text : List ℕ} {params : Row} {count : ℕ} (terms : List Term) (width : ℕ) (holds : HoldsLedger old.now l)
      → Writes old new None (Insert (holds.spot k).at (Values terms width)) text params count
      → ((tree : ℕ) → table_at k tree ≡ uncounted (table_at k tree))
      → Inserted old.now.schema (table_at k (holds.spot k).tree) (given_rows (table_at k (holds.spot k).tree) params terms width) old.now new.now
  inserted {old} {new} {text} {params} {count} terms width holds w plain =
      let spot = holds.spot k in
      let got = subst (λ (t : Table). slice_get old.now.schema.tables spot.at ≡ Some t) (plain spot.tree) (holds.stands k).got in
      grind (arith, plain spot.tree, inserts old.now.schema spot.at (table_at k spot.tree) terms width got old new refl text params count w)

  pub puts : {old new : State} {text : List ℕ} {params : Row} {count : ℕ} {had gets : List Row} (terms : List Term) (width : ℕ) (holds : HoldsLedger old.now l)
      → Writes old new None (Insert (holds.spot k).at (Values terms width)) text params count
      → ((tree : ℕ) → table_at k tree ≡ uncounted (table_at k tree)) → (source row : Row)
      → ((tree : ℕ) → given_rows (table_at k tree) params terms width ≡ (Null ∷ source) ∷ [])
      → ((tree : ℕ) → cast_all (table_at k tree).columns source ≡ row)
      → content_of l k ≡ Unordered had → content_of next k ≡ Unordered gets → IsPermutation gets (row ∷ had) → HoldsLedger new.now next
  puts {old} {new} {text} {params} {count} {had} {gets} terms width holds w plain source row given cast before after more =
      let spot = holds.spot k in
      let table = table_at k spot.tree in
      let made = inserted terms width holds w plain in
      let were : IsHeldBy (old.now.trees spot.tree) had = subst (λ c. AreRowsOf c (old.now.trees spot.tree)) before (holds.rows k) in
      let it : IsHeldBy (new.now.trees spot.tree) (row ∷ had) =
      grind (arith, cast spot.tree, adds_row old.now.schema table [] params terms width source (given spot.tree) old.now new.now had were made) in
      let held : IsHeldBy (new.now.trees spot.tree) gets =
      record { order = it.order; rising = it.rising; same = IsPermutation-trans _ _ _ more it.same } in
      ledger_after k l next old.now new.now holds (record { schema = made.schema_is; sound = w.sound; others = made.applies.tables })
      (subst (λ c. AreRowsOf c (new.now.trees spot.tree)) (sym after) held) only sorted

  -- .. and several, whose rows come in any order
  pub puts_all : {old new : State} {text : List ℕ} {params : Row} {count : ℕ} {had gets : List Row} (terms : List Term) (width : ℕ)
      (holds : HoldsLedger old.now l) → Writes old new None (Insert (holds.spot k).at (Values terms width)) text params count
      → ((tree : ℕ) → table_at k tree ≡ uncounted (table_at k tree)) → (rows : List Row)
      → ((tree : ℕ) → given_rows (table_at k tree) params terms width ≡ map (λ x. Null ∷ x) rows)
      → ((tree : ℕ) → map (cast_all (table_at k tree).columns) rows ≡ rows)
      → content_of l k ≡ Unordered had → content_of next k ≡ Unordered gets → IsPermutation gets (rows ++ had) → HoldsLedger new.now next
  puts_all {old} {new} {text} {params} {count} {had} {gets} terms width holds w plain rows given cast before after more =
      let spot = holds.spot k in
      let table = table_at k spot.tree in
      let was = old.now.trees spot.tree in
      let made = inserted terms width holds w plain in
      let were : IsHeldBy was had = subst (λ c. AreRowsOf c was) before (holds.rows k) in
      let put = edited old.now.trees (edit_of old.now.trees table [] Chosen 0 (map (λ x. Null ∷ x) rows)) in
      let now : new.now.trees spot.tree ≡ put = made.applies.rows
      ∙ ap (λ its. edited old.now.trees (edit_of old.now.trees table [] Chosen 0 its)) (given spot.tree) in
      let all : IsHeldBy put (rows ++ had) = subst (λ its. IsHeldBy put (its ++ had)) (cast spot.tree) (held_rows table was had rows were) in
      let it : IsHeldBy (new.now.trees spot.tree) (rows ++ had) = subst (λ its. IsHeldBy its (rows ++ had)) (sym now) all in
      let held : IsHeldBy (new.now.trees spot.tree) gets =
      record { order = it.order; rising = it.rising; same = IsPermutation-trans _ _ _ more it.same } in
      ledger_after k l next old.now new.now holds (record { schema = made.schema_is; sound = w.sound; others = made.applies.tables })
      (subst (λ c. AreRowsOf c (new.now.trees spot.tree)) (sym after) held) only sorted

  -- .. whose rows come in the order of their numbers
  pub puts_next : {old new : State} {text : List ℕ} {params : Row} {count : ℕ} {X : Type 0} (f : ℕ → X → Row) → ((n : ℕ) (x : X) → rowid (f n x) ≡ Int (pos n))
      → (xs : List X) (x : X) (number : ℕ) → number ≡ length xs + 1 → (terms : List Term) (width : ℕ) (holds : HoldsLedger old.now l)
      → Writes old new None (Insert (holds.spot k).at (Values terms width)) text params count
      → ((tree : ℕ) → table_at k tree ≡ uncounted (table_at k tree))
      → ((db : Trees) (tree : ℕ) → edited db (edit_of db (table_at k tree) [] Chosen 0 (given_rows (table_at k tree) params terms width))
      ≡ put_row (f number x) (db tree))
      → content_of l k ≡ Ordered (rows_from f 1 xs) → content_of next k ≡ Ordered (rows_from f 1 (xs ++ x ∷ [])) → HoldsLedger new.now next
  puts_next {old} {new} {text} {params} {count} f ids xs x number at terms width holds w plain row before after =
      let spot = holds.spot k in
      let table = table_at k spot.tree in
      let made = inserted terms width holds w plain in
      let were : old.now.trees spot.tree ≡ rows_from f 1 xs = subst (λ c. AreRowsOf c (old.now.trees spot.tree)) before (holds.rows k) in
      let held : new.now.trees spot.tree ≡ rows_from f 1 (xs ++ x ∷ []) =
      made.applies.rows ∙ row old.now.trees spot.tree ∙ grind (arith, at, were, put_next f ids 1 xs x) in
      ledger_after k l next old.now new.now holds (record { schema = made.schema_is; sound = w.sound; others = made.applies.tables })
      (subst (λ c. AreRowsOf c (new.now.trees spot.tree)) (sym after) held) only sorted

-- The contents of all places but some compute to the same, and those of these are proved to be the same, but for one.
pub contents_differ : (k : Place) (now next : Ledger) (touched : List Place) → map (content_of next) places
    ≡ map (λ t. cond (is_among touched t) (content_of next t) (content_of now t)) places
    → AllByRecursion (λ t. t ≢ k → content_of next t ≡ content_of now t) touched → ChangesOnly k now next
contents_differ k now next touched = same_elsewhere (content_of next) (content_of now) (λ t. t ≢ k) touched

-- ---- records whose rollouts and actions stay

same_first : (now next : Records) → next.rollouts ≡ now.rollouts → (id : Bytes) (k : ℕ) (actions : List ActionRecord) → first_offer next id k actions
    ≡ first_offer now id k actions
same_first now next same id k [] = refl
same_first now next same id k (a ∷ more) = rw (same_first now next same id (suc k) more, same) refl

-- they leave the offers too
pub records_differ : (k : Place) (now next : Records) → next.rollouts ≡ now.rollouts → next.actions ≡ now.actions → (touched : List Place)
    → map (content_of (ledger_of next)) places ≡ map (λ t. cond (is_among (Offers ∷ touched) t) (content_of (ledger_of next) t) (content_of (ledger_of now) t))
    places
    → AllByRecursion (λ t. t ≢ k → content_of (ledger_of next) t ≡ content_of (ledger_of now) t) touched → ChangesOnly k (ledger_of now) (ledger_of next)
records_differ k now next rollouts actions touched same proved = contents_differ k (ledger_of now) (ledger_of next) (Offers ∷ touched) same
    ((λ apart. ap Offered (λ i. λ id. (ap (first_offer next id 1) actions ∙ same_first now next rollouts id 1 now.actions) i)), proved)

-- of records
pub holds_after : (k : Place) (now next : Records) (old new : Database) (was : HoldsRecords old now) → Leaves old new (was.spot k).tree
    → IsHeld (ledger_of next) k (new.trees (was.spot k).tree) → ChangesOnly k (ledger_of now) (ledger_of next)
    → are_sorted next.targets ≡ true → HoldsRecords new next
holds_after k now next = ledger_after k (ledger_of now) (ledger_of next)
