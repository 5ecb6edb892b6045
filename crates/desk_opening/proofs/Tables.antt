-- What each text of the making does.
use Rattle.desk_opening.proofs.Common.{option_map, ◌≡◌, ◌≢◌, inl, inr, ℕ, slice_index_or, ◌+◌, ◌<◌, ◌^◌, ◌==◌, Bool, true, false, List, [], ◌∷◌, ◌++◌, length}
use Rattle.desk_opening.proofs.Common.{codes, pos, map, Some, None, Ok, find, if◌then◌else◌, refl, sym, ap, subst, ◌∙◌, arith, AllByRecursion, position_from}
use Rattle.desk_opening.proofs.Common.{and_parts, eqb-true, Int, column, Schema, Table, Database, IsDatabase, CreateTable, Insert, Values, State, Writes, Has}
use Rattle.desk_opening.proofs.Common.{same_name, next_tree, is_used, automatics, IsTableRow, all-slice_get, IsPermutation-same, table_defined_by, Stands}
use Rattle.desk_opening.proofs.Common.{LeavesFree, HasNoForeignKey, ComparesBytes, Inserted, inserts, uncounted, given_rows, cast_int, cast_null, Place, Desk}
use Rattle.desk_opening.proofs.Common.{Offers, places, table_at, name_of, desk_table, offer_table, newest, places_at, HoldsPlace, AreRowsOf, Content}
use Rattle.desk_opening.proofs.Common.{HoldsRecords, Spot, IsHeld, content_at, content_of, desk_row, ledger_of, desk_terms, create_text_of, Before, HoldsBefore}
use Rattle.desk_opening.proofs.Common.{HoldsPartly, IsEmptyTable, Nothing, Older, first_records, each_place, all_both, place_or_other, same_elsewhere}
use Rattle.desk_opening.proofs.Common.{same_places, HoldsLedger, Ledger, same_some, place_named, is_named}
use Rattle.sqlite_value.specs.declared.keys.Collation.TheVariants.{Binary}
use Rattle.sqlite_value.specs.Keys.{plain, first_key}
use Rattle.sqlite.specs.Order.{Row}
use Rattle.sqlite_schema.specs.declared.schema.Index.{Index}
use Rattle.std.proofs.Math.ListN.{get_or-map}
use Rattle.sqlite_catalog.proofs.LayoutLemmas.{zipped_left}
use Rattle.sqlite_catalog.proofs.StepLemmas.{same_itself, table_below}
use Rattle.sqlite_rules.proofs.ListLemmas.{has_got, has_right}
use Rattle.sqlite_keyed.proofs.ListLemmas.{all_weaker}
use Rattle.sql_front.proofs.Created.{stands_kept, stands_last}
use Rattle.sql_front.proofs.Grown.{Grown, grown}
use Rattle.rollout_machine.proofs.RecordRuns.{no_records}
use Rattle.rollout_machine.proofs.Answering.{made_records}
use Rattle.sql_calls.specs.Keyed.{IsHeldBy}
use Rattle.desk_opening.proofs.EachVersion.{has_offers, nothing}
use Rattle.desk_records.specs.Targets.{are_sorted}
use Rattle.desk_records.proofs.HoldsAfter.{Leaves as LeavesRows}
use Rattle.desk_opening.proofs.Places.{is_place, HaveNamesApart}

-- ---- the tree of a table is low

low_tree : (db : Database) (front more : List Table) (t : Table) → IsDatabase db → db.schema.tables ≡ front ++ t ∷ more → t.tree < 2 ^ 31
low_tree db front more t sound grown =
    let it = zipped_left IsTableRow _ db.schema.tables t sound.lists.listed.tables (rw grown (has_right front (t ∷ more) t (inl refl))) in
    omega (arith, it.2.described.low)

-- ---- the indexes of a table

-- in a sound database an index is that of a table, and so its tree is below the next
index_owned : (db : Database) → IsDatabase db → (index : Index) → Has db.schema.indexes index → index.table < next_tree db.schema
index_owned db sound index there = grind (arith, zipped_left, column, table_below)

-- each index that SQLite makes is in plain order
plain_order : (t : Place) (k : ℕ) → slice_index_or (table_at t 0).orders k plain ≡ plain
plain_order t k = grind (arith, plain, same_places, get_or-map)

first_plain : (first_key plain).collation ≡ Binary
unfolding first_key
first_plain = refl

-- ---- the tables

-- no index that SQLite makes for a UNIQUE has such a name
unindexed : (name : List ℕ) → ((rest : List ℕ) → same_name (codes "sqlite_autoindex_" ++ rest) name ≡ false)
    → (table : Table) (at next i : ℕ) (keys : List (List ℕ))
    → position_from (λ (x : Index). same_name x.name name) i (automatics table at next keys) ≡ None
unindexed name apart table at next i [] = refl
unindexed name apart table at next i (key ∷ keys) = rw (apart _) (unindexed name apart table (at + 1) (next + 1) (i + 1) keys)

module _ (t : Place) (before : Before) (made left : List Place) (apart : AllByRecursion (HaveNamesApart t) left) (old new : State) (count : ℕ)
    (was : HoldsPartly old.now before made (t ∷ left))
    (w : Writes old new None CreateTable (create_text_of t) [] count) where
  abbrev s : Schema
  s = old.now.schema

  abbrev new_table : Table
  new_table = record (table_at t 0) { tree = next_tree s }

  g : Grown s (table_at t 0) old.now new.now
  g = grown s (table_at t 0) (create_text_of t) (is_place t).defined old new refl [] count w

  made_last : Stands new.now.schema (name_of t) (length s.tables) (table_at t (next_tree s))
  made_last = stands_last s new.now.schema (table_at t 0) g.more g.tables ((is_place t).bare.references, g.bare) was.free.0
      (same_itself (table_at t 0).name) (low_tree new.now s.tables g.more new_table w.sound g.tables)

  -- a table that stood keeps its place, its rows and its indexes
  module _ (u : Place) (at tree : ℕ) (stands : Stands s (name_of u) at (table_at u tree)) where
    still_stands : Stands new.now.schema (name_of u) at (table_at u tree)
    still_stands = stands_kept s new.now.schema (name_of u) at (table_at u tree) (new_table ∷ g.more) g.tables ((is_place t).bare.references, g.bare) stands

    same_rows : new.now.trees tree ≡ old.now.trees tree
    same_rows = all-slice_get (λ (x : Table). new.now.trees x.tree ≡ old.now.trees x.tree) s.tables at (table_at u tree) stands.got g.others

    same_indexes : (index : Index) → Has new.now.schema.indexes index → index.table ≡ tree → Has s.indexes index
    same_indexes index h on = elim (g.indexes index h) [
      | inl there ↦ there
      | inr own ↦ absurd (let low = table_below s (table_at u tree) (has_got s.tables at (table_at u tree) stands.got) in let its = own.its in
          omega (arith, on, its, low))
    ]

  still_empty : (u : Place) → IsEmptyTable old.now u → IsEmptyTable new.now u
  still_empty u e = record {
    at = e.at;
    tree = e.tree;
    stands = still_stands u e.at e.tree e.stands;
    empty = same_rows u e.at e.tree e.stands ∙ e.empty;
    plainly = λ index h on. e.plainly index (same_indexes u e.at e.tree e.stands index h on) on;
  }

  still_kept : (b : Before) → HoldsBefore old.now b → HoldsBefore new.now b
  still_kept Nothing h = tt
  still_kept (Older v r) h =
      let offers : HoldsPlace v old.now r (h.spot Offers) Offers = has_offers v (λ u. HoldsPlace v old.now r (h.spot u) u) h.tables in
      record {
        spot = h.spot;
        tables = all_weaker (λ u. HoldsPlace v old.now r (h.spot u) u) (λ u. HoldsPlace v new.now r (h.spot u) u)
            (λ u it. (
              still_stands u (h.spot u).at (h.spot u).tree it.0,
              subst (AreRowsOf (content_at v (ledger_of r) u))
                  (sym (same_rows u (h.spot u).at (h.spot u).tree it.0)) it.1,
            )) (places_at v) h.tables;
        tellable = h.tellable;
        sorted = h.sorted;
        keyed = λ index there guarding on. h.keyed index
            (same_indexes Offers (h.spot Offers).at (h.spot Offers).tree offers.0 index there
            (eqb-true index.table (h.spot Offers).tree (and_parts _ _ guarding).1)) guarding on;
      }

  own_order : (index : Index) → Has new.now.schema.indexes index → index.table ≡ next_tree s → index.order ≡ plain
  own_order index h on = elim (g.indexes index h) [
    | inl there ↦ absurd (let low = index_owned old.now was.sound index there in omega (arith, low, on))
    | inr own ↦ own.order ∙ plain_order t own.place
  ]

  spared : (u : Place) → same_name (table_at t 0).name (name_of u) ≡ false → is_used s (name_of u) ≡ false → is_used new.now.schema (name_of u) ≡ false
  spared u other unused = g.free (name_of u) unused other
      (λ tree next i. unindexed (name_of u) (is_place u).unindexed (record (table_at t 0) { tree = tree }) 0 next i (table_at t 0).uniques)
      (is_place u).unsequenced

  still_free : (us : List Place) → AllByRecursion (HaveNamesApart t) us → LeavesFree s (map name_of us) → LeavesFree new.now.schema (map name_of us)
  still_free [] h k = tt
  still_free (u ∷ us) h k = (spared u h.0 k.0, still_free us h.1 k.1)

  pub table_made : HoldsPartly new.now before (made ++ t ∷ []) left
  table_made = record {
    sound = w.sound;
    kept = still_kept before was.kept;
    stand = all_both (IsEmptyTable new.now) made (t ∷ []) (all_weaker (IsEmptyTable old.now) (IsEmptyTable new.now) still_empty made was.stand)
        (record { at = length s.tables; tree = next_tree s; stands = made_last; empty = g.empty; plainly = own_order }, tt);
    free = still_free left apart was.free.1;
  }

-- ---- the row of `desk` is written, and the other tables keep their rows

-- a table stands in one place
pub one_tree : {s : Schema} (t : Place) {at here : ℕ} (tree its : ℕ) → Stands s (name_of t) at (table_at t tree) → Stands s (name_of t) here (table_at t its)
    → tree ≡ its
one_tree t tree its stands other = grind (arith, same_some)

module _ (before : Place → Content) (l : Ledger) (old new : Database) (spot : Place → Spot)
    (stands : (t : Place) → Stands old.schema (name_of t) (spot t).at (table_at t (spot t).tree))
    (held : (t : Place) → AreRowsOf (before t) (old.trees (spot t).tree)) where
  one_place : (t : Place) → (spot t).tree ≡ (spot Desk).tree → t ≡ Desk
  one_place t same =
      let both : Some (table_at t (spot t).tree) ≡ Some (table_at Desk (spot Desk).tree) = sym (stands t).found
      ∙ ap (λ n. find (λ (x : Table). x.tree == n) old.schema.tables) same ∙ (stands Desk).found in
      cc (ap (option_map (λ (x : Table). place_named x.name)) both, is_named t, is_named Desk)

  pub desk_written : LeavesRows old new (spot Desk).tree → IsHeld l Desk (new.trees (spot Desk).tree)
      → ((t : Place) → t ≢ Desk → content_of l t ≡ before t) → are_sorted l.records.targets ≡ true
      → ComparesBytes old.schema (offer_table (spot Offers).tree) 1 → HoldsLedger new l
  desk_written left here elsewhere sorted keyed = record {
    sound = left.sound;
    spot = spot;
    stands = λ t. subst (λ s. Stands s (name_of t) (spot t).at (table_at t (spot t).tree)) (sym left.schema) (stands t);
    rows = λ t. elim (place_or_other t Desk) [
      | inl is ↦ subst (λ x. IsHeld l x (new.trees (spot x).tree)) (sym is) here
      | inr other ↦
          let kept = all-slice_get (λ (x : Table). HasNoForeignKey old.schema x.tree → x.tree ≢ (spot Desk).tree → new.trees x.tree ≡ old.trees x.tree)
          old.schema.tables (spot t).at (table_at t (spot t).tree) (stands t).got left.others (stands t).keyless (λ same. other (one_place t same)) in
          subst (λ c. AreRowsOf c (new.trees (spot t).tree)) (sym (elsewhere t other)) (subst (AreRowsOf (before t)) (sym kept) (held t))
    ];
    sorted = sorted;
    keyed = subst (λ s. ComparesBytes s (offer_table (spot Offers).tree) 1) (sym left.schema) keyed;
  }

-- ---- the row of `desk`

none_held : (rows : List Row) → rows ≡ [] → IsHeldBy rows []
none_held rows empty = subst (λ l. IsHeldBy l []) (sym empty) (record { order = []; rising = tt; same = IsPermutation-same [] [] refl })

pub no_rows : (c : Content) (rows : List Row) → rows ≡ [] → AreRowsOf (nothing c) rows
no_rows c rows empty = grind (arith, none_held)

module _ (approval : Bool) (old new : State) (text : List ℕ) (count : ℕ) (was : HoldsPartly old.now Nothing places [])
    (w : Writes old new None (Insert was.stand.0.at (Values desk_terms 5)) text (Int (if approval then pos 1 else pos 0) ∷ []) count) where
  abbrev here : Schema
  here = old.now.schema

  abbrev at_place : (t : Place) → IsEmptyTable old.now t
  at_place = each_place (IsEmptyTable old.now) was.stand

  abbrev spot_of : Place → Spot
  spot_of t = record { at = (at_place t).at; tree = (at_place t).tree }

  made : Inserted here (uncounted (desk_table was.stand.0.tree))
      (given_rows (uncounted (desk_table was.stand.0.tree)) (Int (if approval then pos 1 else pos 0) ∷ []) desk_terms 5) old.now new.now
  made = inserts here was.stand.0.at (desk_table was.stand.0.tree) desk_terms 5 was.stand.0.stands.got old new refl text
      (Int (if approval then pos 1 else pos 0) ∷ []) count w

  desk_rows : new.now.trees was.stand.0.tree ≡ desk_row newest approval ∷ []
  desk_rows = made.applies.rows ∙ rw (was.stand.0.empty) (grind (arith, cast_int, cast_null))

  pub desk_filled : HoldsRecords new.now (first_records approval)
  desk_filled =
      let empty = ledger_of (no_records approval) in
      subst (HoldsRecords new.now) (sym (made_records approval))
      (desk_written (λ t. nothing (content_of empty t)) empty old.now new.now spot_of (λ t. (at_place t).stands)
      (λ t. no_rows (content_of empty t) (old.now.trees (spot_of t).tree) (at_place t).empty)
      (record { schema = made.schema_is; sound = w.sound; others = made.applies.tables }) desk_rows (grind (arith, same_elsewhere)) refl
      (λ index there guarding on. grind (arith, first_key, eqb-true, and_parts, first_plain)))

-- ---- the tables that are found are the desk's

pub defined_as : (t : Place) (table : Table) → table_defined_by (create_text_of t) ≡ Ok table → table ≡ table_at t 0
defined_as t table h = let same : Ok table ≡ Ok (table_at t 0) = sym h ∙ (is_place t).defined in cc
