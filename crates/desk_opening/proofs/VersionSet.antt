-- What the UPDATE of the version makes of the tables of an older version, beside later ones with no row.
use Rattle.desk_opening.proofs.Common.{◌≡◌, ◌≢◌, ℕ, pos, codes, List, [], ◌∷◌, map, Bool, None, refl, sym, subst, ◌∙◌, arith, AllByRecursion, Null, Int}
use Rattle.desk_opening.proofs.Common.{Text, Row, Database, Update, State, Writes, Stands, ComparesBytes, cast_int, cast_null, Records, AreRowsOf}
use Rattle.desk_opening.proofs.Common.{HoldsLedger, Spot, content_at, content_of, desk_row, ledger_of, HoldsPlace, flag, Place, Desk, Offers, desk_table}
use Rattle.desk_opening.proofs.Common.{name_of, offer_table, table_at, later_than, newest, version_number, places_at, Version, each_place, set_version_query}
use Rattle.desk_opening.proofs.Common.{version_values, is_equal, same_elsewhere, bare_ledger, HoldsPartly, IsEmptyTable, Older, Term, lit, col, and-true}
use Rattle.desk_opening.proofs.RowLemmas.{judged}
use Rattle.sqlite_sql.specs.Ops.{binary}
use Rattle.sql_calls.proofs.NumberedTables.{sets_at}
use Rattle.sqlite_keyed.proofs.ListLemmas.{all_both}
use Rattle.sql_calls.proofs.Updates.{Updated, updates}
use Rattle.desk_opening.proofs.EachVersion.{at_all, has_offers, later_held, older_held, nothing}
use Rattle.desk_opening.proofs.Tables.{desk_written, no_rows, one_tree}

abbrev first_desk : List Term
first_desk = is_equal (col 1 0) (lit (Int (pos 1))) ∷ []

-- the row, by its number, of a version and an approval
abbrev numbered_row : ℕ → ℕ × Bool → Row
numbered_row n it = Int (pos n) ∷ Null ∷ Text (codes "fwdesk") ∷ Int (pos it.0) ∷ Int (pos (flag it.1)) ∷ []

module _ (v : Version) (r : Records) where
  -- a table that stands and has what is told of the records
  abbrev pub Has : Database → Place → Type 0
  Has db t = (spot : Spot) × Stands db.schema (name_of t) spot.at (table_at t spot.tree) × AreRowsOf (content_at v (bare_ledger v r) t) (db.trees spot.tree)

  pub each_same : (spot : Place → Spot) (db : Database) (ts : List Place) → map (content_at v (ledger_of r)) ts ≡ map (content_at v (bare_ledger v r)) ts
      → AllByRecursion (λ t. HoldsPlace v db r (spot t) t) ts → AllByRecursion (Has db) ts
  each_same spot db [] same held = tt
  each_same spot db (t ∷ ts) same held = grind (arith, each_same spot db ts)

  pub each_empty : (db : Database) (ts : List Place) → AllByRecursion (λ t. content_at v (bare_ledger v r) t ≡ nothing (content_at v (bare_ledger v r) t)) ts
      → AllByRecursion (IsEmptyTable db) ts → AllByRecursion (Has db) ts
  each_empty db = all_both (λ t. content_at v (bare_ledger v r) t ≡ nothing (content_at v (bare_ledger v r) t)) (IsEmptyTable db) (Has db) (λ t none e. (
    record { at = e.at; tree = e.tree },
    e.stands,
    subst (λ c. AreRowsOf c (db.trees e.tree)) (sym none) (no_rows (content_at v (bare_ledger v r) t) (db.trees e.tree) e.empty),
  ))

  -- what versions say differs in the row of `desk` alone
  newest_content : (t : Place) → t ≢ Desk → content_of (bare_ledger v r) t ≡ content_at v (bare_ledger v r) t
  newest_content = grind (arith, same_elsewhere)

  module _ (db : Database) (was : HoldsPartly db (Older v r) (later_than v) []) where
    abbrev pub each : (t : Place) → Has db t
    each = each_place (Has db)
        (at_all v (Has db) (each_same was.kept.spot db (places_at v) (older_held v r) was.kept.tables)
        (each_empty db (later_than v) (later_held v r was.kept.tellable) was.stand))

    abbrev pub spot_in : Place → Spot
    spot_in t = (each t).0

    pub stands_in : (t : Place) → Stands db.schema (name_of t) (spot_in t).at (table_at t (spot_in t).tree)
    stands_in t = (each t).1

    held_in : (t : Place) → AreRowsOf (content_at v (bare_ledger v r) t) (db.trees (spot_in t).tree)
    held_in t = (each t).2

  module _ (old new : State) (text : List ℕ) (count : ℕ) (was : HoldsPartly old.now (Older v r) (later_than v) []) where
    abbrev spot_of : Place → Spot
    spot_of = spot_in old.now was

    abbrev stand_at : (t : Place) → Stands old.now.schema (name_of t) (spot_of t).at (table_at t (spot_of t).tree)
    stand_at = stands_in old.now was

    module _ (w : Writes old new None (Update (spot_of Desk).at (record { lets = []; body = set_version_query (spot_of Desk).tree })) text [] count) where
      abbrev tree : ℕ
      tree = (spot_of Desk).tree

      made : Updated old.now.schema (desk_table tree) (record { lets = []; body = set_version_query tree }) [] old.now new.now
      made = updates old.now.schema (spot_of Desk).at (desk_table tree) (record { lets = []; body = set_version_query tree }) (stand_at Desk).got
          (stand_at Desk).keyless old new refl text [] count w

      version_set : new.now.trees tree ≡ desk_row newest r.approval ∷ []
      unfolding binary
      version_set = sets_at numbered_row (λ n x. refl) old.now.schema (desk_table tree) first_desk version_values [] old.now new.now 0
          ((version_number v, r.approval) ∷ []) (version_number v, r.approval) (version_number newest, r.approval) refl (omega arith)
          (λ m it. and-true _ ∙ judged _)
          (rw (cast_null, cast_int (version_number newest), cast_int (flag r.approval)) refl) (held_in old.now was Desk) made

      pub desk_renewed : HoldsLedger new.now (bare_ledger v r)
      desk_renewed =
          let offers = has_offers v (λ t. HoldsPlace v old.now r (was.kept.spot t) t) was.kept.tables in
          desk_written (content_at v (bare_ledger v r)) (bare_ledger v r) old.now new.now spot_of stand_at (held_in old.now was)
          (record { schema = made.schema_is; sound = w.sound; others = made.applies.tables }) version_set newest_content was.kept.sorted
          (subst (λ n. ComparesBytes old.now.schema (offer_table n) 1)
          (one_tree Offers (was.kept.spot Offers).tree (spot_of Offers).tree offers.0 (stand_at Offers)) was.kept.keyed)
