-- A database that holds the records of a desk, or uses no name of one, is refused for a failure alone.
use Rattle.desk_opening.proofs.Common.{◌≡◌, inl, inr, false, [], ◌∷◌, codes, pos, refl, ap, subst, ◌∙◌, arith, AllByRecursion, true≢false, both_ways, Int, Text}
use Rattle.desk_opening.proofs.Common.{Row, column, Database, has_rowid, LeavesFree, StandsSomewhere, Records, Desk, desk_table, desk_names, desk_row}
use Rattle.desk_opening.proofs.Common.{HoldsAt, HoldsPlace, version_number, Version, has_desk, one_numbered, flag, OpenFault, NotDesk, NewerVersion}
use Rattle.desk_opening.proofs.Common.{FindsFault, HasDeskTables, HasNoRow, HasRow, IsDeskRow, IsFailure, IsOtherRow, LacksPartOfDesk}
use Rattle.sqlite_value.specs.Order.{value_cmp}
use Rattle.desk_opening.proofs.VersionLemmas.{used_at}
use Rattle.desk_opening.proofs.Tables.{one_tree}
use Rattle.sqlite_keyed.proofs.ListLemmas.{all_weaker}

module _ (db : Database) (r : Records) (v : Version) (holds : HoldsAt v db r) where
  desk_held : HoldsPlace v db r (holds.spot Desk) Desk
  desk_held = has_desk v (λ t. HoldsPlace v db r (holds.spot t) t) holds.tables

  desk_rows : (table : StandsSomewhere db.schema (desk_table 0)) → db.trees table.tree ≡ desk_row v r.approval ∷ []
  desk_rows table = ap db.trees (one_tree Desk table.tree (holds.spot Desk).tree table.stands desk_held.0) ∙ desk_held.1

  -- the row of number 1 is a desk's
  row_says : (Says : Row → Type 0) → HasRow db Says → Says (Text (codes "fwdesk") ∷ Int (pos (version_number v)) ∷ Int (pos (flag r.approval)) ∷ [])
  row_says h0 h = grind (arith, desk_rows, column)

  is_no_other : ¬ HasRow db IsOtherRow
  is_no_other h = (row_says IsOtherRow h).0 (v, record { format = refl; version = refl })

  has_row : ¬ HasNoRow db
  unfolding value_cmp lib.Ieee.is_nan lib.Ieee.lt
  has_row h = true≢false (subst (AllByRecursion (λ row. has_rowid (pos 1) row ≡ false)) (desk_rows h.table) h.none).0

  table_stands : StandsSomewhere db.schema (desk_table 0)
  table_stands = let spot = holds.spot Desk in record { at = spot.at; tree = spot.tree; stands = desk_held.0 }

  pub has_tables : HasDeskTables v db.schema
  has_tables = grind (arith, all_weaker)

  -- the row names the version that it is held in
  pub same_version : (w : Version) → HasRow db (IsDeskRow w) → w ≡ v
  same_version w h = grind (arith, row_says, one_numbered)

  lacks_none : ¬ LacksPartOfDesk db
  lacks_none h0 = grind (arith, table_stands, has_row, same_version, has_tables)

  pub held_fails : (e : OpenFault) → FindsFault db e → IsFailure e
  held_fails NotDesk h = elim h.other [ inl other ↦ is_no_other other | inr lacks ↦ lacks_none lacks ]
  held_fails NewerVersion h = grind (arith, row_says)
  held_fails e h = tt

pub free_fails : (db : Database) → LeavesFree db.schema desk_names → (e : OpenFault) → FindsFault db e → IsFailure e
free_fails db free e h = grind (arith, both_ways, codes, used_at)
