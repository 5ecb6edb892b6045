-- What the query of the row of `desk` reads.
use Rattle.desk_opening.proofs.Common.{◌≡◌, ◌≢◌, ◌<◌, ◌⊎◌, inl, inr, ℕ, zero, suc, length, pos, Bool, false, List, [], ◌∷◌, filter, Option}
use Rattle.desk_opening.proofs.Common.{Some, None, Ok, Err, Result, refl, sym, ap, subst, ◌∙◌, arith, Value, Null, Int, Row, column}
use Rattle.desk_opening.proofs.Common.{has_rowid, cases_Bool, Term, col, lit, Database, Schema, State, HasCleanDisk, StandsSomewhere}
use Rattle.desk_opening.proofs.Common.{TakesFirst, first_shown, first_unchanged, none_shown, shows_as, passes, shown_of, simple_rows, desk_table, GET_DESK}
use Rattle.desk_opening.proofs.Common.{is_equal, get_desk_is, OpenFault, NotDesk, NewerVersion, Version, HasDeskAt, HasNoRow, HasRow, IsWholeAt}
use Rattle.desk_opening.proofs.Common.{LacksAt, LacksTables, TellsOfRow, TellsVersion, IsDeskRow, IsNewerRow, IsOtherRow, and-true, asked_at}
use Rattle.sql_calls.proofs.Leavings.{first_asked_well}
use Rattle.sql_calls.specs.declared.fault.Fault.{Fault}
use Rattle.sql_calls.specs.declared.fault.Fault.TheVariants.{Broken}
use Rattle.desk_records.proofs.Meaning.{get_desk_takes}
use Rattle.sqlite_value.specs.Order.{value_cmp}
use Rattle.sqlite_rules.proofs.ListLemmas.{all_from, has_filtered, has_kept}
use Rattle.std.proofs.lemmas.List.Sorted.{IsPermutation-sym}
use Rattle.sqlite_sql.specs.Ops.{binary, from_truth, is_true}
use Rattle.desk_records.proofs.Membership.{has_mapped, has_permuted, map_has}

pub judged : (b : Bool) → is_true (from_truth (Some b)) ≡ b
judged b = grind arith

-- WHERE id = 1
passes_number : (row : Row) → passes (is_equal (col 1 0) (lit (Int (pos 1))) ∷ []) [] row ≡ has_rowid (pos 1) row
unfolding binary value_cmp
passes_number row = grind (arith, and-true, judged)

abbrev columns : List Term
columns = col 1 2 ∷ col 1 3 ∷ col 1 4 ∷ []

abbrev is_first : Row → Bool
is_first = passes (is_equal (col 1 0) (lit (Int (pos 1))) ∷ []) []

module _ (b c : State) (row : Row) (second : TakesFirst b c GET_DESK.now [] (Ok (Some row))) (clean : HasCleanDisk c) where
  reads_row : StandsSomewhere b.now.schema (desk_table 0) → HasRow b.now (λ shown. row ≡ shown)
  reads_row at =
      let means = (asked_at get_desk_is).at b.now.schema at.at at.tree at.stands in
      let shown = first_shown GET_DESK.now _ [] b c means (λ _ _. tt) row (second.answers clean) in
      let answer = (shows_as GET_DESK.now _ [] b c means (row ∷ shown.0) shown.1).answer in
      let same = simple_rows at.tree (is_equal (col 1 0) (lit (Int (pos 1))) ∷ []) columns [] b.now.trees (row ∷ shown.0) (answer Null) in
      let it = has_mapped (shown_of columns []) (filter is_first (b.now.trees at.tree)) row (has_permuted _ _ row (IsPermutation-sym _ _ same) (inl refl)) in
      let kept = has_filtered is_first (b.now.trees at.tree) it.0 it.1 in
      record { table = at; row = it.0; among = kept.0; number = sym (passes_number it.0) ∙ kept.1; says = it.2 }

  -- a read leaves the schema
  same_schema : StandsSomewhere b.now.schema (desk_table 0) → c.now.schema ≡ b.now.schema
  same_schema at =
      let means = (asked_at get_desk_is).at b.now.schema at.at at.tree at.stands in
      ap (λ (d : Database). d.schema) (first_unchanged GET_DESK.now _ [] b c means row (second.answers clean)).0.now_is

-- ---- no row

module _ (b c : State) (second : TakesFirst b c GET_DESK.now [] (Ok None)) (clean : HasCleanDisk c) where
  reads_none : StandsSomewhere b.now.schema (desk_table 0) → HasNoRow b.now
  reads_none at =
      let means = (asked_at get_desk_is).at b.now.schema at.at at.tree at.stands in
      let shown = none_shown GET_DESK.now _ [] b c means (second.answers clean) in
      let answer = (shows_as GET_DESK.now _ [] b c means [] shown).answer in
      let same = simple_rows at.tree (is_equal (col 1 0) (lit (Int (pos 1))) ∷ []) columns [] b.now.trees [] (answer Null) in
      record {
        table = at;
        none = all_from (λ row. has_rowid (pos 1) row ≡ false) (b.now.trees at.tree) (λ row among. elim (cases_Bool (is_first row)) [
          | inl is ↦ absurd (has_permuted _ [] (shown_of columns [] row) same (map_has (shown_of columns []) _ row (has_kept is_first _ row among is)))
          | inr other ↦ sym (passes_number row) ∙ other
        ]);
      }

-- ---- what the answers tell of it

module _ (db : Database) (row : Row) (h : HasRow db (λ shown. row ≡ shown)) where
  says : (Says : Row → Type 0) → Says row → HasRow db Says
  says Says it = record { table = h.table; row = h.row; among = h.among; number = h.number; says = subst Says h.says it }

  tells_row : (out : Result Version OpenFault) → TellsOfRow (IsWholeAt row db.schema) (λ Says. Says row) (LacksAt row db.schema) out
      → TellsOfRow (HasDeskAt db) (HasRow db) (HasNoRow db ⊎ LacksTables db) out
  tells_row (Ok v) told = record { tables = told.tables; row = says (IsDeskRow v) told.row_is }
  tells_row (Err NotDesk) (inl told) = inl (says IsOtherRow told)
  tells_row (Err NotDesk) (inr it) = inr (inr (record { version = it.version; row = says (IsDeskRow it.version) it.row_is; lacks = it.lacks }))
  tells_row (Err NewerVersion) told = says IsNewerRow told
  tells_row (Err e) told = tt

-- of a row, and of the schema behind the read
pub tells_seen : (b c : State) (found : Option Row) (row : Row) (schema : Schema) (out : Result Version OpenFault) → found ≡ Some row
    → TakesFirst b c GET_DESK.now [] (Ok found) → schema ≡ c.now.schema
    → TellsOfRow (IsWholeAt row schema) (λ Says. Says row) (LacksAt row schema) out → HasCleanDisk c → TellsVersion b.now out
tells_seen b c found row schema out is took here told clean table = grind (arith, tells_row, reads_row, same_schema)

pub tells_none : (b c : State) (found : Option Row) → found ≡ None → TakesFirst b c GET_DESK.now [] (Ok found) → HasCleanDisk c
    → TellsVersion b.now (Err NotDesk)
tells_none b c found is took clean table = inr (inl (reads_none b c (subst (λ o. TakesFirst b c GET_DESK.now [] (Ok o)) is took) clean table))

-- a query that the table doesn't answer: a desk's does
pub tells_other : (b c : State) (fault : Fault) → fault ≡ Broken → TakesFirst b c GET_DESK.now [] (Err fault) → HasCleanDisk c
    → TellsVersion b.now (Err NotDesk)
tells_other b c fault is took clean table =
    let means = (asked_at get_desk_is).at b.now.schema table.at table.tree table.stands in let failed = took.answers clean in
    absurd (first_asked_well GET_DESK.now _ [] b c means refl get_desk_takes failed.0 failed.2 (sym failed.1 ∙ is))

-- ---- what a row says

-- a value that isn't NULL is within the row
pub within_row : (row : Row) (at : ℕ) (v : Value) → column row at ≡ v → v ≢ Null → at < length row
within_row [] at v is some = absurd (some (sym is))
within_row (x ∷ row) zero v is some = omega arith
within_row (x ∷ row) (suc at) v is some = let more = within_row row at v is some in omega (arith, more)
