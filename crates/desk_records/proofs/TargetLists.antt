-- The statements on all targets, and on those from an id to another, in records.
use Rattle.desk_records.proofs.Common.{arith, ◌≡◌, ◌∷◌, ◌&&◌, ℕ, Bool, false, not, List, [], map, filter, refl, subst, sym, ap, ◌∙◌, and-true, map-map, Less}
use Rattle.desk_records.proofs.Common.{Null, Term, shown_of}
use Rattle.desk_records.proofs.Common.{Text, Row, Database, by_column, filter_all, all_of, on_content, passes, reads_risen, Rise, bytes_below, Bytes, Records}
use Rattle.desk_records.proofs.Common.{Target, Targets, target_row, HoldsRecords}
use Rattle.sqlite.specs.Effect.{Reads as Shows}
use Rattle.sqlite_keyed.proofs.ListLemmas.{ascending-filter}
use Rattle.sql_calls.proofs.KeyedRows.{IsBlind}
use Rattle.desk_records.specs.Targets.{ids_of, is_between, targets_between}
use Rattle.desk_records.proofs.MeaningWords.{in_order, no_limit, no_offset, selects}
use Rattle.desk_records.proofs.Comparisons.{words_at_least, words_at_most}
use Rattle.desk_records.proofs.TargetMeaning.{between_ids, listed_target_columns, target_id_columns}
use Rattle.desk_records.proofs.TargetRecords.{ids_sorted, listed_row}
use Rattle.desk_records.proofs.Targets.{keys_rise}

-- targets in byte order of their ids have their rows in that order
rows_rise : (db : Database) (now : Records) → HoldsRecords db now → Rise 0 (map target_row now.targets)
rows_rise db now holds = keys_rise (λ (t : Target). t.id) target_row 0 (λ a b. refl) now.targets (ids_sorted db now holds)

module _ (first last : Bytes) where
  abbrev is_within : Row → Bool
  is_within = on_content (passes between_ids (Text first ∷ Text last ∷ []))

  names_target : (t : Target) → is_within (target_row t) ≡ is_between first last t
  names_target t =
      rw (words_at_least t.id first, words_at_most t.id last) (ap (λ b. not (bytes_below t.id first) && b) (and-true (not (bytes_below last t.id))))

  rows_between : (ts : List Target) → filter is_within (map target_row ts) ≡ map target_row (filter (is_between first last) ts)
  rows_between [] = refl
  rows_between (t ∷ ts) = grind (arith, rows_between ts, names_target t)

module _ (db : Database) (now : Records) (holds : HoldsRecords db now) (names : List (List ℕ)) where
  -- what these columns show of all targets, in byte order of their ids
  lists_all : (columns : List Term) → IsBlind (shown_of columns []) → (rows : List Row)
      → Shows (selects (in_order 1 false [] columns no_limit no_offset (holds.spot Targets).tree) names) db [] rows
      → rows ≡ map (λ (t : Target). on_content (shown_of columns []) (target_row t)) now.targets
  lists_all columns fair rows shows =
      let ts = now.targets in
      let all : filter (on_content (passes [] [])) (map target_row ts) ≡ map target_row ts = filter_all _ _ (all_of _ (λ x. refl) _) in
      let rise = subst (Rise 0) (sym all) (rows_rise db now holds) in
      reads_risen (holds.spot Targets).tree [] [] (λ i x. refl) 0 columns fair no_limit no_offset db.trees (map target_row ts) (holds.rows Targets) rise
      rows (shows.answer Null) ∙ grind (arith, all, map-map)

  -- their ids and names
  pub lists_all_targets : (rows : List Row)
      → Shows (selects (in_order 1 false [] listed_target_columns no_limit no_offset (holds.spot Targets).tree) names) db [] rows
      → rows ≡ map listed_row now.targets
  lists_all_targets = lists_all listed_target_columns (λ i x. refl)

  -- their ids alone
  pub lists_target_ids : (rows : List Row)
      → Shows (selects (in_order 1 false [] target_id_columns no_limit no_offset (holds.spot Targets).tree) names) db [] rows
      → rows ≡ map (λ (id : Bytes). Text id ∷ []) (ids_of now.targets)
  lists_target_ids rows shows =
      lists_all target_id_columns (λ i x. refl) rows shows ∙ sym (map-map (λ (id : Bytes). Text id ∷ []) (λ (t : Target). t.id) now.targets)

  -- the targets from an id to another
  pub lists_targets_between : (first last : Bytes) (rows : List Row)
      → Shows (selects (in_order 1 false between_ids listed_target_columns no_limit no_offset (holds.spot Targets).tree) names) db
      (Text first ∷ Text last ∷ []) rows → rows ≡ map listed_row (targets_between first last now)
  lists_targets_between first last rows shows =
      let ts = now.targets in
      let params = Text first ∷ Text last ∷ [] in
      let rise = ascending-filter (λ x y. by_column 0 x y ≡ Less) (is_within first last) (map target_row ts) (rows_rise db now holds) in
      reads_risen (holds.spot Targets).tree between_ids params (λ i x. refl) 0 listed_target_columns (λ i x. refl) no_limit no_offset db.trees
      (map target_row ts) (holds.rows Targets) rise rows (shows.answer Null) ∙ grind (arith, rows_between first last ts, map-map)
