-- What is read of the history of an action, where a ledger is held.
use Rattle.desk_records.proofs.Common.{◌≡◌, ◌≤◌, ℕ, pos, false, List, [], ◌∷◌, map, take, drop, filter, refl, sym, ap, ◌∙◌, arith, nat_tests, take-map, Shows}
use Rattle.desk_records.proofs.Common.{drop-map, Null, Int, Row, column, Database, Term, col, map-map, rows_from, on_content, passes, shown_of, part_row}
use Rattle.desk_records.proofs.Common.{item_numbered, entries_of, history_of, told_entry, HoldsLedger, Ledger, Feedbacks, and-true}
use Rattle.desk_records.proofs.ActionMeaning.{entry_columns, of_action}
use Rattle.desk_records.proofs.Comparisons.{numbers_equal}
use Rattle.desk_records.proofs.PartReads.{all_shown, reads_parts}
use Rattle.desk_records.proofs.MeaningWords.{in_order, selects}

paged : {A B : Type 0} (f : A → B) (limit offset : ℕ) (xs : List A) → take limit (drop offset (map f xs)) ≡ map f (take limit (drop offset xs))
paged f limit offset xs = ap (take limit) (drop-map f offset xs) ∙ take-map f limit (drop offset xs)

-- kind, word and details, before the sequence
abbrev pub told_part : Row → Row
told_part row = column row 0 ∷ column row 1 ∷ column row 2 ∷ []

abbrev told_columns : List Term
told_columns = col 1 3 ∷ col 1 4 ∷ col 1 5 ∷ []

module _ (db : Database) (l : Ledger) (holds : HoldsLedger db l) (names : List (List ℕ)) where
  -- a page of it in its order
  pub lists_entries : (number limit offset : ℕ) → 1 ≤ number → (rows : List Row)
      → Shows (selects (in_order 2 false of_action entry_columns (col 0 1) (col 0 2) (holds.spot Feedbacks).tree) names) db
      (Int (pos number) ∷ Int (pos limit) ∷ Int (pos offset) ∷ []) rows
      → map told_part rows ≡ map told_entry (take limit (drop offset (history_of (item_numbered l.records.actions number))))
  lists_entries number limit offset least rows shows =
      let params = Int (pos number) ∷ Int (pos limit) ∷ Int (pos offset) ∷ [] in
      let all = history_of (item_numbered l.records.actions number) in
      let its = filter (on_content (passes of_action params)) (rows_from (part_row told_entry number) 1 all) in
      let shown = map (on_content (shown_of entry_columns params)) its in
      ap (map told_part) (reads_parts told_entry entries_of (holds.spot Feedbacks).tree of_action entry_columns (col 0 1) (col 0 2) params false number least
      (λ id x. refl) (λ id x. refl) (λ n place e apart. and-true _ ∙ numbers_equal n number ∙ apart)
      db.trees l.records.actions (holds.rows Feedbacks) rows (shows.answer Null))
      ∙ sym (paged told_part limit offset shown)
      ∙ ap (λ more. take limit (drop offset more)) (map-map told_part (on_content (shown_of entry_columns params)) its
      ∙ all_shown told_entry told_entry number of_action told_columns params (λ place e. grind (arith, and-true, numbers_equal, nat_tests))
      (λ place e. refl) 1 all)
      ∙ paged told_entry limit offset all
