-- What LIST_ACTIONS shows where it is asked for all of a rollout, whatever rows the table of actions has.
use Rattle.desk_records.proofs.Common.{◌≡◌, ℕ, pos, negsuc, List, [], ◌∷◌, filter, filter_map, length, refl, ap, ◌∙◌, Null, Int, Row, Database, Query, Has}
use Rattle.desk_records.proofs.Common.{Shows, passes, has_at, Actions, HoldsTables, Tables, false, col}
use Rattle.desk_records.specs.CheckedRows.{counted_of}
use Rattle.desk_records.specs.CountedActions.{CountsAgree, passes_if_there}
use Rattle.desk_records.specs.declared.checked_rows.CountedAction.{CountedAction}
use Rattle.desk_records.proofs.ActionMeaning.{listed_columns, of_rollout}
use Rattle.desk_records.proofs.AnyRows.{tested_shown}
use Rattle.desk_records.proofs.Membership.{picked_pass}
use Rattle.desk_records.proofs.TableColumns.{passes_integer}
use Rattle.desk_records.proofs.MeaningWords.{in_order, selects}

module _ (db : Database) (t : Tables) (holds : HoldsTables db t) (names : List (List ℕ)) (r : ℕ) (shown : List Row)
    (shows : Shows (selects (in_order 0 false of_rollout listed_columns (col 0 1) (col 0 2) (holds.spot Actions).tree) names) db
    (Int (pos r) ∷ Int (negsuc 0) ∷ Int (pos 0) ∷ []) shown) where
  abbrev q : Query
  q = in_order 0 false of_rollout listed_columns (col 0 1) (col 0 2) (holds.spot Actions).tree

  abbrev params : Row
  params = Int (pos r) ∷ Int (negsuc 0) ∷ Int (pos 0) ∷ []

  judged : (row : Row) → Has (t Actions) row → passes of_rollout params row ≡ has_at 2 r row
  judged row among = passes_integer db t holds Actions row among 1 (record { c = _; there = refl; kind_is = refl; strict = refl; filled = refl; apart = refl })
      r (Int (negsuc 0) ∷ Int (pos 0) ∷ [])

  pub counts_actions : (found : List CountedAction) → found ≡ filter_map counted_of shown → CountsAgree (t Actions) r found
  counts_actions found is = record {
    by = λ test.
        ap (λ l. length (filter test l)) is
        ∙ picked_pass counted_of test (λ row. passes_if_there test (counted_of row)) (λ row a its. ap (passes_if_there test) its)
        (λ row none. ap (passes_if_there test) none) shown
        ∙ tested_shown (holds.spot Actions).tree of_rollout listed_columns q.order q.limit q.offset params db.trees (t Actions) (holds.rows Actions)
        (λ xs. refl) (has_at 2 r) judged shown (shows.answer Null) (λ row. passes_if_there test (counted_of row));
  }
