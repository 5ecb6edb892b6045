-- What LIST_PLACES shows, whatever rows the table of members has.
use Rattle.desk_records.proofs.Common.{◌≡◌, ◌≤◌, ℕ, pos, true, false, List, [], ◌∷◌, length, filter, Option, Some, None, refl, Null, Int, Row, column, Database}
use Rattle.desk_records.proofs.Common.{arith, Shows, Query, output_cmp, is_lt, Has, passes, shown_in, shown_of, is_number, AreRead, Members, HoldsTables}
use Rattle.desk_records.proofs.Common.{Tables}
use Rattle.desk_records.specs.MemberRow.{IsPlacedRow, keeps_member_rules}
use Rattle.desk_records.specs.PlaceLists.{ListsPlaces, SaysMember, is_of}
use Rattle.desk_records.specs.declared.member_row.PlacedMember.{PlacedMember}
use Rattle.desk_records.proofs.AnyRows.{are_said, broken, count_shown, number_order, rise}
use Rattle.desk_records.proofs.NumberColumns.{is_number_in, number_is, small_is}
use Rattle.desk_records.proofs.RolloutMeaning.{of_rollout, placed_columns, places_query}
use Rattle.desk_records.proofs.TableColumns.{passes_integer}
use Rattle.desk_records.proofs.MeaningWords.{selects}

module _ (db : Database) (t : Tables) (holds : HoldsTables db t) (names : List (List ℕ)) (r : ℕ) (good : is_number r ≡ true) (shown : List Row)
    (shows : Shows (selects (places_query (holds.spot Members).tree) names) db (Int (pos r) ∷ []) shown) where
  abbrev q : Query
  q = places_query (holds.spot Members).tree

  abbrev params : Row
  params = Int (pos r) ∷ []

  judged : (row : Row) → Has (t Members) row → passes of_rollout params row ≡ is_of r row
  judged row among = passes_integer db t holds Members row among 0 (record { c = _; there = refl; kind_is = refl; strict = refl; filled = refl; apart = refl })
      r []

  means : (row : Row) → Has (t Members) row → is_of r row ≡ true → (m : PlacedMember) → IsPlacedRow (shown_of placed_columns params row) m → SaysMember r row m
  means row among of m reads = grind (arith, number_is, column, is_number_in)

  kept_by : (row : Row) → Has (t Members) row → (m : PlacedMember) → SaysMember r row m → keeps_member_rules (shown_of placed_columns params row) ≡ true
  kept_by row among m says = rw (says.word, says.place_is) refl

  in_order : (low high : Row) (m n : PlacedMember) → SaysMember r low m → SaysMember r high n
      → is_lt (output_cmp q (shown_in q params high) (shown_in q params low)) ≡ false → m.place ≤ n.place
  in_order low high m n says_m says_n up = number_order (holds.spot Members).tree of_rollout placed_columns q.limit q.offset params 2 low high m.place n.place
      (small_is _ _ says_m.place_is) (small_is _ _ says_n.place_is) up

  pub lists_places : (found : Option (List PlacedMember)) → AreRead IsPlacedRow keeps_member_rules shown found → ListsPlaces (t Members) r found
  lists_places (Some members) reads = record {
    said = are_said (holds.spot Members).tree of_rollout placed_columns q.order q.limit q.offset params db.trees (t Members) (holds.rows Members) (λ xs. refl)
        (is_of r) judged shown (shows.answer Null) IsPlacedRow (SaysMember r) means members reads;
    rise = rise (holds.spot Members).tree of_rollout placed_columns q.order q.limit q.offset params db.trees (t Members) (holds.rows Members) (λ xs. refl)
        (is_of r) judged shown (shows.answer Null) IsPlacedRow (SaysMember r) means members reads (λ (m : PlacedMember). m.place) in_order;
  }
  lists_places None fails = broken (holds.spot Members).tree of_rollout placed_columns q.order q.limit q.offset params db.trees (t Members) (holds.rows Members)
      (λ xs. refl) (is_of r) judged shown (shows.answer Null) (SaysMember r) keeps_member_rules kept_by fails

  -- as many as the rollout has rows
  pub counts_places : length shown ≡ length (filter (is_of r) (t Members))
  counts_places = count_shown (holds.spot Members).tree of_rollout placed_columns q.order q.limit q.offset params db.trees (t Members) (holds.rows Members)
      (λ xs. refl) (is_of r) judged shown (shows.answer Null)
