-- What GET_PIECE shows, whatever rows the table of pieces has.
use Rattle.desk_records.proofs.Common.{◌≡◌, ℕ, pos, true, List, [], ◌∷◌, refl, AllZip, and_parts, Null, Int, Row, column, Database, Query, col, Has, passes}
use Rattle.desk_records.proofs.Common.{arith, Shows, simple, Bytes, ArePieces, lies_at, Pieces, IsPiece, HoldsTables, Tables}
use Rattle.desk_records.specs.Columns.{StoredBytes}
use Rattle.desk_records.proofs.AnyRows.{are_said}
use Rattle.desk_records.proofs.ArtifactMeaning.{at_piece}
use Rattle.desk_records.proofs.NumberColumns.{number_is}
use Rattle.desk_records.proofs.TableColumns.{passes_part}
use Rattle.desk_records.proofs.MeaningWords.{selects}

module _ (db : Database) (t : Tables) (holds : HoldsTables db t) (names : List (List ℕ)) where
  module _ (number place : ℕ) (shown : List Row)
      (shows : Shows (selects (simple (holds.spot Pieces).tree at_piece (col 1 3 ∷ [])) names) db (Int (pos number) ∷ Int (pos place) ∷ []) shown) where
    abbrev its : Query
    its = simple (holds.spot Pieces).tree at_piece (col 1 3 ∷ [])

    judged : (row : Row) → Has (t Pieces) row → passes at_piece (Int (pos number) ∷ Int (pos place) ∷ []) row ≡ lies_at number place row
    judged row among =
        passes_part db t holds Pieces row among (record { c = _; there = refl; kind_is = refl; strict = refl; filled = refl; apart = refl })
        (record { c = _; there = refl; kind_is = refl; strict = refl; filled = refl; apart = refl }) number place

    means : (row : Row) → Has (t Pieces) row → lies_at number place row ≡ true → (bytes : Bytes) → column row 3 ≡ StoredBytes bytes
        → IsPiece row number place bytes
    means row among lies bytes is = grind (arith, and_parts, number_is, column)

    pub lists_pieces : (pieces : List Bytes) → AllZip (λ row bytes. column row 0 ≡ StoredBytes bytes) shown pieces → ArePieces (t Pieces) number place pieces
    lists_pieces pieces reads =
        are_said (holds.spot Pieces).tree at_piece (col 1 3 ∷ []) its.order its.limit its.offset (Int (pos number) ∷ Int (pos place) ∷ []) db.trees (t Pieces)
        (holds.rows Pieces) (λ xs. refl) (lies_at number place) judged shown (shows.answer Null)
        (λ row bytes. column row 0 ≡ StoredBytes bytes) (λ row bytes. IsPiece row number place bytes) means pieces reads
