-- What the tables of artifacts and pieces have where a ledger is held.
use Rattle.desk_records.proofs.Common.{◌≤◌, ℕ, ◌∷◌, Option, Some, None, option_map, refl, sym, subst, AllZip, option_to_list, Null, Database, Bytes, ArePieces}
use Rattle.desk_records.proofs.Common.{lies_at, piece_numbered, piece_row, piece_rows_from, HoldsLedger, Ledger, Pieces, IsPiece, HoldsTables, Tables}
use Rattle.desk_records.proofs.ArtifactRecords.{its_piece}
use Rattle.desk_records.proofs.HeldTables.{held_rows, held_said}

module _ (db : Database) (l : Ledger) (held : HoldsLedger db l) (t : Tables) (holds : HoldsTables db t) where
  -- the piece at a place, or none
  pub held_pieces : (number place : ℕ) → 1 ≤ number → ArePieces (t Pieces) number place (option_to_list (piece_numbered l.records.artifacts number place))
  held_pieces number place least =
      held_said (lies_at number place) (λ id x. refl) (λ row bytes. IsPiece row number place bytes)
      (λ id x bytes is. record { number_is = is.number_is; sequence_is = is.sequence_is; bytes_are = is.bytes_are }) (t Pieces)
      (piece_rows_from 1 l.records.artifacts) (option_to_list (piece_numbered l.records.artifacts number place)) (held_rows db l held t holds Pieces)
      (subst (λ rows. AllZip (λ x bytes. IsPiece (Null ∷ x) number place bytes) rows (option_to_list (piece_numbered l.records.artifacts number place)))
      (sym (its_piece l.records.artifacts number place _ (λ n k bytes. refl) least)) (each (piece_numbered l.records.artifacts number place)))
    where
      each : (piece : Option Bytes) → AllZip (λ x bytes. IsPiece (Null ∷ x) number place bytes) (option_to_list (option_map (piece_row number place) piece))
          (option_to_list piece)
      each None = tt
      each (Some bytes) = (record { number_is = refl; sequence_is = refl; bytes_are = refl }, tt)
