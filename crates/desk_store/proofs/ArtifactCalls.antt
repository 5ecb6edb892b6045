-- The call on pieces of artifacts.
use Rattle.desk_store.proofs.Common.{◌≡◌, ◌≤◌, ℕ, pos, [], ◌∷◌, Option, Some, Ok, Result, IfOk, option_map, Vec, vec_items, refl, ap, Global, Int, Blob, Row}
use Rattle.desk_store.proofs.Common.{column, State, Fault, TakesFirst, Finds, GET_PIECE, HoldsLedger, ledger_of, piece_numbered, StoredBytes, get_piece_is}
use Rattle.desk_store.proofs.Common.{IsReadAs}
use Rattle.desk_records.proofs.ArtifactRecords.{gets_piece}
use Rattle.desk_records.proofs.KeptColumns.{same_blob}
use Rattle.desk_store.proofs.ReadLemmas.{first_tells, one_read}
use Rattle.desk_store.proofs.Known.{in_ledgers, known}

abbrev pub IsPieceRow : Row → Vec ℕ Global → Type 0
IsPieceRow row bytes = column row 0 ≡ StoredBytes bytes.items

pub piece_read : (number sequence : ℕ) → 1 ≤ number → {old new : State} {row : Option Row}
    → TakesFirst old new GET_PIECE.now (Int (pos number) ∷ Int (pos sequence) ∷ []) (Ok row) → (out : Result (Option (Vec ℕ Global)) Fault)
    → IfOk out (λ found. IsReadAs IsPieceRow found row)
    → Finds HoldsLedger ledger_of old new out (λ r found. option_map vec_items found ≡ piece_numbered r.artifacts number sequence)
piece_read number sequence least {row = row} = first_tells (in_ledgers (known get_piece_is)) (λ db l holds at given. tt)
    (λ db now holds shown found read. one_read IsPieceRow (λ bytes. Blob bytes ∷ []) (λ found bytes. option_map vec_items found ≡ bytes) refl
    (λ a b h. ap Some (same_blob b a.items h)) found (piece_numbered now.artifacts number sequence) row read
    (gets_piece db now holds [] number sequence least row shown))
