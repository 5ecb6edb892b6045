-- The statements on artifacts and their pieces, in records.
use Rattle.desk_records.proofs.Common.{◌≡◌, ◌≤◌, ◌++◌, ℕ, ◌+◌, ◌-◌, pos, List, [], ◌∷◌, map, filter, length, Bool, Option, option_map, refl, sym, subst, ◌∙◌}
use Rattle.desk_records.proofs.Common.{Shows, arith, nat_eq, list_any, is_some, option_to_list, Null, Int, Blob, Row, col, Database, false, rows_from}
use Rattle.desk_records.proofs.Common.{ShowsFirst, simple, passes, shown_of, cast_int, cast_null, numbered_in_order, Bytes, same_bytes, item_numbered}
use Rattle.desk_records.proofs.Common.{artifacts_shown, ArtifactRecord, IsLastRow, told_of, artifact_row, piece_row, pieces_in, piece_rows_from}
use Rattle.desk_records.proofs.Common.{is_same_artifact, file_of, shown_rows, pieces_of_artifact, piece_numbered, artifact_filed, and_piece, and-true, None}
use Rattle.desk_records.proofs.Common.{Insert, Values, State, Writes, Records, Artifacts, Pieces, with_artifact, AddsPiece, HoldsRecords, ledger_of}
use Rattle.desk_records.proofs.LedgerLists.{last_is_more}
use Rattle.desk_records.proofs.MeaningWords.{at_key, greatest_number, in_order, no_limit, no_offset, selects}
use Rattle.desk_records.proofs.ArtifactMeaning.{same_file, told_columns, shown_columns, artifact_terms, at_piece, piece_terms}
use Rattle.desk_records.proofs.Comparisons.{words_equal, numbers_equal}
use Rattle.desk_records.proofs.NumberedReads.{finds, lasts, gets, passes_number}
use Rattle.desk_records.proofs.Parts.{same_rows, no_parts}
use Rattle.desk_records.proofs.PieceLists.{count_whole, one_more}
use Rattle.desk_records.proofs.PlacedParts.{Names, gets_part, its_part}
use Rattle.desk_records.proofs.HoldsAfter.{puts, puts_next, records_differ}

abbrev pieces : ArtifactRecord → List Bytes
pieces a = pieces_in a.contents

abbrev pub told_piece : Bytes → Row
told_piece bytes = Blob bytes ∷ []

-- a piece at its place
pub its_piece : (artifacts : List ArtifactRecord) (number sequence : ℕ) (p : Row → Bool) → Names told_piece pieces pieces_of_artifact refl (λ a. refl) number
    sequence p → 1 ≤ number
    → filter p (piece_rows_from 1 artifacts) ≡ option_to_list (option_map (piece_row number sequence) (piece_numbered artifacts number sequence))
its_piece = its_part told_piece pieces pieces_of_artifact refl (λ a. refl)

module _ (db : Database) (now : Records) (holds : HoldsRecords db now) (names : List (List ℕ)) where
  -- whether an artifact is there
  pub finds_artifact : (m : ℕ) (filename : Bytes) (row : Option Row) → ShowsFirst (selects (simple (holds.spot Artifacts).tree same_file (col 1 0 ∷ [])) names)
      db (file_of m filename) row → is_some row ≡ list_any (is_same_artifact m filename) now.artifacts
  finds_artifact m filename = finds artifact_row (holds.spot Artifacts).tree db now.artifacts (holds.rows Artifacts) names same_file (col 1 0 ∷ [])
      (file_of m filename) (is_same_artifact m filename)
      (λ n a. rw (numbers_equal a.module_number m, words_equal a.filename filename, and-true (same_bytes a.filename filename)) refl)

  -- the last number
  pub lasts_artifact : (row : Option Row) → ShowsFirst (selects (greatest_number (holds.spot Artifacts).tree) names) db [] row
      → IsLastRow (length now.artifacts) row
  lasts_artifact = lasts artifact_row (holds.spot Artifacts).tree db now.artifacts (holds.rows Artifacts) names (λ n x. refl)

  -- an artifact by its number
  pub gets_artifact : (number : ℕ) → 1 ≤ number → (row : Option Row)
      → ShowsFirst (selects (simple (holds.spot Artifacts).tree (at_key 0 0 ∷ []) told_columns) names) db (Int (pos number) ∷ []) row
      → row ≡ option_map told_of (item_numbered now.artifacts number)
  gets_artifact = gets artifact_row (holds.spot Artifacts).tree db now.artifacts (holds.rows Artifacts) names (λ n x. refl) (at_key 0 0 ∷ []) told_columns
      (passes_number artifact_row (λ n x. refl))

  abbrev is_of : ℕ → Row → Bool
  is_of m = passes (at_key 2 0 ∷ []) (Int (pos m) ∷ [])

  abbrev listed : ℕ → Row → Row
  listed m = shown_of shown_columns (Int (pos m) ∷ [])

  of_module : (m n : ℕ) (xs : List ArtifactRecord) → map (listed m) (filter (is_of m) (rows_from artifact_row n xs)) ≡ shown_rows (artifacts_shown m n xs)
  of_module m n [] = refl
  of_module m n (a ∷ xs) = grind (arith, and-true (nat_eq a.module_number m), numbers_equal a.module_number m, of_module m (n + 1) xs)

  -- those of a module
  pub lists_artifacts : (m : ℕ) (rows : List Row)
      → Shows (selects (in_order 0 false (at_key 2 0 ∷ []) shown_columns no_limit no_offset (holds.spot Artifacts).tree) names) db
      (Int (pos m) ∷ []) rows → rows ≡ shown_rows (artifacts_shown m 1 now.artifacts)
  lists_artifacts m rows shows =
      numbered_in_order artifact_row (λ n x. refl) (holds.spot Artifacts).tree (at_key 2 0 ∷ []) shown_columns no_limit no_offset
      (Int (pos m) ∷ []) db.trees now.artifacts (holds.rows Artifacts) rows (shows.answer Null) ∙ of_module m 1 now.artifacts

  -- a piece of an artifact's contents
  pub gets_piece : (number sequence : ℕ) → 1 ≤ number → (row : Option Row)
      → ShowsFirst (selects (simple (holds.spot Pieces).tree at_piece (col 1 3 ∷ [])) names) db (Int (pos number) ∷ Int (pos sequence) ∷ []) row
      → row ≡ option_map (λ bytes. Blob bytes ∷ []) (piece_numbered now.artifacts number sequence)
  gets_piece number sequence least = gets_part told_piece pieces pieces_of_artifact refl (λ a. refl) (holds.spot Pieces).tree db now.artifacts
      (holds.rows Pieces) names (col 1 3 ∷ []) number sequence least (λ id x. refl)

pub adds_artifact : (m : ℕ) (filename : Bytes) (size : ℕ) (digest : Bytes) (number : ℕ) (old new : State) (text : List ℕ) (count : ℕ) (now : Records)
    (holds : HoldsRecords old.now now) → number ≡ length now.artifacts + 1
    → (w : Writes old new None (Insert (holds.spot Artifacts).at (Values artifact_terms 6)) text
    (Int (pos number) ∷ told_of (artifact_filed m filename size digest)) count)
    → HoldsRecords new.now (with_artifact now m filename size digest)
adds_artifact m filename size digest number old new text count now holds next w =
    let a = artifact_filed m filename size digest in
    let after = with_artifact now m filename size digest in
    puts_next Artifacts (ledger_of now) (ledger_of after) (grind (arith, records_differ, no_parts)) holds.sorted artifact_row
    (λ n x. refl) now.artifacts a number next artifact_terms 6 holds w (λ tree. refl)
    (λ db tree. rw (cast_int number, cast_null, cast_int m, cast_int size) refl) refl refl

pub adds_piece : (number sequence : ℕ) (bytes : Bytes) (old new : State) (text : List ℕ) (count : ℕ) (now next : Records) (holds : HoldsRecords old.now now)
    → AddsPiece number sequence bytes now next
    → (w : Writes old new None (Insert (holds.spot Pieces).at (Values piece_terms 4)) text (piece_row number sequence bytes) count) → HoldsRecords new.now next
adds_piece number sequence bytes old new text count now next holds change w =
    let a = change.artifact in
    let after = record now { artifacts = change.before ++ and_piece a bytes ∷ [] } in
    let place : sequence ≡ length (pieces_in a.contents) + 1 = omega (arith, count_whole a.contents (sequence - 1) change.so_far, change.sequence_least) in
    let more = one_more a.contents bytes (sequence - 1) change.so_far change.bytes_least change.bytes_limit in
    let rows = last_is_more piece_row pieces a (and_piece a bytes) bytes more number sequence change.before change.number_is place in
    subst (HoldsRecords new.now) (sym change.next_is)
    (puts Pieces (ledger_of now) (ledger_of after) (grind (arith, records_differ, same_rows, change.last)) holds.sorted piece_terms 4 holds w (λ tree. refl)
    (piece_row number sequence bytes) (piece_row number sequence bytes) (λ tree. refl) (λ tree. rw (cast_int number, cast_int sequence) refl) refl refl
    (grind (arith, change.last, rows)))
