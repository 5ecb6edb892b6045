-- What a file of targets says: its rows, or the number of its first faulty record.
use Rattle.std.specs.Prelude.{◌≡◌, ℕ, List, [], ◌∷◌, length, take, map, codes, nat_eq, Option, Some, None, is_none, unwrap_or, option_map}
use Rattle.std.specs.Prelude.{option_and_then, Result, Ok, Err, MatchResult, if◌then◌else◌, ⊤}
use Rattle.std.specs.List.{ends_with, find, range_with_len}
use Rattle.std.specs.Option.{ok_or}
use Rattle.std.specs.Cmp.Lexicographic.{pointwise}
use Rattle.csv.specs.Reading.{default_config, records, strip_bom}
use Rattle.rollout_model.specs.Rules.{are_distinct_words, kept_if}
use Rattle.rollout_model.specs.declared.refusal.Refusal.{Refusal}
use Rattle.rollout_model.specs.declared.refusal.Refusal.TheVariants.{BadImportLine, NoMemory}
use Rattle.rollout_model.specs.declared.target_row.TargetRow.{TargetRow}
use Rattle.desk_files.specs.TargetRecords.{Record, row_of}
use Rattle.desk_files.specs.declared.import_fault.ImportFault.{ImportFault}
use Rattle.desk_files.specs.declared.import_fault.ImportFault.TheVariants.{Line, Memory}

-- the records of a file, as `csv` reads them without a header row of its own, whatever their lengths
abbrev pub records_of : List ℕ → List Record
records_of bytes = records default_config (strip_bom bytes)

abbrev pub header : Record
header = codes "controllerid" ∷ codes "name" ∷ codes "token" ∷ codes "tags" ∷ []

-- the row of each record, where each has one
abbrev pub each_row : List Record → Option (List TargetRow)
each_row [] = Some []
each_row (r ∷ rs) = option_and_then (λ row. option_map (λ rows. row ∷ rows) (each_row rs)) (row_of r)

abbrev pub ids_of_rows : List TargetRow → List (List ℕ)
ids_of_rows rows = map (λ (row : TargetRow). row.id) rows

-- the rows of the records of an import: the header, and then rows of targets, no two of one id
abbrev pub rows_of : List Record → Option (List TargetRow)
rows_of [] = None
rows_of (first ∷ rest) =
    if pointwise (pointwise nat_eq) first header
    then option_and_then (kept_if (λ (rows : List TargetRow). are_distinct_words (ids_of_rows rows))) (each_row rest)
    else None

-- the number of the first faulty record, the header being 1, also where there is no record: the least n for which the
-- first n records are no import
abbrev pub faulty_line : List Record → ℕ
faulty_line rs = unwrap_or (find (λ n. is_none (rows_of (take n rs))) (range_with_len 1 (length rs))) 1

-- the rows of the records, or the number of the first faulty one
abbrev pub import_of : List Record → Result (List TargetRow) ℕ
import_of rs = ok_or (rows_of rs) (faulty_line rs)

-- what a file says; line 0 is the file as a whole, which is empty or whose last byte is no line feed
abbrev pub targets_in_file : List ℕ → Result (List TargetRow) ℕ
targets_in_file bytes = if ends_with nat_eq bytes (codes "\n") then import_of (records_of bytes) else Err 0

-- want of memory says nothing of the file
abbrev pub BlamesLine : Result (List TargetRow) ℕ → ImportFault → Type 0
BlamesLine said Memory = ⊤
BlamesLine said (Line line) = said ≡ Err line

-- the rows exactly where the file says rows, and the line exactly where it says that; in place of either, want of memory
abbrev pub ImportsAs : Result (List TargetRow) ℕ → Result (List TargetRow) ImportFault → Type 0
ImportsAs said result = MatchResult result (λ rows. said ≡ Ok rows) (BlamesLine said)

abbrev pub refusal_of_import : ImportFault → Refusal
refusal_of_import (Line line) = BadImportLine line
refusal_of_import Memory = NoMemory
