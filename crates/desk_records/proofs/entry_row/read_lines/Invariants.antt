use Rattle.desk_records.proofs.Common.{◌≡◌, ◌++◌, true, length, list_all, is_detail, lines_of}
use denote.Text.{Utf8}
use denote.Shadow.{shadow}
use Rattle.desk_records.proofs.entry_row.read_lines.Given as goal

-- the text is the lines so far, which are details, and the rest
abbrev pub invariant-loop : goal.invariant-loop
invariant-loop l = shadow (Utf8 l.rest) × (l.text ≡ lines_of l.lines.items ++ l.rest) × (list_all is_detail l.lines.items ≡ true)
    × (length l.lines.items ≡ l.counter)
