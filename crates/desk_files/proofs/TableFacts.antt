-- No field of a table of actions needs quotes.
use Rattle.desk_files.proofs.Common.{◌≡◌, ◌<◌, ◌^◌, ◌+◌, ◌%◌, ◌++◌, ℕ, List, [], ◌∷◌, true, false, All, codes, map, take, get_or, length, refl, sym, ap, ◌∙◌}
use Rattle.desk_files.proofs.Common.{arith, append_assoc, append-nil}
use Rattle.desk_files.proofs.Common.{flat_map, list_all, list_any-append, is_word_letter}
use Rattle.std.specs.Fmt.{decimal}
use Rattle.std.proofs.lemmas.Fmt.{decimal_by_steps}
use Rattle.std.proofs.lemmas.Grind.{flat_map-append}
use Rattle.std.proofs.lemmas.List.{take_more}
use Rattle.std.proofs.lemmas.List.Elements.{All-head, All-tail}
use Rattle.std.proofs.lemmas.List.Splits.{join_with_byte-slice_split}
use Rattle.csv.specs.Writing.{default_writer, needs_byte, fields_text, is_blank, needs_quotes, row_text}
use Rattle.rollout_model.specs.declared.rollout.Action.{Action}
use Rattle.desk_files.specs.ActionTables.{action_line, table_text}
use Rattle.desk_files.specs.Laws.{IsActionInRange, TablesAreCsv, TagsAreJoined, action_record, table_header}

pub joined : TagsAreJoined
joined [] = refl
joined (b ∷ bs) = join_with_byte-slice_split 32 (b ∷ bs)

letter_is_plain : (b : ℕ) → is_word_letter b ≡ true → needs_byte default_writer b ≡ false
letter_is_plain b letter = grind arith

letters_are_plain : (bs : List ℕ) → list_all is_word_letter bs ≡ true → needs_quotes default_writer bs ≡ false
letters_are_plain [] letters = refl
letters_are_plain (b ∷ bs) letters = grind (arith, letters_are_plain bs, letter_is_plain)

digit_is_plain : (n : ℕ) → n < 10 → needs_byte default_writer (48 + n) ≡ false
digit_is_plain n small = grind arith

decimal_is_plain : (n : ℕ) → n < 2 ^ 64 → needs_quotes default_writer (decimal n) ≡ false
decimal_is_plain n fits =
    decimal_by_steps (λ (k : ℕ) (ds : List ℕ). needs_quotes default_writer ds ≡ false) (λ k small. rw (digit_is_plain k small) refl)
    (λ k ds big so. list_any-append (needs_byte default_writer) ds ((48 + k % 10) ∷ []) ∙ rw (so, digit_is_plain (k % 10) (omega arith)) refl) n fits

row_is_line : (a : Action) → IsActionInRange a → row_text default_writer (action_record a) ≡ action_line a
unfolding fields_text is_blank
row_is_line a is = grind (arith, decimal_is_plain, letters_are_plain, append_assoc)

rows_are_lines : (actions : List Action) → All IsActionInRange actions → flat_map (row_text default_writer) (map action_record actions)
    ≡ flat_map action_line actions
rows_are_lines [] are = refl
rows_are_lines (a ∷ actions) are =
    rw (row_is_line a (All-head IsActionInRange a actions are), rows_are_lines actions (All-tail IsActionInRange a actions are)) refl

header_is_line : row_text default_writer table_header ≡ codes "action,controllerid,group,state\n"
unfolding fields_text is_blank
header_is_line = refl

pub tables : TablesAreCsv
tables actions are = grind (arith, header_is_line, rows_are_lines)

more_pieces : {X : Type 0} (f : X → List ℕ) (xs : List X) (i : ℕ) (x : X) → i < length xs → x ≡ get_or xs i x
    → flat_map f (take (i + 1) xs) ≡ flat_map f (take i xs) ++ f x
more_pieces f xs i x below is =
    ap (flat_map f) (take_more xs i x below) ∙ flat_map-append f (take i xs) (get_or xs i x ∷ [])
    ∙ ap (λ t. flat_map f (take i xs) ++ t) (append-nil (f (get_or xs i x)) ∙ ap f (sym is))

-- one more action is one more line
pub table_text-more : (actions : List Action) (i : ℕ) (a : Action) → i < length actions → a ≡ get_or actions i a
    → table_text (take (i + 1) actions) ≡ table_text (take i actions) ++ action_line a
table_text-more actions i a below is =
    ap (λ t. codes "action,controllerid,group,state\n" ++ t) (more_pieces action_line actions i a below is)
    ∙ sym (append_assoc (codes "action,controllerid,group,state\n") (flat_map action_line (take i actions)) (action_line a))
