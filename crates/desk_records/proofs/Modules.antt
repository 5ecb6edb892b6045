-- The statements on modules, in records.
use Rattle.desk_records.proofs.Common.{◌≡◌, ◌≤◌, ℕ, ◌+◌, pos, List, [], ◌∷◌, length, None, Option, option_map, refl, list_any, is_some, Int, Row, col, Insert}
use Rattle.desk_records.proofs.Common.{arith, Values, Database, State, Writes, ShowsFirst, simple, passes, cast_int, cast_null, ModuleLabel, item_numbered}
use Rattle.desk_records.proofs.Common.{Records, words_of, with_module, is_same, IsLastRow, Modules, HoldsRecords, ledger_of, module_row, and-true}
use Rattle.desk_records.proofs.HoldsAfter.{puts_next, records_differ}
use Rattle.desk_records.proofs.Comparisons.{words_equal}
use Rattle.desk_records.proofs.NumberedReads.{finds, lasts, gets, passes_number}
use Rattle.desk_records.proofs.MeaningWords.{at_key, greatest_number, selects}
use Rattle.desk_records.proofs.Meaning.{same_label, label_columns, module_terms}

-- ---- whether a module is there

passes_label : (label : ModuleLabel) (number : ℕ) (m : ModuleLabel) → passes same_label (words_of label) (module_row number m) ≡ is_same label m
passes_label label number m = grind (arith, words_equal, and-true)

pub finds_module : (label : ModuleLabel) (db : Database) (now : Records) (holds : HoldsRecords db now) (names : List (List ℕ)) (row : Option Row)
    → ShowsFirst (selects (simple (holds.spot Modules).tree same_label (col 1 0 ∷ [])) names) db (words_of label) row → is_some row
    ≡ list_any (is_same label) now.modules
finds_module label db now holds names row shown = finds module_row (holds.spot Modules).tree db now.modules (holds.rows Modules) names same_label (col 1 0 ∷ [])
    (words_of label) (is_same label) (passes_label label) row shown

-- ---- the last number

pub lasts_module : (db : Database) (now : Records) (holds : HoldsRecords db now) (names : List (List ℕ)) (row : Option Row)
    → ShowsFirst (selects (greatest_number (holds.spot Modules).tree) names) db [] row → IsLastRow (length now.modules) row
lasts_module db now holds names row shown = lasts module_row (holds.spot Modules).tree db now.modules (holds.rows Modules) names (λ n x. refl) row shown

-- ---- a module by its number

pub gets_module : (number : ℕ) → 1 ≤ number → (db : Database) (now : Records) (holds : HoldsRecords db now) (names : List (List ℕ)) (row : Option Row)
    → ShowsFirst (selects (simple (holds.spot Modules).tree (at_key 0 0 ∷ []) label_columns) names) db (Int (pos number) ∷ []) row
    → row ≡ option_map words_of (item_numbered now.modules number)
gets_module number least db now holds names row shown =
    gets module_row (holds.spot Modules).tree db now.modules (holds.rows Modules) names (λ n x. refl) (at_key 0 0 ∷ []) label_columns
    (passes_number module_row (λ n x. refl)) number least row shown

-- ---- a new row

pub adds_module : (label : ModuleLabel) (number : ℕ) (old new : State) (text : List ℕ) (count : ℕ) (now : Records) (holds : HoldsRecords old.now now) → number
    ≡ length now.modules + 1
    → (w : Writes old new None (Insert (holds.spot Modules).at (Values module_terms 5)) text (Int (pos number) ∷ words_of label) count)
    → HoldsRecords new.now (with_module now label)
adds_module label number old new text count now holds next w =
    puts_next Modules (ledger_of now) (ledger_of (with_module now label)) (grind (arith, records_differ)) holds.sorted module_row
    (λ n x. refl) now.modules label number next module_terms 5 holds w (λ tree. refl) (λ db tree. rw (cast_int number, cast_null) refl) refl refl
