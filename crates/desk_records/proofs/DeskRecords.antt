-- What is read of the desk's own row, where a ledger is held.
use Rattle.desk_records.proofs.Common.{◌≡◌, List, [], ◌∷◌, filter, ℕ, pos, codes, Bool, Option, Some, ◌∙◌, refl, Null, Int, Text}
use Rattle.desk_records.proofs.Common.{Row, Term, lit, col, Database, ShowsFirst, passes, shown_of, simple_rows, HoldsLedger, Ledger, desk_row, newest, arith}
use Rattle.desk_records.proofs.Common.{version_number, flag, Desk, and-true}
use Rattle.desk_records.proofs.Comparisons.{numbers_equal}
use Rattle.desk_records.proofs.Meaning.{desk_query}
use Rattle.desk_records.proofs.MeaningWords.{is_equal, selects}
use Rattle.desk_records.proofs.NumberedReads.{first_found}

-- what is told of a desk
abbrev pub told_desk : Bool → Row
told_desk approval = Text (codes "fwdesk") ∷ Int (pos (version_number newest)) ∷ Int (pos (flag approval)) ∷ []

abbrev first : List Term
first = is_equal (col 1 0) (lit (Int (pos 1))) ∷ []

abbrev columns : List Term
columns = col 1 2 ∷ col 1 3 ∷ col 1 4 ∷ []

one_desk : (approval : Bool) → filter (passes first []) (desk_row newest approval ∷ []) ≡ desk_row newest approval ∷ []
one_desk approval = rw (and-true _ ∙ numbers_equal 1 1) refl

module _ (db : Database) (l : Ledger) (holds : HoldsLedger db l) (names : List (List ℕ)) where
  -- the row is there
  pub gets_desk : (row : Option Row) → ShowsFirst (selects (desk_query (holds.spot Desk).tree) names) db [] row → row ≡ Some (told_desk l.records.approval)
  gets_desk = first_found (shown_of columns []) (desk_row newest) (selects (desk_query (holds.spot Desk).tree) names) db []
      (Some l.records.approval) (λ rows shows.
      grind (arith, holds.rows Desk, one_desk, simple_rows (holds.spot Desk).tree first columns [] db.trees rows (shows.answer Null)))
