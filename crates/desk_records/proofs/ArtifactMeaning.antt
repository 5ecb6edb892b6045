-- Written by tools/gen/sql-proofs. What it makes is proved; the tool is not trusted.
-- What the texts of src/artifact_texts.rt mean, wherever their tables stand.
use Rattle.desk_records.proofs.Common.{refl, List, [], ◌∷◌, codes, false, arith, Null, Values, Term, lit, col, simple}
use Rattle.sql_calls.specs.private.Means.{Takes}
use Rattle.desk_records.specs.declared.artifact_texts.TheConstants.{FIND_ARTIFACT, LAST_ARTIFACT, GET_ARTIFACT, LIST_ARTIFACTS, LIST_ALL_ARTIFACTS, GET_PIECE, PUT_ARTIFACT, PUT_PIECE}
use Rattle.desk_records.specs.Schema.{Artifacts, Pieces}
use Rattle.desk_records.proofs.MeaningWords.{compiling, Asks, Puts, at_key, in_order, greatest_number, no_limit, no_offset}

abbrev pub same_file : List Term
same_file = at_key 2 0 ∷ at_key 3 1 ∷ []

pub find_artifact_is : Asks Artifacts FIND_ARTIFACT.now (λ tree. simple tree same_file (col 1 0 ∷ [])) (codes "number" ∷ [])
find_artifact_is = unfold compiling in record { queries = λ tree. record { parsed = _; select = _; source = _; page = _; shown = _; read = refl; is = (refl, refl, refl, refl); core = (refl, refl, refl); from = (refl, refl, refl, refl, refl); shows = (tt, tt); filter = ((refl, λ cx how x y. refl), ((refl, λ cx how x y. refl), tt, tt), ((refl, λ cx how x y. refl), tt, tt)); sorts = tt; paged = λ s. refl; named = (refl, refl); becomes = (refl, (refl, refl, refl)) }; shape = λ tree. refl }

pub find_artifact_takes : Takes FIND_ARTIFACT.now 2
find_artifact_takes = unfold compiling in record { parsed = _; read = refl; whole = omega arith; names = refl }

pub last_artifact_is : Asks Artifacts LAST_ARTIFACT.now greatest_number (codes "number" ∷ [])
last_artifact_is = unfold compiling in record { queries = λ tree. record { parsed = _; select = _; source = _; page = _; shown = _; read = refl; is = (refl, refl, refl, refl); core = (refl, refl, refl); from = (refl, refl, refl, refl, refl); shows = (tt, tt); filter = tt; sorts = (tt, tt); paged = λ s. refl; named = (refl, refl); becomes = (refl, (refl, refl, refl)) }; shape = λ tree. refl }

pub last_artifact_takes : Takes LAST_ARTIFACT.now 0
last_artifact_takes = unfold compiling in record { parsed = _; read = refl; whole = omega arith; names = refl }

abbrev pub told_columns : List Term
told_columns = col 1 2 ∷ col 1 3 ∷ col 1 4 ∷ col 1 5 ∷ []

pub get_artifact_is : Asks Artifacts GET_ARTIFACT.now (λ tree. simple tree (at_key 0 0 ∷ []) told_columns) (codes "module" ∷ codes "filename" ∷ codes "size" ∷ codes "sha256" ∷ [])
get_artifact_is = unfold compiling in record { queries = λ tree. record { parsed = _; select = _; source = _; page = _; shown = _; read = refl; is = (refl, refl, refl, refl); core = (refl, refl, refl); from = (refl, refl, refl, refl, refl); shows = (tt, (tt, (tt, (tt, tt)))); filter = ((refl, λ cx how x y. refl), tt, tt); sorts = tt; paged = λ s. refl; named = (refl, refl); becomes = (refl, (refl, refl, refl)) }; shape = λ tree. refl }

pub get_artifact_takes : Takes GET_ARTIFACT.now 1
get_artifact_takes = unfold compiling in record { parsed = _; read = refl; whole = omega arith; names = refl }

abbrev pub shown_columns : List Term
shown_columns = col 1 0 ∷ col 1 3 ∷ col 1 4 ∷ col 1 5 ∷ []

pub list_artifacts_is : Asks Artifacts LIST_ARTIFACTS.now (in_order 0 false (at_key 2 0 ∷ []) shown_columns no_limit no_offset) (codes "number" ∷ codes "filename" ∷ codes "size" ∷ codes "sha256" ∷ [])
list_artifacts_is = unfold compiling in record { queries = λ tree. record { parsed = _; select = _; source = _; page = _; shown = _; read = refl; is = (refl, refl, refl, refl); core = (refl, refl, refl); from = (refl, refl, refl, refl, refl); shows = (tt, (tt, (tt, (tt, tt)))); filter = ((refl, λ cx how x y. refl), tt, tt); sorts = (tt, tt); paged = λ s. refl; named = (refl, refl); becomes = (refl, (refl, refl, refl)) }; shape = λ tree. refl }

pub list_artifacts_takes : Takes LIST_ARTIFACTS.now 1
list_artifacts_takes = unfold compiling in record { parsed = _; read = refl; whole = omega arith; names = refl }

abbrev pub all_columns : List Term
all_columns = col 1 2 ∷ col 1 3 ∷ col 1 4 ∷ col 1 5 ∷ col 1 0 ∷ []

pub list_all_artifacts_is : Asks Artifacts LIST_ALL_ARTIFACTS.now (in_order 0 false [] all_columns no_limit no_offset) (codes "module" ∷ codes "filename" ∷ codes "size" ∷ codes "sha256" ∷ codes "number" ∷ [])
list_all_artifacts_is = unfold compiling in record { queries = λ tree. record { parsed = _; select = _; source = _; page = _; shown = _; read = refl; is = (refl, refl, refl, refl); core = (refl, refl, refl); from = (refl, refl, refl, refl, refl); shows = (tt, (tt, (tt, (tt, (tt, tt))))); filter = tt; sorts = (tt, tt); paged = λ s. refl; named = (refl, refl); becomes = (refl, (refl, refl, refl)) }; shape = λ tree. refl }

pub list_all_artifacts_takes : Takes LIST_ALL_ARTIFACTS.now 0
list_all_artifacts_takes = unfold compiling in record { parsed = _; read = refl; whole = omega arith; names = refl }

abbrev pub at_piece : List Term
at_piece = at_key 1 0 ∷ at_key 2 1 ∷ []

pub get_piece_is : Asks Pieces GET_PIECE.now (λ tree. simple tree at_piece (col 1 3 ∷ [])) (codes "bytes" ∷ [])
get_piece_is = unfold compiling in record { queries = λ tree. record { parsed = _; select = _; source = _; page = _; shown = _; read = refl; is = (refl, refl, refl, refl); core = (refl, refl, refl); from = (refl, refl, refl, refl, refl); shows = (tt, tt); filter = ((refl, λ cx how x y. refl), ((refl, λ cx how x y. refl), tt, tt), ((refl, λ cx how x y. refl), tt, tt)); sorts = tt; paged = λ s. refl; named = (refl, refl); becomes = (refl, (refl, refl, refl)) }; shape = λ tree. refl }

pub get_piece_takes : Takes GET_PIECE.now 2
get_piece_takes = unfold compiling in record { parsed = _; read = refl; whole = omega arith; names = refl }

abbrev pub artifact_terms : List Term
artifact_terms = col 0 0 ∷ lit Null ∷ col 0 1 ∷ col 0 2 ∷ col 0 3 ∷ col 0 4 ∷ []

pub put_artifact_is : Puts Artifacts PUT_ARTIFACT.now (Values artifact_terms 6)
put_artifact_is = unfold compiling in record { adds = λ tree. record { parsed = _; columns = _; rows = _; read = refl; statement = refl; formats = refl; fits = λ s. refl }; plain = λ tree. refl }

abbrev pub piece_terms : List Term
piece_terms = lit Null ∷ col 0 0 ∷ col 0 1 ∷ col 0 2 ∷ []

pub put_piece_is : Puts Pieces PUT_PIECE.now (Values piece_terms 4)
put_piece_is = unfold compiling in record { adds = λ tree. record { parsed = _; columns = _; rows = _; read = refl; statement = refl; formats = refl; fits = λ s. refl }; plain = λ tree. refl }
