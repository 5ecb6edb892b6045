-- Written by tools/gen/sql-proofs. What it makes is proved; the tool is not trusted.
-- What the texts of src/texts.rt mean, wherever their tables stand.
use Rattle.desk_records.proofs.Common.{refl, List, [], ◌∷◌, ℕ, codes, pos, arith, Null, Int, Text, Values, Query, Term, lit, col, simple}
use Rattle.sql_calls.specs.private.Means.{Takes}
use Rattle.desk_records.specs.declared.texts.TheConstants.{PUT_DESK, SET_VERSION, GET_DESK, FIND_MODULE, LAST_MODULE, GET_MODULE, PUT_MODULE}
use Rattle.desk_records.specs.Schema.{Desk, Modules}
use Rattle.desk_records.proofs.MeaningWords.{compiling, Asks, Puts, Changes, is_equal, at_key, greatest_number, changing}

abbrev pub desk_terms : List Term
desk_terms = lit (Int (pos 1)) ∷ lit Null ∷ lit (Text (codes "fwdesk")) ∷ lit (Int (pos 3)) ∷ col 0 0 ∷ []

pub put_desk_is : Puts Desk PUT_DESK.now (Values desk_terms 5)
put_desk_is = unfold compiling in record { adds = λ tree. record { parsed = _; columns = _; rows = _; read = refl; statement = refl; formats = refl; fits = λ s. refl }; plain = λ tree. refl }

abbrev pub version_values : List Term
version_values = lit Null ∷ col 1 2 ∷ lit (Int (pos 3)) ∷ col 1 4 ∷ []

abbrev pub set_version_query : ℕ → Query
set_version_query tree = changing (is_equal (col 1 0) (lit (Int (pos 1))) ∷ []) version_values tree

pub set_version_is : Changes Desk SET_VERSION.now set_version_query
set_version_is = unfold compiling in record { updates = λ tree. record { parsed = _; sets = _; test = _; draft = _; read = refl; is = (refl, refl); values = (tt, tt); filter = ((refl, λ cx how x y. refl), tt, tt); known = refl; becomes = (refl, refl, refl) } }

abbrev pub desk_query : ℕ → Query
desk_query tree = simple tree (is_equal (col 1 0) (lit (Int (pos 1))) ∷ []) (col 1 2 ∷ col 1 3 ∷ col 1 4 ∷ [])

pub get_desk_is : Asks Desk GET_DESK.now desk_query (codes "format" ∷ codes "version" ∷ codes "approval" ∷ [])
get_desk_is = unfold compiling in record { queries = λ tree. record { parsed = _; select = _; source = _; page = _; shown = _; read = refl; is = (refl, refl, refl, refl); core = (refl, refl, refl); from = (refl, refl, refl, refl, refl); shows = (tt, (tt, (tt, tt))); filter = ((refl, λ cx how x y. refl), tt, tt); sorts = tt; paged = λ s. refl; named = (refl, refl); becomes = (refl, (refl, refl, refl)) }; shape = λ tree. refl }

pub get_desk_takes : Takes GET_DESK.now 0
get_desk_takes = unfold compiling in record { parsed = _; read = refl; whole = omega arith; names = refl }

abbrev pub same_label : List Term
same_label = at_key 2 0 ∷ at_key 3 1 ∷ at_key 4 2 ∷ []

pub find_module_is : Asks Modules FIND_MODULE.now (λ tree. simple tree same_label (col 1 0 ∷ [])) (codes "number" ∷ [])
find_module_is = unfold compiling in record { queries = λ tree. record { parsed = _; select = _; source = _; page = _; shown = _; read = refl; is = (refl, refl, refl, refl); core = (refl, refl, refl); from = (refl, refl, refl, refl, refl); shows = (tt, tt); filter = ((refl, λ cx how x y. refl), ((refl, λ cx how x y. refl), ((refl, λ cx how x y. refl), tt, tt), ((refl, λ cx how x y. refl), tt, tt)), ((refl, λ cx how x y. refl), tt, tt)); sorts = tt; paged = λ s. refl; named = (refl, refl); becomes = (refl, (refl, refl, refl)) }; shape = λ tree. refl }

pub find_module_takes : Takes FIND_MODULE.now 3
find_module_takes = unfold compiling in record { parsed = _; read = refl; whole = omega arith; names = refl }

pub last_module_is : Asks Modules LAST_MODULE.now greatest_number (codes "number" ∷ [])
last_module_is = unfold compiling in record { queries = λ tree. record { parsed = _; select = _; source = _; page = _; shown = _; read = refl; is = (refl, refl, refl, refl); core = (refl, refl, refl); from = (refl, refl, refl, refl, refl); shows = (tt, tt); filter = tt; sorts = (tt, tt); paged = λ s. refl; named = (refl, refl); becomes = (refl, (refl, refl, refl)) }; shape = λ tree. refl }

pub last_module_takes : Takes LAST_MODULE.now 0
last_module_takes = unfold compiling in record { parsed = _; read = refl; whole = omega arith; names = refl }

abbrev pub label_columns : List Term
label_columns = col 1 2 ∷ col 1 3 ∷ col 1 4 ∷ []

pub get_module_is : Asks Modules GET_MODULE.now (λ tree. simple tree (at_key 0 0 ∷ []) label_columns) (codes "name" ∷ codes "type" ∷ codes "version" ∷ [])
get_module_is = unfold compiling in record { queries = λ tree. record { parsed = _; select = _; source = _; page = _; shown = _; read = refl; is = (refl, refl, refl, refl); core = (refl, refl, refl); from = (refl, refl, refl, refl, refl); shows = (tt, (tt, (tt, tt))); filter = ((refl, λ cx how x y. refl), tt, tt); sorts = tt; paged = λ s. refl; named = (refl, refl); becomes = (refl, (refl, refl, refl)) }; shape = λ tree. refl }

pub get_module_takes : Takes GET_MODULE.now 1
get_module_takes = unfold compiling in record { parsed = _; read = refl; whole = omega arith; names = refl }

abbrev pub module_terms : List Term
module_terms = col 0 0 ∷ lit Null ∷ col 0 1 ∷ col 0 2 ∷ col 0 3 ∷ []

pub put_module_is : Puts Modules PUT_MODULE.now (Values module_terms 5)
put_module_is = unfold compiling in record { adds = λ tree. record { parsed = _; columns = _; rows = _; read = refl; statement = refl; formats = refl; fits = λ s. refl }; plain = λ tree. refl }
