-- Written by tools/gen/sql-proofs. What it makes is proved; the tool is not trusted.
-- What the texts of src/set_texts.rt mean, wherever their tables stand.
use Rattle.desk_records.proofs.Common.{refl, List, [], ◌∷◌, ℕ, codes, pos, false, arith, Null, Int, Values, Query, Term, lit, col, simple, by}
use Rattle.sql_calls.specs.private.Means.{Takes}
use Rattle.desk_records.specs.declared.set_texts.TheConstants.{FIND_SET, LAST_SET, GET_SET, LIST_SET_MODULES, MODULE_LOCKED, PUT_SET, PUT_SET_MODULE}
use Rattle.desk_records.specs.Schema.{Sets, SetModules}
use Rattle.desk_records.proofs.MeaningWords.{compiling, Asks, Puts, at_key, in_order, greatest_number, no_limit, no_offset}

abbrev pub same_names : List Term
same_names = at_key 2 0 ∷ at_key 3 1 ∷ []

pub find_set_is : Asks Sets FIND_SET.now (λ tree. simple tree same_names (col 1 0 ∷ [])) (codes "number" ∷ [])
find_set_is = unfold compiling in record { queries = λ tree. record { parsed = _; select = _; source = _; page = _; shown = _; read = refl; is = (refl, refl, refl, refl); core = (refl, refl, refl); from = (refl, refl, refl, refl, refl); shows = (tt, tt); filter = ((refl, λ cx how x y. refl), ((refl, λ cx how x y. refl), tt, tt), ((refl, λ cx how x y. refl), tt, tt)); sorts = tt; paged = λ s. refl; named = (refl, refl); becomes = (refl, (refl, refl, refl)) }; shape = λ tree. refl }

pub find_set_takes : Takes FIND_SET.now 2
find_set_takes = unfold compiling in record { parsed = _; read = refl; whole = omega arith; names = refl }

pub last_set_is : Asks Sets LAST_SET.now greatest_number (codes "number" ∷ [])
last_set_is = unfold compiling in record { queries = λ tree. record { parsed = _; select = _; source = _; page = _; shown = _; read = refl; is = (refl, refl, refl, refl); core = (refl, refl, refl); from = (refl, refl, refl, refl, refl); shows = (tt, tt); filter = tt; sorts = (tt, tt); paged = λ s. refl; named = (refl, refl); becomes = (refl, (refl, refl, refl)) }; shape = λ tree. refl }

pub last_set_takes : Takes LAST_SET.now 0
last_set_takes = unfold compiling in record { parsed = _; read = refl; whole = omega arith; names = refl }

abbrev pub name_columns : List Term
name_columns = col 1 2 ∷ col 1 3 ∷ []

pub get_set_is : Asks Sets GET_SET.now (λ tree. simple tree (at_key 0 0 ∷ []) name_columns) (codes "name" ∷ codes "version" ∷ [])
get_set_is = unfold compiling in record { queries = λ tree. record { parsed = _; select = _; source = _; page = _; shown = _; read = refl; is = (refl, refl, refl, refl); core = (refl, refl, refl); from = (refl, refl, refl, refl, refl); shows = (tt, (tt, tt)); filter = ((refl, λ cx how x y. refl), tt, tt); sorts = tt; paged = λ s. refl; named = (refl, refl); becomes = (refl, (refl, refl, refl)) }; shape = λ tree. refl }

pub get_set_takes : Takes GET_SET.now 1
get_set_takes = unfold compiling in record { parsed = _; read = refl; whole = omega arith; names = refl }

pub list_set_modules_is : Asks SetModules LIST_SET_MODULES.now (in_order 2 false (at_key 1 0 ∷ []) (col 1 3 ∷ []) no_limit no_offset) (codes "module" ∷ [])
list_set_modules_is = unfold compiling in record { queries = λ tree. record { parsed = _; select = _; source = _; page = _; shown = _; read = refl; is = (refl, refl, refl, refl); core = (refl, refl, refl); from = (refl, refl, refl, refl, refl); shows = (tt, tt); filter = ((refl, λ cx how x y. refl), tt, tt); sorts = (tt, tt); paged = λ s. refl; named = (refl, refl); becomes = (refl, (refl, refl, refl)) }; shape = λ tree. refl }

pub list_set_modules_takes : Takes LIST_SET_MODULES.now 1
list_set_modules_takes = unfold compiling in record { parsed = _; read = refl; whole = omega arith; names = refl }

abbrev pub locked_query : ℕ → Query
locked_query tree = by (simple tree (at_key 3 0 ∷ []) (col 1 1 ∷ [])) [] (lit (Int (pos 1))) (lit (Int (pos 0)))

pub module_locked_is : Asks SetModules MODULE_LOCKED.now locked_query (codes "dset" ∷ [])
module_locked_is = unfold compiling in record { queries = λ tree. record { parsed = _; select = _; source = _; page = _; shown = _; read = refl; is = (refl, refl, refl, refl); core = (refl, refl, refl); from = (refl, refl, refl, refl, refl); shows = (tt, tt); filter = ((refl, λ cx how x y. refl), tt, tt); sorts = tt; paged = λ s. refl; named = (refl, refl); becomes = (refl, (refl, refl, refl)) }; shape = λ tree. refl }

pub module_locked_takes : Takes MODULE_LOCKED.now 1
module_locked_takes = unfold compiling in record { parsed = _; read = refl; whole = omega arith; names = refl }

abbrev pub set_terms : List Term
set_terms = col 0 0 ∷ lit Null ∷ col 0 1 ∷ col 0 2 ∷ []

pub put_set_is : Puts Sets PUT_SET.now (Values set_terms 4)
put_set_is = unfold compiling in record { adds = λ tree. record { parsed = _; columns = _; rows = _; read = refl; statement = refl; formats = refl; fits = λ s. refl }; plain = λ tree. refl }

abbrev pub set_module_terms : List Term
set_module_terms = lit Null ∷ col 0 0 ∷ col 0 1 ∷ col 0 2 ∷ []

pub put_set_module_is : Puts SetModules PUT_SET_MODULE.now (Values set_module_terms 4)
put_set_module_is = unfold compiling in record { adds = λ tree. record { parsed = _; columns = _; rows = _; read = refl; statement = refl; formats = refl; fits = λ s. refl }; plain = λ tree. refl }
