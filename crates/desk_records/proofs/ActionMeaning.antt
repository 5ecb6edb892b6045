-- Written by tools/gen/sql-proofs. What it makes is proved; the tool is not trusted.
-- What the texts of src/action_texts.rt mean, wherever their tables stand.
use Rattle.desk_records.proofs.Common.{refl, List, [], ◌∷◌, ℕ, codes, pos, true, false, arith, Null, Int, Binary, Schema, Values, Query, inner, counted, end, Term, lit, col, Stands, Means, simple, by}
use Rattle.sql_front.proofs.TextsWithin.{QueriesWithin, queries_known_within}
use Rattle.sql_calls.specs.private.Means.{Takes}
use Rattle.desk_records.specs.declared.action_texts.TheConstants.{LAST_ACTION, GET_ACTION, LIST_ACTIONS, COUNT_ACTIONS, LIST_ACTION_NUMBERS, LIST_TARGET_ACTIONS, LAST_ENDED, SET_ACTION, PUT_FEEDBACK, LIST_ENTRIES, PUT_NUMBER, LAST_NUMBER, LIST_NUMBERS, GET_OFFER, LIST_OFFERS, SET_OFFER, DROP_OFFER, NEXT_OFFER}
use Rattle.desk_records.specs.Schema.{group_table, action_table, Actions, Feedbacks, Offers, Numbers}
use Rattle.desk_records.proofs.MeaningWords.{compiling, means_of, Asks, Counts, Puts, Changes, Drops, is_equal, is_more, is_least, is_most, at_key, at_least, in_order, greatest_number, changing, selects, no_limit, no_offset, first_only}

pub last_action_is : Asks Actions LAST_ACTION.now greatest_number (codes "number" ∷ [])
last_action_is = unfold compiling in record { queries = λ tree. record { parsed = _; select = _; source = _; page = _; shown = _; read = refl; is = (refl, refl, refl, refl); core = (refl, refl, refl); from = (refl, refl, refl, refl, refl); shows = (tt, tt); filter = tt; sorts = (tt, tt); paged = λ s. refl; named = (refl, refl); becomes = (refl, (refl, refl, refl)) }; shape = λ tree. refl }

pub last_action_takes : Takes LAST_ACTION.now 0
last_action_takes = unfold compiling in record { parsed = _; read = refl; whole = omega arith; names = refl }

abbrev pub action_columns : List Term
action_columns = col 1 2 ∷ col 1 3 ∷ col 1 4 ∷ col 1 5 ∷ col 1 6 ∷ col 1 7 ∷ col 1 8 ∷ []

pub get_action_is : Asks Actions GET_ACTION.now (λ tree. simple tree (at_key 0 0 ∷ []) action_columns) (codes "rollout" ∷ codes "place" ∷ codes "controller" ∷ codes "canceling" ∷ codes "outcome" ∷ codes "notes" ∷ codes "entries" ∷ [])
get_action_is = unfold compiling in record { queries = λ tree. record { parsed = _; select = _; source = _; page = _; shown = _; read = refl; is = (refl, refl, refl, refl); core = (refl, refl, refl); from = (refl, refl, refl, refl, refl); shows = (tt, (tt, (tt, (tt, (tt, (tt, (tt, tt))))))); filter = ((refl, λ cx how x y. refl), tt, tt); sorts = tt; paged = λ s. refl; named = (refl, refl); becomes = (refl, (refl, refl, refl)) }; shape = λ tree. refl }

pub get_action_takes : Takes GET_ACTION.now 1
get_action_takes = unfold compiling in record { parsed = _; read = refl; whole = omega arith; names = refl }

abbrev pub of_rollout : List Term
of_rollout = at_key 2 0 ∷ []

abbrev pub listed_columns : List Term
listed_columns = col 1 2 ∷ col 1 3 ∷ col 1 4 ∷ col 1 5 ∷ col 1 6 ∷ col 1 7 ∷ col 1 8 ∷ col 1 0 ∷ []

pub list_actions_is : Asks Actions LIST_ACTIONS.now (in_order 0 false of_rollout listed_columns (col 0 1) (col 0 2)) (codes "rollout" ∷ codes "place" ∷ codes "controller" ∷ codes "canceling" ∷ codes "outcome" ∷ codes "notes" ∷ codes "entries" ∷ codes "number" ∷ [])
list_actions_is = unfold compiling in record { queries = λ tree. record { parsed = _; select = _; source = _; page = _; shown = _; read = refl; is = (refl, refl, refl, refl); core = (refl, refl, refl); from = (refl, refl, refl, refl, refl); shows = (tt, (tt, (tt, (tt, (tt, (tt, (tt, (tt, tt)))))))); filter = ((refl, λ cx how x y. refl), tt, tt); sorts = (tt, tt); paged = λ s. refl; named = (refl, refl); becomes = (refl, (refl, refl, refl)) }; shape = λ tree. refl }

pub list_actions_takes : Takes LIST_ACTIONS.now 3
list_actions_takes = unfold compiling in record { parsed = _; read = refl; whole = omega arith; names = refl }

pub count_actions_is : Counts Actions COUNT_ACTIONS.now
count_actions_is = unfold compiling in record { queries = λ tree. record { parsed = _; select = _; source = _; page = _; shown = _; read = refl; is = (refl, refl, refl, refl); core = (refl, refl, refl); from = (refl, refl, refl, refl, refl); shows = (tt, tt); filter = tt; sorts = tt; paged = λ s. refl; named = (refl, refl); becomes = (refl, (refl, refl, refl)) } }

pub count_actions_takes : Takes COUNT_ACTIONS.now 0
count_actions_takes = unfold compiling in record { parsed = _; read = refl; whole = omega arith; names = refl }

abbrev pub of_actor : List Term
of_actor = at_key 4 0 ∷ []

pub list_action_numbers_is : Asks Actions LIST_ACTION_NUMBERS.now (in_order 0 false of_actor (col 1 0 ∷ []) no_limit no_offset) (codes "number" ∷ [])
list_action_numbers_is = unfold compiling in record { queries = λ tree. record { parsed = _; select = _; source = _; page = _; shown = _; read = refl; is = (refl, refl, refl, refl); core = (refl, refl, refl); from = (refl, refl, refl, refl, refl); shows = (tt, tt); filter = ((refl, λ cx how x y. refl), tt, tt); sorts = (tt, tt); paged = λ s. refl; named = (refl, refl); becomes = (refl, (refl, refl, refl)) }; shape = λ tree. refl }

pub list_action_numbers_takes : Takes LIST_ACTION_NUMBERS.now 1
list_action_numbers_takes = unfold compiling in record { parsed = _; read = refl; whole = omega arith; names = refl }

abbrev pub from_action : List Term
from_action = at_key 4 0 ∷ at_least 0 1 ∷ []

pub list_target_actions_is : Asks Actions LIST_TARGET_ACTIONS.now (in_order 0 false from_action listed_columns (col 0 2) no_offset) (codes "rollout" ∷ codes "place" ∷ codes "controller" ∷ codes "canceling" ∷ codes "outcome" ∷ codes "notes" ∷ codes "entries" ∷ codes "number" ∷ [])
list_target_actions_is = unfold compiling in record { queries = λ tree. record { parsed = _; select = _; source = _; page = _; shown = _; read = refl; is = (refl, refl, refl, refl); core = (refl, refl, refl); from = (refl, refl, refl, refl, refl); shows = (tt, (tt, (tt, (tt, (tt, (tt, (tt, (tt, tt)))))))); filter = ((refl, λ cx how x y. refl), ((refl, λ cx how x y. refl), tt, tt), ((refl, λ cx how x y. refl), tt, tt)); sorts = (tt, tt); paged = λ s. refl; named = (refl, refl); becomes = (refl, (refl, refl, refl)) }; shape = λ tree. refl }

pub list_target_actions_takes : Takes LIST_TARGET_ACTIONS.now 3
list_target_actions_takes = unfold compiling in record { parsed = _; read = refl; whole = omega arith; names = refl }

abbrev pub ended_of : List Term
ended_of = at_key 4 0 ∷ is_more (col 1 6) (lit (Int (pos 0))) ∷ []

pub last_ended_is : Asks Actions LAST_ENDED.now (in_order 0 true ended_of listed_columns first_only no_offset) (codes "rollout" ∷ codes "place" ∷ codes "controller" ∷ codes "canceling" ∷ codes "outcome" ∷ codes "notes" ∷ codes "entries" ∷ codes "number" ∷ [])
last_ended_is = unfold compiling in record { queries = λ tree. record { parsed = _; select = _; source = _; page = _; shown = _; read = refl; is = (refl, refl, refl, refl); core = (refl, refl, refl); from = (refl, refl, refl, refl, refl); shows = (tt, (tt, (tt, (tt, (tt, (tt, (tt, (tt, tt)))))))); filter = ((refl, λ cx how x y. refl), ((refl, λ cx how x y. refl), tt, tt), ((refl, λ cx how x y. refl), tt, tt)); sorts = (tt, tt); paged = λ s. refl; named = (refl, refl); becomes = (refl, (refl, refl, refl)) }; shape = λ tree. refl }

pub last_ended_takes : Takes LAST_ENDED.now 1
last_ended_takes = unfold compiling in record { parsed = _; read = refl; whole = omega arith; names = refl }

abbrev pub action_values : List Term
action_values = lit Null ∷ col 1 2 ∷ col 1 3 ∷ col 1 4 ∷ col 0 1 ∷ col 0 2 ∷ col 0 3 ∷ col 0 4 ∷ []

pub set_action_is : Changes Actions SET_ACTION.now (changing (at_key 0 0 ∷ []) action_values)
set_action_is = unfold compiling in record { updates = λ tree. record { parsed = _; sets = _; test = _; draft = _; read = refl; is = (refl, refl); values = (tt, (tt, (tt, (tt, tt)))); filter = ((refl, λ cx how x y. refl), tt, tt); known = refl; becomes = (refl, refl, refl) } }

abbrev pub feedback_terms : List Term
feedback_terms = lit Null ∷ col 0 0 ∷ col 0 1 ∷ col 0 2 ∷ col 0 3 ∷ col 0 4 ∷ []

pub put_feedback_is : Puts Feedbacks PUT_FEEDBACK.now (Values feedback_terms 6)
put_feedback_is = unfold compiling in record { adds = λ tree. record { parsed = _; columns = _; rows = _; read = refl; statement = refl; formats = refl; fits = λ s. refl }; plain = λ tree. refl }

abbrev pub of_action : List Term
of_action = at_key 1 0 ∷ []

abbrev pub entry_columns : List Term
entry_columns = col 1 3 ∷ col 1 4 ∷ col 1 5 ∷ col 1 2 ∷ []

pub list_entries_is : Asks Feedbacks LIST_ENTRIES.now (in_order 2 false of_action entry_columns (col 0 1) (col 0 2)) (codes "kind" ∷ codes "word" ∷ codes "details" ∷ codes "sequence" ∷ [])
list_entries_is = unfold compiling in record { queries = λ tree. record { parsed = _; select = _; source = _; page = _; shown = _; read = refl; is = (refl, refl, refl, refl); core = (refl, refl, refl); from = (refl, refl, refl, refl, refl); shows = (tt, (tt, (tt, (tt, tt)))); filter = ((refl, λ cx how x y. refl), tt, tt); sorts = (tt, tt); paged = λ s. refl; named = (refl, refl); becomes = (refl, (refl, refl, refl)) }; shape = λ tree. refl }

pub list_entries_takes : Takes LIST_ENTRIES.now 3
list_entries_takes = unfold compiling in record { parsed = _; read = refl; whole = omega arith; names = refl }

abbrev pub number_terms : List Term
number_terms = lit Null ∷ col 0 0 ∷ col 0 1 ∷ col 0 2 ∷ col 0 3 ∷ []

pub put_number_is : Puts Numbers PUT_NUMBER.now (Values number_terms 5)
put_number_is = unfold compiling in record { adds = λ tree. record { parsed = _; columns = _; rows = _; read = refl; statement = refl; formats = refl; fits = λ s. refl }; plain = λ tree. refl }

abbrev pub last_number_columns : List Term
last_number_columns = col 1 3 ∷ col 1 4 ∷ col 1 2 ∷ []

pub last_number_is : Asks Numbers LAST_NUMBER.now (in_order 2 true of_action last_number_columns first_only no_offset) (codes "sequence" ∷ codes "number" ∷ codes "place" ∷ [])
last_number_is = unfold compiling in record { queries = λ tree. record { parsed = _; select = _; source = _; page = _; shown = _; read = refl; is = (refl, refl, refl, refl); core = (refl, refl, refl); from = (refl, refl, refl, refl, refl); shows = (tt, (tt, (tt, tt))); filter = ((refl, λ cx how x y. refl), tt, tt); sorts = (tt, tt); paged = λ s. refl; named = (refl, refl); becomes = (refl, (refl, refl, refl)) }; shape = λ tree. refl }

pub last_number_takes : Takes LAST_NUMBER.now 1
last_number_takes = unfold compiling in record { parsed = _; read = refl; whole = omega arith; names = refl }

abbrev pub number_columns : List Term
number_columns = col 1 3 ∷ col 1 4 ∷ []

pub list_numbers_is : Asks Numbers LIST_NUMBERS.now (in_order 2 false of_action number_columns no_limit no_offset) (codes "sequence" ∷ codes "number" ∷ [])
list_numbers_is = unfold compiling in record { queries = λ tree. record { parsed = _; select = _; source = _; page = _; shown = _; read = refl; is = (refl, refl, refl, refl); core = (refl, refl, refl); from = (refl, refl, refl, refl, refl); shows = (tt, (tt, tt)); filter = ((refl, λ cx how x y. refl), tt, tt); sorts = (tt, tt); paged = λ s. refl; named = (refl, refl); becomes = (refl, (refl, refl, refl)) }; shape = λ tree. refl }

pub list_numbers_takes : Takes LIST_NUMBERS.now 1
list_numbers_takes = unfold compiling in record { parsed = _; read = refl; whole = omega arith; names = refl }

abbrev pub of_controller : List Term
of_controller = at_key 1 0 ∷ []

abbrev pub offer_columns : List Term
offer_columns = col 1 2 ∷ col 1 3 ∷ []

pub get_offer_is : Asks Offers GET_OFFER.now (λ tree. simple tree of_controller offer_columns) (codes "action" ∷ codes "kind" ∷ [])
get_offer_is = unfold compiling in record { queries = λ tree. record { parsed = _; select = _; source = _; page = _; shown = _; read = refl; is = (refl, refl, refl, refl); core = (refl, refl, refl); from = (refl, refl, refl, refl, refl); shows = (tt, (tt, tt)); filter = ((refl, λ cx how x y. refl), tt, tt); sorts = tt; paged = λ s. refl; named = (refl, refl); becomes = (refl, (refl, refl, refl)) }; shape = λ tree. refl }

pub get_offer_takes : Takes GET_OFFER.now 1
get_offer_takes = unfold compiling in record { parsed = _; read = refl; whole = omega arith; names = refl }

abbrev pub owned_columns : List Term
owned_columns = col 1 2 ∷ col 1 3 ∷ col 1 1 ∷ []

pub list_offers_is : Asks Offers LIST_OFFERS.now (λ tree. simple tree [] owned_columns) (codes "action" ∷ codes "kind" ∷ codes "controller" ∷ [])
list_offers_is = unfold compiling in record { queries = λ tree. record { parsed = _; select = _; source = _; page = _; shown = _; read = refl; is = (refl, refl, refl, refl); core = (refl, refl, refl); from = (refl, refl, refl, refl, refl); shows = (tt, (tt, (tt, tt))); filter = tt; sorts = tt; paged = λ s. refl; named = (refl, refl); becomes = (refl, (refl, refl, refl)) }; shape = λ tree. refl }

pub list_offers_takes : Takes LIST_OFFERS.now 0
list_offers_takes = unfold compiling in record { parsed = _; read = refl; whole = omega arith; names = refl }

abbrev pub of_offer : List Term
of_offer = at_key 1 0 ∷ at_key 2 1 ∷ []

abbrev pub offer_values : List Term
offer_values = col 1 1 ∷ col 0 2 ∷ col 0 3 ∷ []

pub set_offer_is : Changes Offers SET_OFFER.now (changing of_offer offer_values)
set_offer_is = unfold compiling in record { updates = λ tree. record { parsed = _; sets = _; test = _; draft = _; read = refl; is = (refl, refl); values = (tt, (tt, tt)); filter = ((refl, λ cx how x y. refl), ((refl, λ cx how x y. refl), tt, tt), ((refl, λ cx how x y. refl), tt, tt)); known = refl; becomes = (refl, refl, refl) } }

pub drop_offer_is : Drops Offers DROP_OFFER.now (λ tree. simple tree of_offer (col 1 0 ∷ []))
drop_offer_is = unfold compiling in record { removes = λ tree. record { parsed = _; test = _; draft = _; read = refl; is = (refl, refl); filter = ((refl, λ cx how x y. refl), ((refl, λ cx how x y. refl), tt, tt), ((refl, λ cx how x y. refl), tt, tt)); known = refl; becomes = (refl, refl, refl) } }

abbrev pub next_group : List Term
next_group = is_equal (col 2 1) (col 1 2) ∷ is_most (col 2 3) (col 1 3) ∷ is_least (col 2 4) (col 1 3) ∷ is_equal (col 2 5) (lit (Int (pos 1))) ∷ []

abbrev pub next_action : List Term
next_action = at_key 4 0 ∷ at_least 0 1 ∷ is_equal (col 1 6) (lit (Int (pos 0))) ∷ col 2 0 ∷ []

abbrev pub next_columns : List Term
next_columns = col 1 0 ∷ col 1 5 ∷ []

abbrev pub next_offer_query : ℕ → ℕ → Query
next_offer_query tree other = record (by (simple tree next_action next_columns) ((col 1 0, record { descending = false; collation = Binary }) ∷ []) (lit (Int (pos 1))) (lit (Int (pos 0)))) { from = inner tree (counted 1 (inner other end) next_group end) }

next_offer_queries : (tree other : ℕ) → QueriesWithin NEXT_OFFER.now (codes "action") (action_table tree) (codes "rollout_group") (group_table other) (next_offer_query tree other) (codes "number" ∷ codes "canceling" ∷ [])
next_offer_queries tree other = unfold compiling in record { parsed = _; select = _; page = _; shown = _; read = refl; selects = record { statement = refl; formats = refl; with = refl; others = refl }; one = record { from = record { source = _; is = refl; table = refl; alias = refl; on = refl; using = refl; is_inner = refl }; group = refl; having = refl; shown = (tt, (tt, tt)); filter = ((refl, λ cx how x y. refl), ((refl, λ cx how x y. refl), ((refl, λ cx how x y. refl), ((refl, λ cx how x y. refl), tt, tt), ((refl, λ cx how x y. refl), tt, tt)), ((refl, λ cx how x y. refl), tt, tt)), record { from = record { source = _; is = refl; table = refl; alias = refl; on = refl; using = refl; is_inner = refl }; shown = (tt, tt); filter = ((refl, λ cx how x y. refl), ((refl, λ cx how x y. refl), ((refl, λ cx how x y. refl), ((refl, λ cx how x y. refl), tt, tt), ((refl, λ cx how x y. refl), tt, tt)), ((refl, λ cx how x y. refl), tt, tt)), ((refl, λ cx how x y. refl), tt, tt)) }); sorts = (tt, tt) }; paged = λ s. refl; named_first = refl; named_second = refl; known = refl; is_body = refl; are_columns = refl; cap = _; test = _; over = refl; tests_fit = refl; fits = refl }

pub next_offer_is : (s : Schema) (at tree nest other : ℕ) → Stands s (codes "action") at (action_table tree) → Stands s (codes "rollout_group") nest (group_table other)
    → Means s NEXT_OFFER.now (selects (next_offer_query tree other) (codes "number" ∷ codes "canceling" ∷ []))
next_offer_is s at tree nest other stands stands' = means_of s NEXT_OFFER.now _ (queries_known_within _ _ _ _ _ _ _ (next_offer_queries tree other) s at nest stands stands') refl refl

pub next_offer_takes : Takes NEXT_OFFER.now 2
next_offer_takes = unfold compiling in record { parsed = _; read = refl; whole = omega arith; names = refl }
