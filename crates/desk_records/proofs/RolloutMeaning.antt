-- Written by tools/gen/sql-proofs. What it makes is proved; the tool is not trusted.
-- What the texts of src/rollout_texts.rt mean, wherever their tables stand.
use Rattle.desk_records.proofs.Common.{refl, List, [], ◌∷◌, ℕ, codes, pos, false, arith, Null, Int, Values, Query, Term, lit, col, simple}
use Rattle.sql_calls.specs.private.Means.{Takes}
use Rattle.desk_records.specs.declared.rollout_texts.TheConstants.{FIND_ROLLOUT, LAST_ROLLOUT, GET_ROLLOUT, LIST_MEMBERS, LIST_PLACES, COUNT_MEMBERS, LIST_GROUPS, COUNT_GROUPS, GET_GROUP, HOLDING_GROUP, GROUP_AND_NEXT, PUT_ROLLOUT, SET_ROLLOUT, PUT_MEMBER, PUT_MEMBERS, PUT_GROUP, SET_GROUP, GET_RULE, LIST_RULES, PUT_RULE}
use Rattle.desk_records.specs.Schema.{Rollouts, Members, Groups, Rules}
use Rattle.desk_records.proofs.MeaningWords.{compiling, Asks, Counts, Puts, Changes, at_key, past, at_least, at_most, in_order, greatest_number, changing, no_limit, no_offset}

abbrev pub same_name : List Term
same_name = at_key 2 0 ∷ []

pub find_rollout_is : Asks Rollouts FIND_ROLLOUT.now (λ tree. simple tree same_name (col 1 0 ∷ [])) (codes "number" ∷ [])
find_rollout_is = unfold compiling in record { queries = λ tree. record { parsed = _; select = _; source = _; page = _; shown = _; read = refl; is = (refl, refl, refl, refl); core = (refl, refl, refl); from = (refl, refl, refl, refl, refl); shows = (tt, tt); filter = ((refl, λ cx how x y. refl), tt, tt); sorts = tt; paged = λ s. refl; named = (refl, refl); becomes = (refl, (refl, refl, refl)) }; shape = λ tree. refl }

pub find_rollout_takes : Takes FIND_ROLLOUT.now 1
find_rollout_takes = unfold compiling in record { parsed = _; read = refl; whole = omega arith; names = refl }

pub last_rollout_is : Asks Rollouts LAST_ROLLOUT.now greatest_number (codes "number" ∷ [])
last_rollout_is = unfold compiling in record { queries = λ tree. record { parsed = _; select = _; source = _; page = _; shown = _; read = refl; is = (refl, refl, refl, refl); core = (refl, refl, refl); from = (refl, refl, refl, refl, refl); shows = (tt, tt); filter = tt; sorts = (tt, tt); paged = λ s. refl; named = (refl, refl); becomes = (refl, (refl, refl, refl)) }; shape = λ tree. refl }

pub last_rollout_takes : Takes LAST_ROLLOUT.now 0
last_rollout_takes = unfold compiling in record { parsed = _; read = refl; whole = omega arith; names = refl }

abbrev pub rollout_names : List (List ℕ)
rollout_names = codes "name" ∷ codes "dset" ∷ codes "filter_text" ∷ codes "groups" ∷ codes "success" ∷ codes "error" ∷ codes "approval" ∷ codes "started" ∷ codes "paused" ∷ []

abbrev pub rollout_columns : List Term
rollout_columns = col 1 2 ∷ col 1 3 ∷ col 1 4 ∷ col 1 5 ∷ col 1 6 ∷ col 1 7 ∷ col 1 8 ∷ col 1 9 ∷ col 1 10 ∷ []

pub get_rollout_is : Asks Rollouts GET_ROLLOUT.now (λ tree. simple tree (at_key 0 0 ∷ []) rollout_columns) rollout_names
get_rollout_is = unfold compiling in record { queries = λ tree. record { parsed = _; select = _; source = _; page = _; shown = _; read = refl; is = (refl, refl, refl, refl); core = (refl, refl, refl); from = (refl, refl, refl, refl, refl); shows = (tt, (tt, (tt, (tt, (tt, (tt, (tt, (tt, (tt, tt))))))))); filter = ((refl, λ cx how x y. refl), tt, tt); sorts = tt; paged = λ s. refl; named = (refl, refl); becomes = (refl, (refl, refl, refl)) }; shape = λ tree. refl }

pub get_rollout_takes : Takes GET_ROLLOUT.now 1
get_rollout_takes = unfold compiling in record { parsed = _; read = refl; whole = omega arith; names = refl }

abbrev pub after_place : List Term
after_place = at_key 1 0 ∷ past 2 1 ∷ []

abbrev pub member_columns : List Term
member_columns = col 1 3 ∷ []

pub list_members_is : Asks Members LIST_MEMBERS.now (in_order 2 false after_place member_columns (col 0 2) no_offset) (codes "controller" ∷ [])
list_members_is = unfold compiling in record { queries = λ tree. record { parsed = _; select = _; source = _; page = _; shown = _; read = refl; is = (refl, refl, refl, refl); core = (refl, refl, refl); from = (refl, refl, refl, refl, refl); shows = (tt, tt); filter = ((refl, λ cx how x y. refl), ((refl, λ cx how x y. refl), tt, tt), ((refl, λ cx how x y. refl), tt, tt)); sorts = (tt, tt); paged = λ s. refl; named = (refl, refl); becomes = (refl, (refl, refl, refl)) }; shape = λ tree. refl }

pub list_members_takes : Takes LIST_MEMBERS.now 3
list_members_takes = unfold compiling in record { parsed = _; read = refl; whole = omega arith; names = refl }

abbrev pub of_rollout : List Term
of_rollout = at_key 1 0 ∷ []

abbrev pub placed_columns : List Term
placed_columns = col 1 3 ∷ col 1 2 ∷ []

abbrev pub places_query : ℕ → Query
places_query tree = in_order 2 false of_rollout placed_columns no_limit no_offset tree

pub list_places_is : Asks Members LIST_PLACES.now places_query (codes "controller" ∷ codes "place" ∷ [])
list_places_is = unfold compiling in record { queries = λ tree. record { parsed = _; select = _; source = _; page = _; shown = _; read = refl; is = (refl, refl, refl, refl); core = (refl, refl, refl); from = (refl, refl, refl, refl, refl); shows = (tt, (tt, tt)); filter = ((refl, λ cx how x y. refl), tt, tt); sorts = (tt, tt); paged = λ s. refl; named = (refl, refl); becomes = (refl, (refl, refl, refl)) }; shape = λ tree. refl }

pub list_places_takes : Takes LIST_PLACES.now 1
list_places_takes = unfold compiling in record { parsed = _; read = refl; whole = omega arith; names = refl }

pub count_members_is : Counts Members COUNT_MEMBERS.now
count_members_is = unfold compiling in record { queries = λ tree. record { parsed = _; select = _; source = _; page = _; shown = _; read = refl; is = (refl, refl, refl, refl); core = (refl, refl, refl); from = (refl, refl, refl, refl, refl); shows = (tt, tt); filter = tt; sorts = tt; paged = λ s. refl; named = (refl, refl); becomes = (refl, (refl, refl, refl)) } }

pub count_members_takes : Takes COUNT_MEMBERS.now 0
count_members_takes = unfold compiling in record { parsed = _; read = refl; whole = omega arith; names = refl }

abbrev pub group_columns : List Term
group_columns = col 1 2 ∷ col 1 3 ∷ col 1 4 ∷ col 1 5 ∷ col 1 6 ∷ col 1 7 ∷ col 1 8 ∷ []

pub list_groups_is : Asks Groups LIST_GROUPS.now (in_order 2 false of_rollout group_columns no_limit no_offset) (codes "number" ∷ codes "first_place" ∷ codes "last_place" ∷ codes "started" ∷ codes "ok" ∷ codes "bad" ∷ codes "gone" ∷ [])
list_groups_is = unfold compiling in record { queries = λ tree. record { parsed = _; select = _; source = _; page = _; shown = _; read = refl; is = (refl, refl, refl, refl); core = (refl, refl, refl); from = (refl, refl, refl, refl, refl); shows = (tt, (tt, (tt, (tt, (tt, (tt, (tt, tt))))))); filter = ((refl, λ cx how x y. refl), tt, tt); sorts = (tt, tt); paged = λ s. refl; named = (refl, refl); becomes = (refl, (refl, refl, refl)) }; shape = λ tree. refl }

pub list_groups_takes : Takes LIST_GROUPS.now 1
list_groups_takes = unfold compiling in record { parsed = _; read = refl; whole = omega arith; names = refl }

pub count_groups_is : Counts Groups COUNT_GROUPS.now
count_groups_is = unfold compiling in record { queries = λ tree. record { parsed = _; select = _; source = _; page = _; shown = _; read = refl; is = (refl, refl, refl, refl); core = (refl, refl, refl); from = (refl, refl, refl, refl, refl); shows = (tt, tt); filter = tt; sorts = tt; paged = λ s. refl; named = (refl, refl); becomes = (refl, (refl, refl, refl)) } }

pub count_groups_takes : Takes COUNT_GROUPS.now 0
count_groups_takes = unfold compiling in record { parsed = _; read = refl; whole = omega arith; names = refl }

abbrev pub of_group : List Term
of_group = at_key 1 0 ∷ at_key 2 1 ∷ []

pub get_group_is : Asks Groups GET_GROUP.now (in_order 2 false of_group group_columns no_limit no_offset) (codes "number" ∷ codes "first_place" ∷ codes "last_place" ∷ codes "started" ∷ codes "ok" ∷ codes "bad" ∷ codes "gone" ∷ [])
get_group_is = unfold compiling in record { queries = λ tree. record { parsed = _; select = _; source = _; page = _; shown = _; read = refl; is = (refl, refl, refl, refl); core = (refl, refl, refl); from = (refl, refl, refl, refl, refl); shows = (tt, (tt, (tt, (tt, (tt, (tt, (tt, tt))))))); filter = ((refl, λ cx how x y. refl), ((refl, λ cx how x y. refl), tt, tt), ((refl, λ cx how x y. refl), tt, tt)); sorts = (tt, tt); paged = λ s. refl; named = (refl, refl); becomes = (refl, (refl, refl, refl)) }; shape = λ tree. refl }

pub get_group_takes : Takes GET_GROUP.now 2
get_group_takes = unfold compiling in record { parsed = _; read = refl; whole = omega arith; names = refl }

abbrev pub holding : List Term
holding = at_key 1 0 ∷ at_most 3 1 ∷ at_least 4 1 ∷ []

pub holding_group_is : Asks Groups HOLDING_GROUP.now (in_order 2 false holding group_columns no_limit no_offset) (codes "number" ∷ codes "first_place" ∷ codes "last_place" ∷ codes "started" ∷ codes "ok" ∷ codes "bad" ∷ codes "gone" ∷ [])
holding_group_is = unfold compiling in record { queries = λ tree. record { parsed = _; select = _; source = _; page = _; shown = _; read = refl; is = (refl, refl, refl, refl); core = (refl, refl, refl); from = (refl, refl, refl, refl, refl); shows = (tt, (tt, (tt, (tt, (tt, (tt, (tt, tt))))))); filter = ((refl, λ cx how x y. refl), ((refl, λ cx how x y. refl), ((refl, λ cx how x y. refl), tt, tt), ((refl, λ cx how x y. refl), tt, tt)), ((refl, λ cx how x y. refl), tt, tt)); sorts = (tt, tt); paged = λ s. refl; named = (refl, refl); becomes = (refl, (refl, refl, refl)) }; shape = λ tree. refl }

pub holding_group_takes : Takes HOLDING_GROUP.now 2
holding_group_takes = unfold compiling in record { parsed = _; read = refl; whole = omega arith; names = refl }

abbrev pub reaching : List Term
reaching = at_key 1 0 ∷ at_least 4 1 ∷ []

pub group_and_next_is : Asks Groups GROUP_AND_NEXT.now (in_order 2 false reaching group_columns (lit (Int (pos 2))) no_offset) (codes "number" ∷ codes "first_place" ∷ codes "last_place" ∷ codes "started" ∷ codes "ok" ∷ codes "bad" ∷ codes "gone" ∷ [])
group_and_next_is = unfold compiling in record { queries = λ tree. record { parsed = _; select = _; source = _; page = _; shown = _; read = refl; is = (refl, refl, refl, refl); core = (refl, refl, refl); from = (refl, refl, refl, refl, refl); shows = (tt, (tt, (tt, (tt, (tt, (tt, (tt, tt))))))); filter = ((refl, λ cx how x y. refl), ((refl, λ cx how x y. refl), tt, tt), ((refl, λ cx how x y. refl), tt, tt)); sorts = (tt, tt); paged = λ s. refl; named = (refl, refl); becomes = (refl, (refl, refl, refl)) }; shape = λ tree. refl }

pub group_and_next_takes : Takes GROUP_AND_NEXT.now 2
group_and_next_takes = unfold compiling in record { parsed = _; read = refl; whole = omega arith; names = refl }

abbrev pub rollout_terms : List Term
rollout_terms = col 0 0 ∷ lit Null ∷ col 0 1 ∷ col 0 2 ∷ col 0 3 ∷ col 0 4 ∷ col 0 5 ∷ col 0 6 ∷ col 0 7 ∷ lit (Int (pos 0)) ∷ lit (Int (pos 0)) ∷ []

pub put_rollout_is : Puts Rollouts PUT_ROLLOUT.now (Values rollout_terms 11)
put_rollout_is = unfold compiling in record { adds = λ tree. record { parsed = _; columns = _; rows = _; read = refl; statement = refl; formats = refl; fits = λ s. refl }; plain = λ tree. refl }

abbrev pub rollout_values : List Term
rollout_values = lit Null ∷ col 1 2 ∷ col 1 3 ∷ col 1 4 ∷ col 1 5 ∷ col 1 6 ∷ col 1 7 ∷ col 0 1 ∷ col 0 2 ∷ col 0 3 ∷ []

pub set_rollout_is : Changes Rollouts SET_ROLLOUT.now (changing (at_key 0 0 ∷ []) rollout_values)
set_rollout_is = unfold compiling in record { updates = λ tree. record { parsed = _; sets = _; test = _; draft = _; read = refl; is = (refl, refl); values = (tt, (tt, (tt, tt))); filter = ((refl, λ cx how x y. refl), tt, tt); known = refl; becomes = (refl, refl, refl) } }

abbrev pub member_terms : List Term
member_terms = lit Null ∷ col 0 0 ∷ col 0 1 ∷ col 0 2 ∷ []

pub put_member_is : Puts Members PUT_MEMBER.now (Values member_terms 4)
put_member_is = unfold compiling in record { adds = λ tree. record { parsed = _; columns = _; rows = _; read = refl; statement = refl; formats = refl; fits = λ s. refl }; plain = λ tree. refl }

abbrev pub members_terms : List Term
members_terms = lit Null ∷ col 0 0 ∷ col 0 1 ∷ col 0 2 ∷ lit Null ∷ col 0 0 ∷ col 0 3 ∷ col 0 4 ∷ lit Null ∷ col 0 0 ∷ col 0 5 ∷ col 0 6 ∷ lit Null ∷ col 0 0 ∷ col 0 7 ∷ col 0 8 ∷ lit Null ∷ col 0 0 ∷ col 0 9 ∷ col 0 10 ∷ lit Null ∷ col 0 0 ∷ col 0 11 ∷ col 0 12 ∷ lit Null ∷ col 0 0 ∷ col 0 13 ∷ col 0 14 ∷ lit Null ∷ col 0 0 ∷ col 0 15 ∷ col 0 16 ∷ lit Null ∷ col 0 0 ∷ col 0 17 ∷ col 0 18 ∷ lit Null ∷ col 0 0 ∷ col 0 19 ∷ col 0 20 ∷ lit Null ∷ col 0 0 ∷ col 0 21 ∷ col 0 22 ∷ lit Null ∷ col 0 0 ∷ col 0 23 ∷ col 0 24 ∷ lit Null ∷ col 0 0 ∷ col 0 25 ∷ col 0 26 ∷ lit Null ∷ col 0 0 ∷ col 0 27 ∷ col 0 28 ∷ lit Null ∷ col 0 0 ∷ col 0 29 ∷ col 0 30 ∷ lit Null ∷ col 0 0 ∷ col 0 31 ∷ col 0 32 ∷ []

pub put_members_is : Puts Members PUT_MEMBERS.now (Values members_terms 4)
put_members_is = unfold compiling in record { adds = λ tree. record { parsed = _; columns = _; rows = _; read = refl; statement = refl; formats = refl; fits = λ s. refl }; plain = λ tree. refl }

abbrev pub group_terms : List Term
group_terms = lit Null ∷ col 0 0 ∷ col 0 1 ∷ col 0 2 ∷ col 0 3 ∷ lit (Int (pos 0)) ∷ lit (Int (pos 0)) ∷ lit (Int (pos 0)) ∷ lit (Int (pos 0)) ∷ []

pub put_group_is : Puts Groups PUT_GROUP.now (Values group_terms 9)
put_group_is = unfold compiling in record { adds = λ tree. record { parsed = _; columns = _; rows = _; read = refl; statement = refl; formats = refl; fits = λ s. refl }; plain = λ tree. refl }

abbrev pub group_values : List Term
group_values = col 1 1 ∷ col 1 2 ∷ col 1 3 ∷ col 1 4 ∷ col 0 2 ∷ col 0 3 ∷ col 0 4 ∷ col 0 5 ∷ []

pub set_group_is : Changes Groups SET_GROUP.now (changing of_group group_values)
set_group_is = unfold compiling in record { updates = λ tree. record { parsed = _; sets = _; test = _; draft = _; read = refl; is = (refl, refl); values = (tt, (tt, (tt, (tt, tt)))); filter = ((refl, λ cx how x y. refl), ((refl, λ cx how x y. refl), tt, tt), ((refl, λ cx how x y. refl), tt, tt)); known = refl; becomes = (refl, refl, refl) } }

abbrev pub rule_columns : List Term
rule_columns = col 1 3 ∷ col 1 4 ∷ col 1 5 ∷ []

pub get_rule_is : Asks Rules GET_RULE.now (λ tree. simple tree of_group rule_columns) (codes "percentage" ∷ codes "success" ∷ codes "error" ∷ [])
get_rule_is = unfold compiling in record { queries = λ tree. record { parsed = _; select = _; source = _; page = _; shown = _; read = refl; is = (refl, refl, refl, refl); core = (refl, refl, refl); from = (refl, refl, refl, refl, refl); shows = (tt, (tt, (tt, tt))); filter = ((refl, λ cx how x y. refl), ((refl, λ cx how x y. refl), tt, tt), ((refl, λ cx how x y. refl), tt, tt)); sorts = tt; paged = λ s. refl; named = (refl, refl); becomes = (refl, (refl, refl, refl)) }; shape = λ tree. refl }

pub get_rule_takes : Takes GET_RULE.now 2
get_rule_takes = unfold compiling in record { parsed = _; read = refl; whole = omega arith; names = refl }

pub list_rules_is : Asks Rules LIST_RULES.now (in_order 2 false of_rollout rule_columns no_limit no_offset) (codes "percentage" ∷ codes "success" ∷ codes "error" ∷ [])
list_rules_is = unfold compiling in record { queries = λ tree. record { parsed = _; select = _; source = _; page = _; shown = _; read = refl; is = (refl, refl, refl, refl); core = (refl, refl, refl); from = (refl, refl, refl, refl, refl); shows = (tt, (tt, (tt, tt))); filter = ((refl, λ cx how x y. refl), tt, tt); sorts = (tt, tt); paged = λ s. refl; named = (refl, refl); becomes = (refl, (refl, refl, refl)) }; shape = λ tree. refl }

pub list_rules_takes : Takes LIST_RULES.now 1
list_rules_takes = unfold compiling in record { parsed = _; read = refl; whole = omega arith; names = refl }

abbrev pub rule_terms : List Term
rule_terms = lit Null ∷ col 0 0 ∷ col 0 1 ∷ col 0 2 ∷ col 0 3 ∷ col 0 4 ∷ []

pub put_rule_is : Puts Rules PUT_RULE.now (Values rule_terms 6)
put_rule_is = unfold compiling in record { adds = λ tree. record { parsed = _; columns = _; rows = _; read = refl; statement = refl; formats = refl; fits = λ s. refl }; plain = λ tree. refl }
