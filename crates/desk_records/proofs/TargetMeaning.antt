-- Written by tools/gen/sql-proofs. What it makes is proved; the tool is not trusted.
-- What the texts of src/target_texts.rt mean, wherever their tables stand.
use Rattle.desk_records.proofs.Common.{refl, List, [], ◌∷◌, ℕ, codes, pos, negsuc, false, arith, Null, Int, Binary, Values, Query, Term, lit, col, simple, by}
use Rattle.sql_calls.specs.private.Means.{Takes}
use Rattle.desk_records.specs.declared.target_texts.TheConstants.{GET_TARGET, COUNT_TARGETS, LIST_ALL_TARGETS, LIST_TARGET_IDS, LIST_TARGETS_BETWEEN, LIST_TARGET_TAGS, LIST_TAGS_BETWEEN, LIST_TAG_BETWEEN, PUT_TARGET, SET_TARGET, PUT_TARGET_TAG, DROP_TARGET_TAG, LIST_TARGET_ATTRIBUTES, LIST_ATTRIBUTES_BETWEEN, PUT_TARGET_ATTRIBUTE, SET_TARGET_ATTRIBUTE}
use Rattle.desk_records.specs.Schema.{Targets, TargetTags, TargetAttributes}
use Rattle.desk_records.proofs.MeaningWords.{compiling, Asks, Counts, Puts, Changes, Drops, at_key, at_least, at_most, in_order, changing, no_limit, no_offset}

abbrev pub of_target : List Term
of_target = at_key 1 0 ∷ []

abbrev pub target_columns : List Term
target_columns = col 1 2 ∷ col 1 3 ∷ []

pub get_target_is : Asks Targets GET_TARGET.now (λ tree. simple tree of_target target_columns) (codes "name" ∷ codes "digest" ∷ [])
get_target_is = unfold compiling in record { queries = λ tree. record { parsed = _; select = _; source = _; page = _; shown = _; read = refl; is = (refl, refl, refl, refl); core = (refl, refl, refl); from = (refl, refl, refl, refl, refl); shows = (tt, (tt, tt)); filter = ((refl, λ cx how x y. refl), tt, tt); sorts = tt; paged = λ s. refl; named = (refl, refl); becomes = (refl, (refl, refl, refl)) }; shape = λ tree. refl }

pub get_target_takes : Takes GET_TARGET.now 1
get_target_takes = unfold compiling in record { parsed = _; read = refl; whole = omega arith; names = refl }

pub count_targets_is : Counts Targets COUNT_TARGETS.now
count_targets_is = unfold compiling in record { queries = λ tree. record { parsed = _; select = _; source = _; page = _; shown = _; read = refl; is = (refl, refl, refl, refl); core = (refl, refl, refl); from = (refl, refl, refl, refl, refl); shows = (tt, tt); filter = tt; sorts = tt; paged = λ s. refl; named = (refl, refl); becomes = (refl, (refl, refl, refl)) } }

pub count_targets_takes : Takes COUNT_TARGETS.now 0
count_targets_takes = unfold compiling in record { parsed = _; read = refl; whole = omega arith; names = refl }

abbrev pub listed_target_columns : List Term
listed_target_columns = col 1 1 ∷ col 1 2 ∷ []

pub list_all_targets_is : Asks Targets LIST_ALL_TARGETS.now (in_order 1 false [] listed_target_columns no_limit no_offset) (codes "controller" ∷ codes "name" ∷ [])
list_all_targets_is = unfold compiling in record { queries = λ tree. record { parsed = _; select = _; source = _; page = _; shown = _; read = refl; is = (refl, refl, refl, refl); core = (refl, refl, refl); from = (refl, refl, refl, refl, refl); shows = (tt, (tt, tt)); filter = tt; sorts = (tt, tt); paged = λ s. refl; named = (refl, refl); becomes = (refl, (refl, refl, refl)) }; shape = λ tree. refl }

pub list_all_targets_takes : Takes LIST_ALL_TARGETS.now 0
list_all_targets_takes = unfold compiling in record { parsed = _; read = refl; whole = omega arith; names = refl }

abbrev pub target_id_columns : List Term
target_id_columns = col 1 1 ∷ []

pub list_target_ids_is : Asks Targets LIST_TARGET_IDS.now (in_order 1 false [] target_id_columns no_limit no_offset) (codes "controller" ∷ [])
list_target_ids_is = unfold compiling in record { queries = λ tree. record { parsed = _; select = _; source = _; page = _; shown = _; read = refl; is = (refl, refl, refl, refl); core = (refl, refl, refl); from = (refl, refl, refl, refl, refl); shows = (tt, tt); filter = tt; sorts = (tt, tt); paged = λ s. refl; named = (refl, refl); becomes = (refl, (refl, refl, refl)) }; shape = λ tree. refl }

pub list_target_ids_takes : Takes LIST_TARGET_IDS.now 0
list_target_ids_takes = unfold compiling in record { parsed = _; read = refl; whole = omega arith; names = refl }

abbrev pub between_ids : List Term
between_ids = at_least 1 0 ∷ at_most 1 1 ∷ []

pub list_targets_between_is : Asks Targets LIST_TARGETS_BETWEEN.now (in_order 1 false between_ids listed_target_columns no_limit no_offset) (codes "controller" ∷ codes "name" ∷ [])
list_targets_between_is = unfold compiling in record { queries = λ tree. record { parsed = _; select = _; source = _; page = _; shown = _; read = refl; is = (refl, refl, refl, refl); core = (refl, refl, refl); from = (refl, refl, refl, refl, refl); shows = (tt, (tt, tt)); filter = ((refl, λ cx how x y. refl), ((refl, λ cx how x y. refl), tt, tt), ((refl, λ cx how x y. refl), tt, tt)); sorts = (tt, tt); paged = λ s. refl; named = (refl, refl); becomes = (refl, (refl, refl, refl)) }; shape = λ tree. refl }

pub list_targets_between_takes : Takes LIST_TARGETS_BETWEEN.now 2
list_targets_between_takes = unfold compiling in record { parsed = _; read = refl; whole = omega arith; names = refl }

pub list_target_tags_is : Asks TargetTags LIST_TARGET_TAGS.now (in_order 2 false of_target (col 1 2 ∷ []) no_limit no_offset) (codes "tag" ∷ [])
list_target_tags_is = unfold compiling in record { queries = λ tree. record { parsed = _; select = _; source = _; page = _; shown = _; read = refl; is = (refl, refl, refl, refl); core = (refl, refl, refl); from = (refl, refl, refl, refl, refl); shows = (tt, tt); filter = ((refl, λ cx how x y. refl), tt, tt); sorts = (tt, tt); paged = λ s. refl; named = (refl, refl); becomes = (refl, (refl, refl, refl)) }; shape = λ tree. refl }

pub list_target_tags_takes : Takes LIST_TARGET_TAGS.now 1
list_target_tags_takes = unfold compiling in record { parsed = _; read = refl; whole = omega arith; names = refl }

abbrev pub owned_tag_columns : List Term
owned_tag_columns = col 1 1 ∷ col 1 2 ∷ []

abbrev pub tags_between : ℕ → Query
tags_between tree = by (simple tree between_ids owned_tag_columns) ((col 1 1, record { descending = false; collation = Binary }) ∷ (col 1 2, record { descending = false; collation = Binary }) ∷ []) (lit (Int (negsuc 0))) (lit (Int (pos 0)))

pub list_tags_between_is : Asks TargetTags LIST_TAGS_BETWEEN.now tags_between (codes "controller" ∷ codes "tag" ∷ [])
list_tags_between_is = unfold compiling in record { queries = λ tree. record { parsed = _; select = _; source = _; page = _; shown = _; read = refl; is = (refl, refl, refl, refl); core = (refl, refl, refl); from = (refl, refl, refl, refl, refl); shows = (tt, (tt, tt)); filter = ((refl, λ cx how x y. refl), ((refl, λ cx how x y. refl), tt, tt), ((refl, λ cx how x y. refl), tt, tt)); sorts = (tt, (tt, tt)); paged = λ s. refl; named = (refl, refl); becomes = (refl, (refl, refl, refl)) }; shape = λ tree. refl }

pub list_tags_between_takes : Takes LIST_TAGS_BETWEEN.now 2
list_tags_between_takes = unfold compiling in record { parsed = _; read = refl; whole = omega arith; names = refl }

abbrev pub tagged_between_ids : List Term
tagged_between_ids = at_least 1 0 ∷ at_most 1 1 ∷ at_key 2 2 ∷ []

abbrev pub tag_between : ℕ → Query
tag_between tree = by (simple tree tagged_between_ids owned_tag_columns) ((col 1 1, record { descending = false; collation = Binary }) ∷ (col 1 2, record { descending = false; collation = Binary }) ∷ []) (lit (Int (negsuc 0))) (lit (Int (pos 0)))

pub list_tag_between_is : Asks TargetTags LIST_TAG_BETWEEN.now tag_between (codes "controller" ∷ codes "tag" ∷ [])
list_tag_between_is = unfold compiling in record { queries = λ tree. record { parsed = _; select = _; source = _; page = _; shown = _; read = refl; is = (refl, refl, refl, refl); core = (refl, refl, refl); from = (refl, refl, refl, refl, refl); shows = (tt, (tt, tt)); filter = ((refl, λ cx how x y. refl), ((refl, λ cx how x y. refl), ((refl, λ cx how x y. refl), tt, tt), ((refl, λ cx how x y. refl), tt, tt)), ((refl, λ cx how x y. refl), tt, tt)); sorts = (tt, (tt, tt)); paged = λ s. refl; named = (refl, refl); becomes = (refl, (refl, refl, refl)) }; shape = λ tree. refl }

pub list_tag_between_takes : Takes LIST_TAG_BETWEEN.now 3
list_tag_between_takes = unfold compiling in record { parsed = _; read = refl; whole = omega arith; names = refl }

abbrev pub target_terms : List Term
target_terms = lit Null ∷ col 0 0 ∷ col 0 1 ∷ col 0 2 ∷ []

pub put_target_is : Puts Targets PUT_TARGET.now (Values target_terms 4)
put_target_is = unfold compiling in record { adds = λ tree. record { parsed = _; columns = _; rows = _; read = refl; statement = refl; formats = refl; fits = λ s. refl }; plain = λ tree. refl }

abbrev pub new_values : List Term
new_values = col 1 1 ∷ col 0 1 ∷ col 0 2 ∷ []

pub set_target_is : Changes Targets SET_TARGET.now (changing of_target new_values)
set_target_is = unfold compiling in record { updates = λ tree. record { parsed = _; sets = _; test = _; draft = _; read = refl; is = (refl, refl); values = (tt, (tt, tt)); filter = ((refl, λ cx how x y. refl), tt, tt); known = refl; becomes = (refl, refl, refl) } }

abbrev pub tag_terms : List Term
tag_terms = lit Null ∷ col 0 0 ∷ col 0 1 ∷ []

pub put_target_tag_is : Puts TargetTags PUT_TARGET_TAG.now (Values tag_terms 3)
put_target_tag_is = unfold compiling in record { adds = λ tree. record { parsed = _; columns = _; rows = _; read = refl; statement = refl; formats = refl; fits = λ s. refl }; plain = λ tree. refl }

abbrev pub of_tag : List Term
of_tag = at_key 1 0 ∷ at_key 2 1 ∷ []

pub drop_target_tag_is : Drops TargetTags DROP_TARGET_TAG.now (λ tree. simple tree of_tag (col 1 0 ∷ []))
drop_target_tag_is = unfold compiling in record { removes = λ tree. record { parsed = _; test = _; draft = _; read = refl; is = (refl, refl); filter = ((refl, λ cx how x y. refl), ((refl, λ cx how x y. refl), tt, tt), ((refl, λ cx how x y. refl), tt, tt)); known = refl; becomes = (refl, refl, refl) } }

pub list_target_attributes_is : Asks TargetAttributes LIST_TARGET_ATTRIBUTES.now (in_order 2 false of_target (col 1 2 ∷ col 1 3 ∷ []) no_limit no_offset) (codes "key" ∷ codes "value" ∷ [])
list_target_attributes_is = unfold compiling in record { queries = λ tree. record { parsed = _; select = _; source = _; page = _; shown = _; read = refl; is = (refl, refl, refl, refl); core = (refl, refl, refl); from = (refl, refl, refl, refl, refl); shows = (tt, (tt, tt)); filter = ((refl, λ cx how x y. refl), tt, tt); sorts = (tt, tt); paged = λ s. refl; named = (refl, refl); becomes = (refl, (refl, refl, refl)) }; shape = λ tree. refl }

pub list_target_attributes_takes : Takes LIST_TARGET_ATTRIBUTES.now 1
list_target_attributes_takes = unfold compiling in record { parsed = _; read = refl; whole = omega arith; names = refl }

abbrev pub owned_attribute_columns : List Term
owned_attribute_columns = col 1 1 ∷ col 1 2 ∷ col 1 3 ∷ []

abbrev pub attributes_between : ℕ → Query
attributes_between tree = by (simple tree between_ids owned_attribute_columns) ((col 1 1, record { descending = false; collation = Binary }) ∷ (col 1 2, record { descending = false; collation = Binary }) ∷ []) (lit (Int (negsuc 0))) (lit (Int (pos 0)))

pub list_attributes_between_is : Asks TargetAttributes LIST_ATTRIBUTES_BETWEEN.now attributes_between (codes "controller" ∷ codes "key" ∷ codes "value" ∷ [])
list_attributes_between_is = unfold compiling in record { queries = λ tree. record { parsed = _; select = _; source = _; page = _; shown = _; read = refl; is = (refl, refl, refl, refl); core = (refl, refl, refl); from = (refl, refl, refl, refl, refl); shows = (tt, (tt, (tt, tt))); filter = ((refl, λ cx how x y. refl), ((refl, λ cx how x y. refl), tt, tt), ((refl, λ cx how x y. refl), tt, tt)); sorts = (tt, (tt, tt)); paged = λ s. refl; named = (refl, refl); becomes = (refl, (refl, refl, refl)) }; shape = λ tree. refl }

pub list_attributes_between_takes : Takes LIST_ATTRIBUTES_BETWEEN.now 2
list_attributes_between_takes = unfold compiling in record { parsed = _; read = refl; whole = omega arith; names = refl }

abbrev pub attribute_terms : List Term
attribute_terms = lit Null ∷ col 0 0 ∷ col 0 1 ∷ col 0 2 ∷ []

pub put_target_attribute_is : Puts TargetAttributes PUT_TARGET_ATTRIBUTE.now (Values attribute_terms 4)
put_target_attribute_is = unfold compiling in record { adds = λ tree. record { parsed = _; columns = _; rows = _; read = refl; statement = refl; formats = refl; fits = λ s. refl }; plain = λ tree. refl }

abbrev pub of_attribute : List Term
of_attribute = at_key 1 0 ∷ at_key 2 1 ∷ []

abbrev pub new_value : List Term
new_value = col 1 1 ∷ col 1 2 ∷ col 0 2 ∷ []

pub set_target_attribute_is : Changes TargetAttributes SET_TARGET_ATTRIBUTE.now (changing of_attribute new_value)
set_target_attribute_is = unfold compiling in record { updates = λ tree. record { parsed = _; sets = _; test = _; draft = _; read = refl; is = (refl, refl); values = (tt, tt); filter = ((refl, λ cx how x y. refl), ((refl, λ cx how x y. refl), tt, tt), ((refl, λ cx how x y. refl), tt, tt)); known = refl; becomes = (refl, refl, refl) } }
