-- The statements on groups and histories that write, in ledgers.
use Rattle.desk_records.proofs.Common.{◌≡◌, ◌∷◌, ◌++◌, ℕ, zero, suc, ◌+◌, pos, List, [], Bool, true, length, set, slice_get, string_bytes, Option, Some, None}
use Rattle.desk_records.proofs.Common.{or_null, refl, sym, ap, subst, arith, length-map, map-append, Int, Text, plain, Row, agree, Insert, Values, State}
use Rattle.desk_records.proofs.Common.{Writes, Integer, cast, cast_all, IsHeldBy, on_content, changes_key, keys_apart, cast_int, cast_null, passes, shown_of}
use Rattle.desk_records.proofs.Common.{updates, GroupRule, entries_in, Bounds, GroupRecord, RolloutRecord, entries_of, entry_row, PlacedNumber}
use Rattle.desk_records.proofs.Common.{number_row, HoldsLedger, Ledger, AddsGroup, AddsRule, AddsNumber, SetsGroup, AddsEntry}
use Rattle.desk_records.proofs.Common.{and_group, and_entry, group_counted, cut_group, with_actions, with_groups, with_numbers, with_rollouts, with_rules, flag}
use Rattle.desk_records.proofs.Common.{group_row, groups_from, rule_row, told_group, Groups, Feedbacks, Rules, Numbers, group_table}
use Rattle.desk_records.proofs.Common.{and-true}
use Rattle.sqlite_value.specs.Keys.{first_key}
use Rattle.desk_records.specs.declared.new_entry.NewEntry.{NewEntry}
use Rattle.desk_records.proofs.ActionMeaning.{feedback_terms, number_terms}
use Rattle.desk_records.proofs.Comparisons.{numbers_equal}
use Rattle.desk_records.proofs.HoldsAfter.{ChangesOnly, ledger_after, puts}
use Rattle.desk_records.proofs.LedgerLists.{acts_stay, actions_stay, actors_stay, part_is_more, part_set, parts_stay, rows_stay}
use Rattle.desk_records.proofs.LedgerWrites.{actions_differ, numbers_differ, rollouts_differ, rules_differ}
use Rattle.desk_records.proofs.RolloutMeaning.{group_terms, group_values, of_group, rule_terms}
use Rattle.desk_records.proofs.MeaningWords.{changes}

-- ---- groups

-- a change of groups alone
groups_differ : (k : ℕ) (gs : List GroupRecord) (l : Ledger) (x : RolloutRecord) → slice_get l.records.rollouts k ≡ Some x
    → ChangesOnly Groups l (with_rollouts l (set l.records.rollouts k (with_groups x gs)))
groups_differ k gs l x there = grind (arith, rollouts_differ, rows_stay, parts_stay, actions_stay, actors_stay)

abbrev pub cut_params : ℕ → ℕ → Bounds → Row
cut_params number group bounds = Int (pos number) ∷ Int (pos group) ∷ Int (pos bounds.first) ∷ Int (pos bounds.last) ∷ []

pub adds_group : (number group : ℕ) (bounds : Bounds) (old new : State) (text : List ℕ) (count : ℕ) (l next : Ledger) (holds : HoldsLedger old.now l)
    → AddsGroup number group bounds l next
    → (w : Writes old new None (Insert (holds.spot Groups).at (Values group_terms 9)) text (cut_params number group bounds) count) → HoldsLedger new.now next
adds_group zero group bounds old new text count l next holds change w = absurd (let none = change.is_there in cc)
adds_group (suc k) group bounds old new text count l next holds change w =
    let xs = l.records.rollouts in
    let x = change.rollout in
    let g = cut_group group bounds in
    subst (HoldsLedger new.now) (sym change.next_is)
    (puts Groups l (with_rollouts l (set xs k (and_group x g))) (groups_differ k (x.groups ++ g ∷ []) l x change.is_there) holds.sorted group_terms 9 holds w
    (λ tree. refl) _ _ (λ tree. refl) (λ tree. rw (cast_int (suc k), cast_int group, cast_int bounds.first, cast_int bounds.last, cast_int 0) refl) refl refl
    (part_is_more group_row (λ (z : RolloutRecord). z.groups) x (and_group x g) g refl k group xs change.is_there change.group_is))

abbrev pub counted_params : ℕ → ℕ → Bool → ℕ → ℕ → ℕ → Row
counted_params number group started ok bad gone = Int (pos number) ∷ Int (pos group) ∷ Int (pos (flag started)) ∷ Int (pos ok) ∷ Int (pos bad) ∷ Int (pos gone)
    ∷ []

group_keyed : (given r : Row) → passes of_group given r ≡ true → agree plain (1 ∷ 2 ∷ []) r (0 ∷ 1 ∷ []) given ≡ true
unfolding first_key
group_keyed given r h = h

pub sets_group : (number group : ℕ) (started : Bool) (ok bad gone : ℕ) (old new : State) (text : List ℕ) (count : ℕ) (l next : Ledger)
    (holds : HoldsLedger old.now l) → SetsGroup number group started ok bad gone l next
    → (w : Writes old new None (changes (holds.spot Groups) of_group group_values) text
    (counted_params number group started ok bad gone) count) → HoldsLedger new.now next
sets_group zero group started ok bad gone old new text count l next holds change w = absurd (let none = change.is_there in cc)
sets_group (suc k) zero started ok bad gone old new text count l next holds change w = absurd (let none = change.is_its in cc)
sets_group (suc k) (suc j) started ok bad gone old new text count l next holds change w =
    let spot = holds.spot Groups in
    let stands = holds.stands Groups in
    let table = group_table spot.tree in
    let xs = l.records.rollouts in
    let x = change.rollout in
    let g = change.was in
    let after = group_counted started ok bad gone g in
    let params = counted_params (suc k) (suc j) started ok bad gone in
    let values = λ (row : Row). cast_all table.columns (on_content (shown_of group_values params) row) in
    let made = updates old.now.schema spot.at table _ stands.got stands.keyless old new refl text params count w in
    let changed_rows = changes_key old.now.schema table (1 ∷ 2 ∷ []) of_group params (λ i r. refl) (0 ∷ 1 ∷ []) (group_keyed params) group_values (λ i r. refl)
    old.now new.now (groups_from 1 xs)
    (keys_apart old.now.schema old.now.trees spot.at table 0 (1 ∷ 2 ∷ []) holds.sound stands.got refl refl) (holds.rows Groups) made in
    let is = part_set told_group (λ (z : RolloutRecord). z.groups) (on_content (passes of_group params)) values x (with_groups x (set x.groups j after)) (suc k)
    (suc j) g after (λ n m z. grind (arith, numbers_equal, and-true))
    (λ n m. grind (arith, cast_int)) 1 k j xs (omega arith) (omega arith) change.is_there change.is_its refl in
    subst (HoldsLedger new.now) (sym change.next_is)
    (ledger_after Groups l (with_rollouts l (set xs k (with_groups x (set x.groups j after)))) old.now new.now holds
    (record { schema = made.schema_is; sound = w.sound; others = made.applies.tables }) (subst (IsHeldBy (new.now.trees spot.tree)) is changed_rows)
    (groups_differ k (set x.groups j after) l x change.is_there) holds.sorted)

-- ---- what is said of groups

cast_or_null : (o : Option ℕ) → cast Integer (or_null (λ n. Int (pos n)) o) ≡ or_null (λ n. Int (pos n)) o
cast_or_null o = grind (arith, cast_null, cast_int)

pub adds_rule : (number group : ℕ) (rule : GroupRule) (old new : State) (text : List ℕ) (count : ℕ) (l next : Ledger) (holds : HoldsLedger old.now l)
    → AddsRule number group rule l next
    → (w : Writes old new None (Insert (holds.spot Rules).at (Values rule_terms 6)) text (rule_row number group rule) count) → HoldsLedger new.now next
adds_rule zero group rule old new text count l next holds change w = absurd (let none = change.is_there in cc)
adds_rule (suc k) group rule old new text count l next holds change w =
    let after = set l.rules k (change.its ++ rule ∷ []) in
    subst (HoldsLedger new.now) (sym change.next_is)
    (puts Rules l (with_rules l after) (rules_differ l after Rules (λ apart. absurd (apart refl))) holds.sorted rule_terms 6 holds w (λ tree. refl) _ _
    (λ tree. refl) (λ tree. rw (cast_int (suc k), cast_int group, cast_or_null rule.percentage, cast_int rule.success, cast_int rule.error) refl) refl refl
    (part_is_more rule_row (λ (its : List GroupRule). its) change.its (change.its ++ rule ∷ []) rule refl k group l.rules change.is_there change.group_is))

-- ---- the numbers of actions

pub adds_number : (number place : ℕ) (it : PlacedNumber) (old new : State) (text : List ℕ) (count : ℕ) (l next : Ledger) (holds : HoldsLedger old.now l)
    → AddsNumber number place it l next
    → (w : Writes old new None (Insert (holds.spot Numbers).at (Values number_terms 5)) text (number_row number place it) count) → HoldsLedger new.now next
adds_number zero place it old new text count l next holds change w = absurd (let none = change.is_there in cc)
adds_number (suc k) place it old new text count l next holds change w =
    let after = set l.numbers k (change.its ++ it ∷ []) in
    subst (HoldsLedger new.now) (sym change.next_is)
    (puts Numbers l (with_numbers l after) (numbers_differ l after Numbers (λ apart. absurd (apart refl))) holds.sorted number_terms 5 holds w (λ tree. refl)
    _ _ (λ tree. refl) (λ tree. rw (cast_int (suc k), cast_int place, cast_int it.sequence, cast_int it.number) refl) refl refl
    (part_is_more number_row (λ (its : List PlacedNumber). its) change.its (change.its ++ it ∷ []) it refl k place l.numbers change.is_there change.place_is))

-- ---- histories

abbrev pub entry_params : ℕ → ℕ → NewEntry → Row
entry_params number sequence entry = Int (pos number) ∷ Int (pos sequence) ∷ Int (pos entry.kind) ∷ Int (pos entry.word) ∷ Text (string_bytes entry.details)
    ∷ []

pub adds_entry : (number sequence : ℕ) (entry : NewEntry) (old new : State) (text : List ℕ) (count : ℕ) (l next : Ledger) (holds : HoldsLedger old.now l)
    → AddsEntry number sequence entry l next
    → (w : Writes old new None (Insert (holds.spot Feedbacks).at (Values feedback_terms 6)) text (entry_params number sequence entry) count)
    → HoldsLedger new.now next
adds_entry zero sequence entry old new text count l next holds change w = absurd (let none = change.is_there in cc)
adds_entry (suc k) sequence entry old new text count l next holds change w =
    let as' = l.records.actions in
    let a = change.action in
    let after = and_entry a change.reported in
    let entries : entries_in (a.history ++ change.reported ∷ []) ≡ entries_in a.history ++ change.reported.entry ∷ [] = grind (arith, map-append) in
    let at : sequence ≡ length (entries_in a.history) + 1 = grind (arith, change.sequence_is, length-map) in
    let given = entry_params (suc k) sequence entry in
    subst (HoldsLedger new.now) (sym change.next_is)
    (puts Feedbacks l (with_actions l (set as' k after) l.tallies)
    (grind (arith, actions_differ, acts_stay, change.is_there)) holds.sorted feedback_terms 6 holds w (λ tree. refl) given
    (entry_row (suc k) sequence change.reported.entry) (λ tree. refl)
    (λ tree. rw (cast_int (suc k), cast_int sequence, cast_int entry.kind, cast_int entry.word)
    (ap (λ told. Int (pos (suc k)) ∷ Int (pos sequence) ∷ told) (sym change.told.row))) refl refl
    (part_is_more entry_row entries_of a after change.reported.entry entries k sequence as' change.is_there at))
