-- What is read of rollouts and groups, where a ledger is held.
use Rattle.desk_records.proofs.Common.{all_of, filter_all, sym, IsAnswer, IsBlind, overlay, page, ◌≡◌, ◌≤◌, ◌&&◌, ℕ, ◌+◌, pos, List, [], ◌∷◌, map, filter, take}
use Rattle.desk_records.proofs.Common.{Shows, shown_group, drop, find, length, slice_get, Bool, true, false, Option, option_map, refl, ap, ◌∙◌, arith, nat_eq}
use Rattle.desk_records.proofs.Common.{nat_le, list_any, is_some, take-map, nat_tests, Null, Int, Text, Row, Term, lit, col, Database, rows_from, ShowsFirst}
use Rattle.desk_records.proofs.Common.{on_content, simple, passes, shown_of, GroupRule, item_numbered, Bytes, holds_position, GroupRecord, RolloutRecord}
use Rattle.desk_records.proofs.Common.{IsLastRow, Rollouts, Groups, Members, Rules, parts_of, is_called, rollout_row, told_rollout, group_row, told_group}
use Rattle.desk_records.proofs.Common.{numbered_from, groups_of, members_of, rule_numbered, rules_numbered, that_reach, told_rule, HoldsLedger, Ledger}
use Rattle.desk_records.proofs.Common.{and-true}
use Rattle.rollout_machine.specs.StateWords.{group_numbered, group_holding}
use Rattle.desk_records.proofs.Comparisons.{numbers_above, numbers_equal, numbers_at_least, numbers_at_most, words_equal}
use Rattle.desk_records.proofs.MeaningWords.{at_key, greatest_number, in_order, no_limit, no_offset, selects}
use Rattle.desk_records.proofs.RolloutMeaning.{same_name, rollout_columns, of_rollout, group_columns, of_group, holding, reaching, after_place, member_columns}
use Rattle.desk_records.proofs.RolloutMeaning.{rule_columns}
use Rattle.desk_records.proofs.NumberedReads.{finds, gets, lasts, passes_number}
use Rattle.desk_records.proofs.PartReads.{later_shown, place_query, reads_listed, reads_parts, unplaced}
use Rattle.desk_records.proofs.PlacedParts.{gets_part}
use Rattle.desk_records.proofs.TargetRecords.{first_row}

module _ (db : Database) (l : Ledger) (holds : HoldsLedger db l) (names : List (List ℕ)) where
  abbrev tree : ℕ
  tree = (holds.spot Rollouts).tree

  abbrev xs : List RolloutRecord
  xs = l.records.rollouts

  -- whether a name is taken
  pub finds_rollout : (name : Bytes) (row : Option Row) → ShowsFirst (selects (simple tree same_name (col 1 0 ∷ [])) names) db
      (Text name ∷ []) row → is_some row ≡ list_any (is_called name) xs
  finds_rollout name = finds rollout_row tree db xs (holds.rows Rollouts) names same_name (col 1 0 ∷ []) (Text name ∷ []) (is_called name)
      (λ n x. and-true _ ∙ words_equal x.plan.name name)

  -- the last number
  pub lasts_rollout : (row : Option Row) → ShowsFirst (selects (greatest_number tree) names) db [] row → IsLastRow (length xs) row
  lasts_rollout = lasts rollout_row tree db xs (holds.rows Rollouts) names (λ n x. refl)

  -- a rollout by its number
  pub gets_rollout : (number : ℕ) → 1 ≤ number → (row : Option Row) → ShowsFirst (selects (simple tree (at_key 0 0 ∷ []) rollout_columns) names) db
      (Int (pos number) ∷ []) row → row ≡ option_map told_rollout (item_numbered xs number)
  gets_rollout = gets rollout_row tree db xs (holds.rows Rollouts) names (λ n x. refl) (at_key 0 0 ∷ []) rollout_columns
      (passes_number rollout_row (λ n x. refl))

-- ---- groups

shown_groups : (rollout : ℕ) (test : List Term) (params : Row) (wanted : GroupRecord → Bool)
    → ((place : ℕ) (g : GroupRecord) → on_content (passes test params) (group_row rollout place g) ≡ wanted (record g { number = place }))
    → (n : ℕ) (gs : List GroupRecord)
    → map (on_content (shown_of group_columns params)) (filter (on_content (passes test params)) (rows_from (group_row rollout) n gs))
    ≡ map shown_group (filter wanted (numbered_from n gs))
shown_groups rollout test params wanted is n [] = refl
shown_groups rollout test params wanted is n (g ∷ gs) = grind (arith, shown_groups rollout test params wanted is (n + 1) gs, is n g)

first_kept : (wanted : GroupRecord → Bool) (gs : List GroupRecord) → slice_get (map shown_group (filter wanted gs)) 0 ≡ option_map shown_group (find wanted gs)
first_kept wanted [] = refl
first_kept wanted (g ∷ gs) = grind (arith, first_kept wanted gs)

module _ (db : Database) (l : Ledger) (holds : HoldsLedger db l) (names : List (List ℕ)) where
  abbrev at : ℕ
  at = (holds.spot Groups).tree

  abbrev found : ℕ → List GroupRecord
  found number = groups_of (item_numbered l.records.rollouts number)

  -- those that pass, in the order of their numbers
  groups_where : (test : List Term) (limit offset : Term) (params : Row) (number : ℕ) → 1 ≤ number → IsBlind (passes test params)
      → (wanted : GroupRecord → Bool)
      → ((n k : ℕ) (g : GroupRecord) → on_content (passes test params) (group_row n k g) ≡ (nat_eq n number && wanted (record g { number = k })))
      → (rows : List Row)
      → IsAnswer (place_query told_group (λ (x : RolloutRecord). x.groups) at test group_columns limit offset params false) (overlay db.trees []) params rows
      → rows ≡ page (place_query told_group (λ (x : RolloutRecord). x.groups) at test group_columns limit offset params false) params
      (map shown_group (filter wanted (found number)))
  groups_where test limit offset params number least blind wanted is rows answer =
      reads_parts told_group (λ (x : RolloutRecord). x.groups) at test group_columns limit offset params false number least blind (λ id x. refl)
      (λ n k g apart. is n k g ∙ ap (λ b. b && wanted (record g { number = k })) apart) db.trees l.records.rollouts (holds.rows Groups) rows answer
      ∙ grind (arith, shown_groups number test params wanted (λ k g. grind (arith, is number k g, nat_tests)) 1)

  pub lists_groups : (number : ℕ) → 1 ≤ number → (rows : List Row) → Shows (selects (in_order 2 false of_rollout group_columns no_limit no_offset at) names) db
      (Int (pos number) ∷ []) rows → rows ≡ map shown_group (found number)
  lists_groups number least rows shows =
      groups_where of_rollout no_limit no_offset (Int (pos number) ∷ []) number least (λ id x. refl) (λ g. true)
      (λ n k g. and-true _ ∙ numbers_equal n number ∙ sym (and-true _)) rows (shows.answer Null)
      ∙ ap (map shown_group) (filter_all _ _ (all_of _ (λ g. refl) (found number)))

  -- the group of a number
  pub gets_group : (number place : ℕ) → 1 ≤ number → (row : Option Row)
      → ShowsFirst (selects (in_order 2 false of_group group_columns no_limit no_offset at) names) db
      (Int (pos number) ∷ Int (pos place) ∷ []) row
      → row ≡ option_map shown_group (group_numbered place (found number))
  gets_group number place least row shown =
      let params = Int (pos number) ∷ Int (pos place) ∷ [] in
      first_row (selects (in_order 2 false of_group group_columns no_limit no_offset at) names) db params _ (λ rows shows. ap (λ (l : List Row). slice_get l 0)
      (groups_where of_group no_limit no_offset params number least (λ id x. refl) (λ g. nat_eq g.number place)
      (λ n k g. rw (numbers_equal n number, numbers_equal k place, and-true (nat_eq k place)) refl) rows (shows.answer Null))
      ∙ first_kept (λ g. nat_eq g.number place) (found number)) row shown

  -- the group that has a place
  pub holds_group : (number place : ℕ) → 1 ≤ number → (row : Option Row)
      → ShowsFirst (selects (in_order 2 false holding group_columns no_limit no_offset at) names) db
      (Int (pos number) ∷ Int (pos place) ∷ []) row
      → row ≡ option_map shown_group (group_holding place (found number))
  holds_group number place least row shown =
      let params = Int (pos number) ∷ Int (pos place) ∷ [] in
      first_row (selects (in_order 2 false holding group_columns no_limit no_offset at) names) db params _ (λ rows shows. ap (λ (l : List Row). slice_get l 0)
      (groups_where holding no_limit no_offset params number least (λ id x. refl) (λ g. holds_position place g.bounds)
      (λ n k g. grind (arith, numbers_equal, numbers_at_most, numbers_at_least, and-true)) rows (shows.answer Null))
      ∙ first_kept (λ g. holds_position place g.bounds) (found number)) row shown

  -- the first two groups that reach a place
  pub gets_group_and_next : (number place : ℕ) → 1 ≤ number → (rows : List Row)
      → Shows (selects (in_order 2 false reaching group_columns (lit (Int (pos 2))) no_offset at) names) db
      (Int (pos number) ∷ Int (pos place) ∷ []) rows
      → rows ≡ map shown_group (take 2 (that_reach place (found number)))
  gets_group_and_next number place least rows shows =
      groups_where reaching (lit (Int (pos 2))) no_offset (Int (pos number) ∷ Int (pos place) ∷ []) number least (λ id x. refl)
      (λ g. nat_le place g.bounds.last)
      (λ n k g. rw (numbers_equal n number, numbers_at_least g.bounds.last place, and-true (nat_le place g.bounds.last)) refl) rows (shows.answer Null)
      ∙ take-map shown_group 2 (that_reach place (found number))

-- ---- members

module _ (db : Database) (l : Ledger) (holds : HoldsLedger db l) (names : List (List ℕ)) where
  -- a page of them in the order of their places
  pub lists_members : (number offset limit : ℕ) → 1 ≤ number → (rows : List Row)
      → Shows (selects (in_order 2 false after_place member_columns (col 0 2) no_offset (holds.spot Members).tree) names) db
      (Int (pos number) ∷ Int (pos offset) ∷ Int (pos limit) ∷ []) rows
      → rows ≡ map (λ (id : Bytes). Text id ∷ []) (take limit (drop offset (members_of (item_numbered l.records.rollouts number))))
  lists_members number offset limit least rows shows =
      let params = Int (pos number) ∷ Int (pos offset) ∷ Int (pos limit) ∷ [] in
      let told = λ (id : Bytes). Text id ∷ [] in
      let all = members_of (item_numbered l.records.rollouts number) in
      reads_parts told (λ (x : RolloutRecord). x.members) (holds.spot Members).tree after_place member_columns (col 0 2) no_offset params false number
      least (λ id x. refl) (λ id x. refl) (λ n place id apart. grind (arith, numbers_equal, numbers_above, apart))
      db.trees l.records.rollouts (holds.rows Members) rows (shows.answer Null)
      ∙ ap (take limit) (later_shown told told number after_place member_columns params offset
      (λ place id. grind (arith, numbers_equal, numbers_above, and-true, nat_tests)) (λ place id. refl) 0 offset (omega arith) all)
      ∙ take-map told limit (drop offset all)

-- ---- what is said of groups

module _ (db : Database) (l : Ledger) (holds : HoldsLedger db l) (names : List (List ℕ)) where
  -- of the group of a number
  pub gets_rule : (number group : ℕ) → 1 ≤ number → (row : Option Row) → ShowsFirst (selects (simple (holds.spot Rules).tree of_group rule_columns) names) db
      (Int (pos number) ∷ Int (pos group) ∷ []) row → row ≡ option_map told_rule (rule_numbered l.rules number group)
  gets_rule number group least = gets_part told_rule (λ (its : List GroupRule). its) (parts_of (λ (its : List GroupRule). its)) refl (λ its. refl)
      (holds.spot Rules).tree db l.rules (holds.rows Rules) names rule_columns number group least (λ id x. refl)

  -- in the order of their numbers
  pub lists_rules : (number : ℕ) → 1 ≤ number → (rows : List Row)
      → Shows (selects (in_order 2 false of_rollout rule_columns no_limit no_offset (holds.spot Rules).tree) names)
      db (Int (pos number) ∷ []) rows → rows ≡ map told_rule (rules_numbered l.rules number)
  lists_rules number least rows shows =
      reads_listed told_rule (holds.spot Rules).tree rule_columns no_limit no_offset number false least (λ id x. refl)
      (λ place. told_rule) (λ place rule. refl) db.trees l.rules (holds.rows Rules) rows (shows.answer Null)
      ∙ unplaced told_rule 1 (rules_numbered l.rules number)
