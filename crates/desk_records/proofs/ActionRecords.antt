-- What is read of actions and offers, where a ledger is held.
use Rattle.desk_records.proofs.Common.{arith, ◌≡◌, ◌≤◌, ℕ, ◌+◌, pos, List, [], ◌∷◌, map, filter, take, drop, length, slice_get, Bool, true, false, Option, None}
use Rattle.desk_records.proofs.Common.{slice_get-map, Shows, shown_stored_action, shown_listed_action, shown_offer, option_map, refl, ap, ◌∙◌, nat_eq, zip}
use Rattle.desk_records.proofs.Common.{take-map, drop-map, Null, Int, Text, Row, Term, col, Database, plain, agree, rows_from, ShowsFirst, on_content}
use Rattle.desk_records.proofs.Common.{keys_apart, reads_key, numbered_in_order, simple, passes, shown_of, item_numbered, same_bytes, Bytes, TargetOffer}
use Rattle.desk_records.proofs.Common.{offer_to, ActionRecord, Offer, Tally, action_row, actor_of, HoldsLedger, Ledger, IsLastRow, is_to, offer_row, actions_of}
use Rattle.desk_records.proofs.Common.{actions_for, listed_where, stored_action, Actions, Offers, offer_table, and-true, Outcome, ended_for, first_taken}
use Rattle.desk_records.proofs.Common.{is_some, last_or, nat_lt, nat_le, reverse, ◌&&◌, outcome_code, ap₂}
use Rattle.sqlite_value.specs.Keys.{first_key}
use Rattle.desk_records.specs.declared.rollout_row.ListedAction.{ListedAction}
use Rattle.desk_records.proofs.ActionMeaning.{action_columns, listed_columns, of_rollout, of_actor, from_action, of_controller, offer_columns, ended_of}
use Rattle.desk_records.proofs.Comparisons.{numbers_above, numbers_at_least, numbers_equal, words_equal}
use Rattle.desk_records.proofs.MeaningWords.{at_key, first_only, greatest_number, in_order, no_limit, no_offset, selects}
use Rattle.desk_records.proofs.NumberRecords.{first_turned}
use Rattle.desk_records.proofs.NumberedReads.{gets, lasts, passes_number}
use Rattle.desk_records.proofs.PartReads.{map_reverse}
use Rattle.sql_calls.proofs.NumberedTables.{numbered_down}
use Rattle.desk_records.proofs.TargetRecords.{first_row}

module _ (db : Database) (l : Ledger) (holds : HoldsLedger db l) (names : List (List ℕ)) where
  abbrev tree : ℕ
  tree = (holds.spot Actions).tree

  abbrev xs : List (ActionRecord × Tally)
  xs = zip l.records.actions l.tallies

  abbrev row : ℕ → ActionRecord × Tally → Row
  row = action_row l.records.rollouts

  -- the last number
  pub lasts_action : (last : Option Row) → ShowsFirst (selects (greatest_number tree) names) db [] last → IsLastRow (length xs) last
  lasts_action = lasts row tree db xs (holds.rows Actions) names (λ n x. refl)

  -- an action by its number
  pub gets_action : (number : ℕ) → 1 ≤ number → (found : Option Row) → ShowsFirst (selects (simple tree (at_key 0 0 ∷ []) action_columns) names) db
      (Int (pos number) ∷ []) found → found ≡ option_map (λ it. shown_stored_action (stored_action l.records.rollouts it)) (item_numbered xs number)
  gets_action = gets row tree db xs (holds.rows Actions) names (λ n x. refl) (at_key 0 0 ∷ []) action_columns (passes_number row (λ n x. refl))

  abbrev listed : ℕ → ActionRecord × Tally → ListedAction
  listed n y = record { number = n; action = stored_action l.records.rollouts y }

  -- those that pass, in what columns show of them
  module _ (params : Row) (test columns : List Term) (told : ListedAction → Row) (wanted : ActionRecord × Tally → Bool)
      (shows : (n : ℕ) (y : ActionRecord × Tally) → shown_of columns params (row n y) ≡ told (listed n y)) where
    its_rows : ((n : ℕ) (y : ActionRecord × Tally) → passes test params (row n y) ≡ wanted y) → (n : ℕ) (ys : List (ActionRecord × Tally))
        → map (shown_of columns params) (filter (passes test params) (rows_from row n ys)) ≡ map told (listed_where wanted l.records.rollouts n ys)
    its_rows is n [] = refl
    its_rows is n (y ∷ ys) = grind (arith, its_rows is (n + 1) ys, is n y, shows n y)

    -- .. from a number on
    rows_on : (from : ℕ) → ((n : ℕ) (y : ActionRecord × Tally) → passes test params (row n y) ≡ (wanted y && nat_le from n)) → (n : ℕ)
        (ys : List (ActionRecord × Tally)) → map (shown_of columns params) (filter (passes test params) (rows_from row n ys))
        ≡ map told (filter (λ (a : ListedAction). nat_le from a.number) (listed_where wanted l.records.rollouts n ys))
    rows_on from is n [] = refl
    rows_on from is n (y ∷ ys) = grind (arith, rows_on from is (n + 1) ys, is n y, shows n y)

  its_actions : (params : Row) (test : List Term) (wanted : ActionRecord × Tally → Bool)
      → ((n : ℕ) (y : ActionRecord × Tally) → passes test params (row n y) ≡ wanted y) → (n : ℕ) (ys : List (ActionRecord × Tally))
      → map (shown_of listed_columns params) (filter (passes test params) (rows_from row n ys))
      ≡ map shown_listed_action (listed_where wanted l.records.rollouts n ys)
  its_actions params test wanted = its_rows params test listed_columns shown_listed_action wanted (λ n y. refl)

  -- a page of a rollout's, in the order of their numbers
  pub lists_actions : (rollout limit offset : ℕ) (rows : List Row) → Shows (selects (in_order 0 false of_rollout listed_columns (col 0 1) (col 0 2) tree) names)
      db (Int (pos rollout) ∷ Int (pos limit) ∷ Int (pos offset) ∷ []) rows
      → rows ≡ map shown_listed_action (take limit (drop offset (actions_of l.records.rollouts rollout 1 xs)))
  lists_actions rollout limit offset rows shows =
      let params = Int (pos rollout) ∷ Int (pos limit) ∷ Int (pos offset) ∷ [] in
      let all = actions_of l.records.rollouts rollout 1 xs in
      let its = its_actions params of_rollout (λ it. nat_eq it.0.rollout rollout) (λ n y. and-true _ ∙ numbers_equal y.0.rollout rollout) 1 xs in
      numbered_in_order row (λ n x. refl) tree of_rollout listed_columns (col 0 1) (col 0 2) params db.trees xs (holds.rows Actions) rows (shows.answer Null)
      ∙ ap (λ more. take limit (drop offset more)) its ∙ ap (take limit) (drop-map shown_listed_action offset all)
      ∙ take-map shown_listed_action limit (drop offset all)

  -- the numbers of a target's
  pub lists_action_numbers : (id : Bytes) (rows : List Row)
      → Shows (selects (in_order 0 false of_actor (col 1 0 ∷ []) no_limit no_offset tree) names) db (Text id ∷ []) rows
      → rows ≡ map (λ (a : ListedAction). Int (pos a.number) ∷ []) (actions_for l.records.rollouts id 1 xs)
  lists_action_numbers id rows shows =
      numbered_in_order row (λ n x. refl) tree of_actor (col 1 0 ∷ []) no_limit no_offset (Text id ∷ []) db.trees xs (holds.rows Actions) rows
      (shows.answer Null) ∙ its_rows (Text id ∷ []) of_actor (col 1 0 ∷ []) (λ (a : ListedAction). Int (pos a.number) ∷ [])
      (λ it. same_bytes (actor_of l.records.rollouts it.0) id) (λ n y. refl) (λ n y. and-true _ ∙ words_equal (actor_of l.records.rollouts y.0) id) 1 xs

  -- a target's from a number on
  pub lists_target_actions : (id : Bytes) (from limit : ℕ) (rows : List Row)
      → Shows (selects (in_order 0 false from_action listed_columns (col 0 2) no_offset tree) names) db
      (Text id ∷ Int (pos from) ∷ Int (pos limit) ∷ []) rows
      → rows ≡ map shown_listed_action (take limit (filter (λ (a : ListedAction). nat_le from a.number) (actions_for l.records.rollouts id 1 xs)))
  lists_target_actions id from limit rows shows =
      let params = Text id ∷ Int (pos from) ∷ Int (pos limit) ∷ [] in
      let test = λ (it : ActionRecord × Tally). same_bytes (actor_of l.records.rollouts it.0) id in
      numbered_in_order row (λ n x. refl) tree from_action listed_columns (col 0 2) no_offset params db.trees xs (holds.rows Actions) rows
      (shows.answer Null) ∙ ap (take limit) (rows_on params from_action listed_columns shown_listed_action test (λ n y. refl) from
      (λ n y. ap₂ ◌&&◌ (words_equal (actor_of l.records.rollouts y.0) id) (and-true _ ∙ numbers_at_least n from)) 1 xs)
      ∙ take-map shown_listed_action limit _

  -- the last of them that ended
  pub lasts_ended : (id : Bytes) (found : Option Row) → ShowsFirst (selects (in_order 0 true ended_of listed_columns first_only no_offset tree) names) db
      (Text id ∷ []) found
      → found ≡ option_map shown_listed_action (last_or None (ended_for l.records.rollouts id 1 xs))
  lasts_ended id found shown =
      let all = ended_for l.records.rollouts id 1 xs in
      let its = its_actions (Text id ∷ []) ended_of (λ it. same_bytes (actor_of l.records.rollouts it.0) id && is_some it.0.outcome) (ended_is id) 1 xs in
      first_row (selects (in_order 0 true ended_of listed_columns first_only no_offset tree) names) db (Text id ∷ []) _
      (λ rows shows. ap (λ (r : List Row). slice_get r 0)
      (numbered_down row (λ n x. refl) tree ended_of listed_columns first_only no_offset (Text id ∷ []) db.trees xs (holds.rows Actions)
      rows (shows.answer Null)) ∙ first_taken _ ∙ ap (λ (r : List Row). slice_get r 0)
      (map_reverse (shown_of listed_columns (Text id ∷ [])) (filter (passes ended_of (Text id ∷ [])) (rows_from row 1 xs)))
      ∙ grind (arith, its, map_reverse shown_listed_action all, slice_get-map shown_listed_action (reverse all) 0, first_turned all)) found shown
    where
      has_ended : (o : Option Outcome) → nat_lt 0 (outcome_code o) ≡ is_some o
      has_ended o = grind arith

      ended_is : (id : Bytes) (n : ℕ) (y : ActionRecord × Tally) → passes ended_of (Text id ∷ []) (row n y)
          ≡ (same_bytes (actor_of l.records.rollouts y.0) id && is_some y.0.outcome)
      ended_is id n y = grind (arith, words_equal, numbers_above, has_ended, and-true)

-- ---- offers

pub offer_keyed : (given r : Row) → passes of_controller given r ≡ true → agree plain (1 ∷ []) r (0 ∷ []) given ≡ true
unfolding first_key
offer_keyed given r h = h

-- of all rows a statement may name, those of the id
pub names_offer : (id : Bytes) (more : Row) (o : TargetOffer) → on_content (passes of_controller (Text id ∷ more)) (offer_row o) ≡ is_to id o
names_offer id more o = and-true _ ∙ words_equal o.target id

pub its_offers : (p : Row → Bool) (id : Bytes) → ((o : TargetOffer) → p (offer_row o) ≡ is_to id o) → (listed : List TargetOffer)
    → filter p (map offer_row listed) ≡ map offer_row (filter (is_to id) listed)
its_offers p id is [] = refl
its_offers p id is (o ∷ listed) = grind (arith, its_offers p id is listed, is o)

module _ (db : Database) (l : Ledger) (holds : HoldsLedger db l) (names : List (List ℕ)) (id : Bytes) where
  abbrev query_params : Row
  query_params = Text id ∷ []

  first_offer_row : (o : Option Offer) → slice_get (map (on_content (shown_of offer_columns query_params)) (map offer_row (offer_to id o))) 0
      ≡ option_map shown_offer o
  first_offer_row o = grind arith

  -- the offer of a target
  pub gets_offer : (found : Option Row) → ShowsFirst (selects (simple (holds.spot Offers).tree of_controller offer_columns) names)
      db query_params found → found ≡ option_map shown_offer (l.offers id)
  gets_offer found shown =
      let spot = holds.spot Offers in
      let held = holds.rows Offers in
      let table = offer_table spot.tree in
      first_row (selects (simple spot.tree of_controller offer_columns) names) db query_params _ (λ rows shows. ap (λ (r : List Row). slice_get r 0)
      (reads_key db.schema table (1 ∷ []) of_controller query_params (λ i x. refl) (0 ∷ []) (offer_keyed query_params) offer_columns (λ i x. refl) db.trees
      (map offer_row held.listed)
      (keys_apart db.schema db.trees spot.at table 0 (1 ∷ []) holds.sound (holds.stands Offers).got refl refl) held.held rows (shows.answer Null)
      ∙ ap (map (on_content (shown_of offer_columns query_params))) (its_offers _ id (names_offer id []) held.listed ∙ ap (map offer_row) (held.its id)))
      ∙ first_offer_row (l.offers id)) found shown
