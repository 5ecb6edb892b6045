-- What is read of the next offer, where a ledger is held.
use Rattle.desk_records.proofs.Common.{first_taken, ◌≡◌, ◌<◌, ℕ, zero, suc, ◌+◌, List, [], ◌∷◌, map, filter, length, slice_get, Bool, true, false, ◌&&◌, Option}
use Rattle.desk_records.proofs.Common.{Int, pos, nat_le, shown_offer, option_map, refl, ap, ◌∙◌, arith, nat_eq, list_any, zip, is_none, nat_tests}
use Rattle.desk_records.proofs.Common.{list_any-append, Null, Text}
use Rattle.desk_records.proofs.Common.{Row, eval_all, Database, rows_from, ShowsFirst, on_content, item_numbered, Bytes, Outcome, ActionRecord, GroupRecord}
use Rattle.desk_records.proofs.Common.{RolloutRecord, Tally, action_row, outcome_code, HoldsLedger, Ledger, parts_from, parts_of, flag, group_row, groups_from}
use Rattle.desk_records.proofs.Common.{Actions, Groups, and-true, and_assoc}
use Rattle.std.proofs.Math.Bool.{or-false}
use Rattle.sql_calls.proofs.NumberedWithin.{counts_any, held_any, is_beside, passes_within, seen, within_in_order}
use Rattle.desk_records.specs.NextOffers.{any_starts, is_next, next_offer, next_offer_from, starts_at}
use Rattle.desk_records.proofs.Comparisons.{numbers_equal, numbers_at_least, numbers_at_most, words_equal}
use Rattle.desk_records.proofs.ActionMeaning.{next_action, next_columns, next_group, next_offer_query}
use Rattle.desk_records.proofs.TargetRecords.{first_row}
use Rattle.desk_records.proofs.MeaningWords.{first_only, no_offset, selects}

-- ---- whether any part of one numbered record passes

module _ {X Y : Type 0} (f : ℕ → ℕ → Y → Row) (parts : X → List Y) (p : Row → Bool) (number : ℕ) (q : Y → Bool)
    (is : (n place : ℕ) (y : Y) → p (f n place y) ≡ (nat_eq n number && q y)) where
  any_here : (n place : ℕ) (ys : List Y) (b : Bool) → nat_eq n number ≡ b → list_any p (rows_from (f n) place ys) ≡ (b && list_any q ys)
  any_here n place [] b at = grind arith
  any_here n place (y ∷ ys) b at = grind (arith, any_here n (place + 1) ys b, is n place y)

  none_past : (n : ℕ) (xs : List X) → number < n → list_any p (parts_from f parts n xs) ≡ false
  none_past n [] h = refl
  none_past n (x ∷ xs) h = grind (arith, nat_tests, list_any-append, any_here n 1 (parts x) false, none_past (n + 1) xs)

  any_at : (n k : ℕ) (xs : List X) → n + k ≡ number → list_any p (parts_from f parts n xs) ≡ list_any q (parts_of parts (slice_get xs k))
  any_at n k [] h = refl
  any_at n zero (x ∷ xs) h = grind (arith, nat_tests, list_any-append, any_here n 1 (parts x) true, none_past (n + 1) xs, or-false)
  any_at n (suc k) (x ∷ xs) h = grind (arith, nat_tests, list_any-append, any_here n 1 (parts x) false, any_at (n + 1) k xs)

any_numbered : {X Y : Type 0} (f : ℕ → ℕ → Y → Row) (parts : X → List Y) (p : Row → Bool) (number : ℕ) (q : Y → Bool)
    → ((n place : ℕ) (y : Y) → p (f n place y) ≡ (nat_eq n number && q y)) → (xs : List X)
    → list_any p (parts_from f parts 1 xs) ≡ list_any q (parts_of parts (item_numbered xs number))
any_numbered f parts p zero q is xs = none_past f parts p zero q is 1 xs (omega arith)
any_numbered f parts p (suc k) q is xs = any_at f parts p (suc k) q is 1 k xs (omega arith)

-- ---- the query

is_open : (o : Option Outcome) → nat_eq (outcome_code o) 0 ≡ is_none o
is_open o = grind arith

is_started : (b : Bool) → nat_eq (flag b) 1 ≡ b
is_started b = grind arith

module _ (db : Database) (l : Ledger) (holds : HoldsLedger db l) (names : List (List ℕ)) (id : Bytes) (k : ℕ) where
  abbrev tree : ℕ
  tree = (holds.spot Actions).tree

  abbrev other : ℕ
  other = (holds.spot Groups).tree

  abbrev rollouts : List RolloutRecord
  rollouts = l.records.rollouts

  abbrev row : ℕ → ActionRecord × Tally → Row
  row = action_row rollouts

  abbrev params : Row
  params = Text id ∷ Int (pos k) ∷ []

  beside_it : (n : ℕ) (it : ActionRecord × Tally) (m place : ℕ) (g : GroupRecord) → on_content (is_beside next_group params (row n it)) (group_row m place g)
      ≡ (nat_eq m it.0.rollout && starts_at it.0.position g)
  beside_it n it m place g = grind (arith, numbers_equal, numbers_at_most, numbers_at_least, nat_tests, and-true, and_assoc)

  any_beside : (n : ℕ) (it : ActionRecord × Tally) → list_any (is_beside next_group params (row n it)) (db.trees other) ≡ any_starts rollouts it.0
  any_beside n it =
      held_any (is_beside next_group params (row n it)) (λ v x. refl) (db.trees other) (groups_from 1 rollouts) (holds.rows Groups)
      ∙ any_numbered group_row (λ (x : RolloutRecord). x.groups) (on_content (is_beside next_group params (row n it))) it.0.rollout (starts_at it.0.position)
      (beside_it n it) rollouts

  abbrev passes : Row → Bool
  passes = passes_within row (λ n x. refl) tree other next_group next_action next_columns first_only no_offset params (db.trees other)

  abbrev show : Row → Row
  show r = eval_all next_columns (seen row (λ n x. refl) tree other next_group next_action next_columns first_only no_offset params (db.trees other) r)

  passes_is : (n : ℕ) (it : ActionRecord × Tally) → passes (row n it) ≡ (nat_le k n && is_next rollouts id it.0)
  passes_is n it = grind (arith, words_equal, numbers_equal, numbers_at_least, is_open, counts_any, any_beside, and-true)

  first_next : (n : ℕ) (as' : List ActionRecord) (ts : List Tally) → length ts ≡ length as'
      → slice_get (map show (filter passes (rows_from row n (zip as' ts)))) 0 ≡ option_map shown_offer (next_offer_from rollouts id k n as')
  first_next n [] ts same = refl
  first_next n (a ∷ as') [] same = absurd (omega (arith, same))
  first_next n (a ∷ as') (t ∷ ts) same = grind (arith, passes_is n (a, t), first_next (n + 1) as' ts)

  -- what a target is offered next, of the actions of a number or more
  pub gets_next_offer : length l.tallies ≡ length l.records.actions → (found : Option Row) → ShowsFirst (selects (next_offer_query tree other) names) db params
      found → found ≡ option_map shown_offer (next_offer l.records id k)
  gets_next_offer tallied found shown =
      first_row (selects (next_offer_query tree other) names) db params _ (λ rows shows. ap (λ (r : List Row). slice_get r 0)
      (within_in_order row (λ n x. refl) tree other next_group next_action next_columns first_only no_offset params db.trees
      (zip l.records.actions l.tallies) (holds.rows Actions) rows (shows.answer Null))
      ∙ first_taken (map show (filter passes (rows_from row 1 (zip l.records.actions l.tallies)))) ∙ first_next 1 l.records.actions l.tallies tallied) found
      shown
