-- The statement that makes the actions of a rollout, in ledgers.
use Rattle.desk_records.proofs.Common.{◌≡◌, ℕ, zero, suc, ◌+◌, pos, false, List, [], ◌∷◌, ◌++◌, map, drop, length, slice_get, Some, None, refl, sym, ap, ◌∙◌}
use Rattle.desk_records.proofs.Common.{arith}
use Rattle.desk_records.proofs.Common.{subst, nat_tests, zip, Null, Int, Text, Row, Queried, State, Writes, Chosen, cast_int, cast_null, cast_all, cast_row}
use Rattle.desk_records.proofs.Common.{edit_of, rows_from, uncollated, Bytes, ActionRecord, RolloutRecord, Tally, action_row, actor_of, entries_of, entry_row}
use Rattle.desk_records.proofs.Common.{flag, outcome_code}
use Rattle.desk_records.proofs.Common.{HoldsLedger, Ledger, AddsActions, and_actions, new_for, scheduled, number_row, and-true, Unordered, Actions, Feedbacks}
use Rattle.desk_records.proofs.Common.{Members, Numbers, action_table}
use Rattle.desk_records.proofs.Common.{item_numbered, listed_parts, members_of}
use Rattle.rollout_machine.proofs.Ties.{map_each}
use Rattle.rollout_machine.specs.Ranges.{each_from}
use Rattle.sqlite_rules.specs.Edit.{edited, numbered, put_all}
use Rattle.sql_calls.proofs.Inserts.{inserts_from}
use Rattle.sql_calls.proofs.NumberedRows.{puts_on}
use Rattle.desk_records.specs.Actions.{tally_of, told_action}
use Rattle.desk_records.specs.FeedbackNumbers.{numbers_of}
use Rattle.desk_records.proofs.Comparisons.{numbers_equal}
use Rattle.desk_records.proofs.HoldsAfter.{ChangesOnly, contents_differ, ledger_after}
use Rattle.desk_records.proofs.LedgerLists.{zip_on}
use Rattle.desk_records.proofs.MeaningWords.{no_limit, no_offset}
use Rattle.desk_records.proofs.MemberActionsMeaning.{member_query, new_action_columns, put_actions_command}
use Rattle.desk_records.proofs.PartReads.{all_placed, reads_parts}
use Rattle.desk_records.proofs.Parts.{no_new_parts}
use Rattle.desk_records.proofs.RolloutMeaning.{of_rollout}

abbrev pub acting_params : ℕ → Row
acting_params number = Int (pos number) ∷ []

-- ---- the rows of the source

module _ (rs : List RolloutRecord) (number : ℕ) where
  abbrev told_member : Bytes → Row
  told_member id = Text id ∷ []

  abbrev told : ℕ → Bytes → Row
  told place id = Null ∷ Null ∷ Int (pos number) ∷ Int (pos place) ∷ Text id ∷ Int (pos 0) ∷ Int (pos 0) ∷ Int (pos 0) ∷ Int (pos 0) ∷ []

  -- without its number
  abbrev unnumbered : ActionRecord × Tally → Row
  unnumbered it = Null ∷ told_action rs it

  abbrev tallied : List ActionRecord → List (ActionRecord × Tally)
  tallied as' = zip as' (map tally_of as')

  told_new : (place : ℕ) (ids : List Bytes) → ((k : ℕ) (id : Bytes) → slice_get ids k ≡ Some id → actor_of rs (scheduled number (place + k)) ≡ id)
      → rows_from told place ids ≡ map (λ it. Null ∷ unnumbered it) (tallied (each_from (scheduled number) place (length ids)))
  told_new place [] acts = refl
  told_new place (id ∷ ids) acts =
      let here : place ≡ place + 0 = omega arith in
      let next : place + 1 ≡ suc place = omega arith in
      let first : actor_of rs (scheduled number place) ≡ id = ap (λ p. actor_of rs (scheduled number p)) here ∙ acts 0 id refl in
      let more = told_new (suc place) ids (λ k x there. let at : suc place + k ≡ place + suc k = omega arith in
      ap (λ p. actor_of rs (scheduled number p)) at ∙ acts (suc k) x there) in
      (λ i. told place (sym first i) ∷ rows_from told (next i) ids) ∙ ap (λ l. told place (actor_of rs (scheduled number place)) ∷ l) more

  becomes : (tree n : ℕ) (it : ActionRecord × Tally) → Int (pos n) ∷ cast_all (action_table tree).columns (unnumbered it) ≡ action_row rs n it
  becomes tree n it = rw (
    cast_null,
    cast_int it.0.rollout,
    cast_int it.0.position,
    cast_int (flag it.0.canceling),
    cast_int (outcome_code it.0.outcome),
    cast_int it.1.notes,
    cast_int it.1.entries,
  ) refl

-- ---- the statement

-- new actions have no history, and no number was given for them
acts_only : (l : Ledger) (number count : ℕ) → ChangesOnly Actions l (and_actions l (new_for number count))
acts_only l number count =
    let new = new_for number count in
    let histories = no_new_parts entry_row entries_of (scheduled number) (λ k. refl) 1 l.records.actions 1 count in
    let numbers = ap (λ m. listed_parts number_row (l.numbers ++ m)) (map_each numbers_of (scheduled number) 1 count)
    ∙ no_new_parts number_row (λ its. its) (λ k. numbers_of (scheduled number k)) (λ k. refl) 1 l.numbers 1 count in
    contents_differ Actions l (and_actions l new) (Actions ∷ Feedbacks ∷ Numbers ∷ []) refl
    ((λ apart. absurd (apart refl)), ((λ apart. ap Unordered histories), ((λ apart. ap Unordered numbers), tt)))

pub adds_actions : (number : ℕ) (old new : State) (text : List ℕ) (count : ℕ) (l next : Ledger) (holds : HoldsLedger old.now l) → AddsActions number l next
    → (w : Writes old new None (put_actions_command (holds.spot Actions).at (holds.spot Members).tree) text (acting_params number) count)
    → HoldsLedger new.now next
adds_actions zero old new text count l next holds change w = absurd (let none = change.is_there in cc)
adds_actions (suc k) old new text count l next holds change w =
    let number = suc k in
    let rs = l.records.rollouts in
    let members = change.rollout.members in
    let spot = holds.spot Actions in
    let stands = holds.stands Actions in
    let table = action_table spot.tree in
    let from = (holds.spot Members).tree in
    let params = acting_params number in
    let row = action_row rs in
    let new_ones = new_for number (length members) in
    let pairs = zip new_ones (map tally_of new_ones) in
    let xs = zip l.records.actions l.tallies in
    let made = inserts_from old.now.schema spot.at table (Queried (record { lets = []; body = member_query from })) stands.got old new refl text params count
    w in
    let answer = uncollated from of_rollout new_action_columns _ no_limit no_offset _ _ params made.sources (made.is_source.answer Null) in
    let there : members_of (item_numbered rs number) ≡ members = ap members_of change.is_there in
    let sources : made.sources ≡ map (λ it. Null ∷ unnumbered rs number it) pairs =
    reads_parts (told_member rs number) (λ (x : RolloutRecord). x.members) from of_rollout new_action_columns no_limit no_offset params false number
    (omega arith)
    (λ id x. refl) (λ id x. refl) (λ n place id apart. and-true _ ∙ numbers_equal n number ∙ apart) old.now.trees rs (holds.rows Members) made.sources answer
    ∙ all_placed (told_member rs number) (told rs number) number of_rollout new_action_columns params
    (λ place id. grind (arith, and-true, numbers_equal, nat_tests)) (λ place id. refl) 1 (members_of (item_numbered rs number))
    ∙ ap (rows_from (told rs number) 1) there
    ∙ told_new rs number 1 members (λ j id at. let place : 1 + j ≡ suc j = omega arith in grind (arith, change.is_there, place, at)) in
    let held : new.now.trees spot.tree ≡ rows_from row 1 (zip (l.records.actions ++ new_ones) (l.tallies ++ map tally_of new_ones)) =
    made.inserted.applies.rows ∙ ap (λ rs. edited old.now.trees (edit_of old.now.trees table [] Chosen 0 rs)) sources
    ∙ ap (λ rows. put_all rows (numbered Chosen rows (map (λ s. cast_row table (drop 0 s)) (map (λ it. Null ∷ unnumbered rs number it) pairs))))
    (holds.rows Actions)
    ∙ puts_on row (λ n x. refl) table (unnumbered rs number) (becomes rs number spot.tree) xs pairs
    ∙ ap (rows_from row 1) (sym (zip_on l.records.actions l.tallies new_ones (map tally_of new_ones) change.tallied)) in
    subst (HoldsLedger new.now) (sym change.next_is)
    (ledger_after Actions l (and_actions l new_ones) old.now new.now holds
    (record { schema = made.inserted.schema_is; sound = w.sound; others = made.inserted.applies.tables }) held
    (acts_only l number (length members)) holds.sorted)
