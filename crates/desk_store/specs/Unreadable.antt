-- What tables have that can't be read.
use Rattle.std.specs.Prelude.{◌≡◌, ◌≤◌, ◌^◌, ◌&&◌, ℕ, nat_lt, Bool, true, false, List, [], ◌∷◌, filter, length, map, None, pos}
use Rattle.std.specs.List.Sorted.{IsNonDecreasingBy}
use Rattle.sqlite_value.specs.Order.{Row, column}
use Rattle.sqlite_rules.specs.Lists.{Has}
use Rattle.sqlite_trees.specs.Tree.{has_rowid}
use Rattle.rollout_machine.specs.Commands.{Bytes}
use Rattle.desk_records.specs.CheckedRows.{is_too_long}
use Rattle.desk_records.specs.Codes.{number_in}
use Rattle.desk_records.specs.Columns.{has_bytes}
use Rattle.desk_records.specs.EntryRow.{BreaksSequenced}
use Rattle.rollout_model.specs.declared.group_rule.GroupRule.{GroupRule}
use Rattle.desk_records.specs.FoundPieces.{lies_at}
use Rattle.desk_records.specs.Listings.{AreSaid, HasNumber, has_at, has_text_at}
use Rattle.desk_records.specs.PlaceLists.{SaysMember, is_of}
use Rattle.desk_records.specs.ReadRows.{broken_number_column, broken_stored_rollout_column, broken_rule_column, columns_of_stored_action, columns_of_number}
use Rattle.desk_records.specs.ReadRows.{columns_of_stored_rollout, columns_of_rule}
use Rattle.desk_records.specs.Schema.{Actions, Feedbacks, Members, Numbers, Offers, Pieces, Place, Rollouts, Rules}
use Rattle.desk_records.specs.Tables.{Tables}
use Rattle.desk_records.specs.declared.entry_row.SequencedEntry.{SequencedEntry}
use Rattle.desk_records.specs.declared.member_row.PlacedMember.{PlacedMember}
use Rattle.desk_records.specs.declared.rollout_row.ListedAction.{ListedAction}
use Rattle.desk_records.specs.declared.table_columns.Column.{Column}
use Rattle.desk_store.specs.RawLists.{SaysAction, SaysEntry}
use Rattle.desk_store.specs.private.Rows.{BreaksRule}
use Rattle.desk_store.specs.RuleTables.{HasGroupCount, HasNoRule, HasRule, HaveRules, grouping_of}

-- what is shown of an entry, its sequence at the end
abbrev pub sequenced_shown : Row → Row
sequenced_shown row = column row 3 ∷ column row 4 ∷ column row 5 ∷ column row 2 ∷ []

-- each number is greater than the one before
abbrev pub rise : ℕ → List ℕ → Bool
rise last [] = true
rise last (n ∷ numbers) = nat_lt last n && rise n numbers

-- What the rows say that pass the test, by a number that is from 1 on: in order they don't rise, since two have the same, or one has 0.
pub record HasTwins {A : Type 0} (rows : List Row) (test : Row → Bool) (says : Row → A → Type 0) (key : A → ℕ) : Type 0 where
  pub found : List A
  pub said : AreSaid rows test says found
  pub in_order : IsNonDecreasingBy key found
  pub twins : rise 0 (map key found) ≡ false

-- two rows, or more, pass a test by a key
abbrev pub HasTwo : List Row → (Row → Bool) → Type 0
HasTwo rows test = 2 ≤ length (filter test rows)

-- Rows that are read and that nothing is recomputed of: one that breaks a rule, a number that is missing or is there twice, two of one key, rules that make
-- no grouping, and what is past its limit.
pub data IsUnreadable (t : Tables) : Type 0 where
  broken_rollout : (row : Row) → Has (t Rollouts) row → BreaksRule (broken_stored_rollout_column (columns_of_stored_rollout row)) → IsUnreadable t
  broken_rule : (row : Row) → Has (t Rules) row → BreaksRule (broken_rule_column (columns_of_rule row)) → IsUnreadable t
  broken_piece : (row : Row) → Has (t Pieces) row → has_bytes (column row 3) ≡ false → IsUnreadable t
  broken_entry : (row : Row) (c : Column) → Has (t Feedbacks) row → BreaksSequenced (sequenced_shown row) c → IsUnreadable t
  broken_number : (row : Row) → Has (t Numbers) row → BreaksRule (broken_number_column (columns_of_number row)) → IsUnreadable t
  twin_members : (rollout : ℕ) → HasTwins (t Members) (is_of rollout) (SaysMember rollout) (λ (m : PlacedMember). m.place) → IsUnreadable t
  twin_actions : (rollout : ℕ) → HasTwins (t Actions) (has_at 2 rollout) SaysAction (λ (a : ListedAction). a.number) → IsUnreadable t
  twin_entries : (action : ℕ) → HasTwins (t Feedbacks) (has_at 1 action) SaysEntry (λ (e : SequencedEntry). e.sequence) → IsUnreadable t
  two_rollouts : (number : ℕ) → HasTwo (t Rollouts) (has_rowid (pos number)) → IsUnreadable t
  two_actions : (number : ℕ) → HasTwo (t Actions) (has_rowid (pos number)) → IsUnreadable t
  two_offers : (id : Bytes) → HasTwo (t Offers) (has_text_at 1 id) → IsUnreadable t
  two_rules : (rollout group : ℕ) → HasTwo (t Rules) (lies_at rollout group) → IsUnreadable t
  missing_rollout : (number last : ℕ) → 1 ≤ number → number ≤ last → HasNumber (t Rollouts) last → (HasNumber (t Rollouts) number → ⊥) → IsUnreadable t
  missing_rule : (rollout n i : ℕ) → HasGroupCount t rollout n → 1 ≤ i → i ≤ n → HasNoRule t rollout i → IsUnreadable t
  no_grouping : (rollout : ℕ) (rules : List GroupRule) → HasGroupCount t rollout (length rules) → HaveRules (HasRule t rollout) 1 rules
      → grouping_of rules ≡ None → IsUnreadable t
  large_number : (row : Row) → Has (t Rollouts) row → number_in (column row 0) ≡ None → IsUnreadable t
  large_count : (row : Row) → Has (t Actions) row → is_too_long (columns_of_stored_action row) ≡ true → IsUnreadable t
  many_rows : (p : Place) → 2 ^ 32 ≤ length (t p) → IsUnreadable t

-- the table whose rows they are
abbrev pub place_of : {t : Tables} → IsUnreadable t → Place
place_of (broken_rollout row among breaks) = Rollouts
place_of (broken_rule row among breaks) = Rules
place_of (broken_piece row among breaks) = Pieces
place_of (broken_entry row c among breaks) = Feedbacks
place_of (broken_number row among breaks) = Numbers
place_of (twin_members rollout twins) = Members
place_of (twin_actions rollout twins) = Actions
place_of (twin_entries action twins) = Feedbacks
place_of (two_rollouts number two) = Rollouts
place_of (two_actions number two) = Actions
place_of (two_offers id two) = Offers
place_of (two_rules rollout group two) = Rules
place_of (missing_rollout number last low high there none) = Rollouts
place_of (missing_rule rollout n i has low high none) = Rules
place_of (no_grouping rollout rules has have none) = Rules
place_of (large_number row among none) = Rollouts
place_of (large_count row among wide) = Actions
place_of (many_rows p many) = p

-- rows of a table that is one of these
pub record IsUnreadableIn (among : Place → Bool) (t : Tables) : Type 0 where
  pub what : IsUnreadable t
  pub there : among (place_of what) ≡ true
