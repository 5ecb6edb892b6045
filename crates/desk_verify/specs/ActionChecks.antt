-- The check of the actions of one rollout.
use Rattle.std.specs.Prelude.{◌≡◌, ◌||◌, ◌&&◌, ℕ, ◌+◌, Bool, true, nat_eq, List, [], ◌∷◌, length, map, is_none, Option, Some, None}
use Rattle.std.specs.List.{list_all, zip}
use Rattle.std.specs.Cmp.Lexicographic.{pointwise}
use Rattle.sqlite_value.specs.Order.{Row}
use Rattle.sqlite_rules.specs.Lists.{Has}
use Rattle.rollout_machine.specs.Counts.{is_outcome}
use Rattle.rollout_machine.specs.private.Histories.{first_outcome}
use Rattle.rollout_machine.specs.declared.outcome.Outcome.{Outcome}
use Rattle.rollout_machine.specs.declared.outcome.Outcome.TheVariants.{Gone}
use Rattle.desk_records.specs.Listings.{AreBroken, AreSaid, has_at}
use Rattle.desk_records.specs.PlaceLists.{SaysMember, is_of}
use Rattle.desk_records.specs.Schema.{Actions, Members}
use Rattle.desk_records.specs.TableRows.{IsAction}
use Rattle.desk_records.specs.Tables.{Tables}
use Rattle.desk_records.specs.declared.entry_row.SequencedEntry.{SequencedEntry}
use Rattle.desk_records.specs.declared.member_row.PlacedMember.{PlacedMember}
use Rattle.desk_records.specs.declared.rollout_row.ListedAction.{ListedAction}
use Rattle.desk_records.specs.declared.rollout_row.StoredAction.{StoredAction}
use Rattle.desk_store.specs.RawLists.{SaysAction}
use Rattle.desk_store.specs.Unreadable.{rise}
use Rattle.desk_verify.specs.Actions.{AreInOrder, FitsEntries, GivesFirst, EntryGivesOutcome, HasActions, IsStarted, KeepsNumbers}

-- ---- turns

-- each number is greater than the one before
abbrev pub numbers_rise : List ListedAction → Bool
numbers_rise actions = rise 0 (map (λ (a : ListedAction). a.number) actions)

abbrev pub sequences_rise : List SequencedEntry → Bool
sequences_rise entries = rise 0 (map (λ (e : SequencedEntry). e.sequence) entries)

-- each place is one more than the one before
abbrev pub count_on : ℕ → List PlacedMember → Bool
count_on last [] = true
count_on last (m ∷ members) = nat_eq m.place (last + 1) && count_on m.place members

-- the action is the member's
abbrev pub is_for_member : PlacedMember → ListedAction → Bool
is_for_member m a = nat_eq a.action.position m.place && pointwise nat_eq a.action.target m.id

abbrev pub is_each_for : List PlacedMember → List ListedAction → Bool
is_each_for members actions = list_all (λ (p : PlacedMember × ListedAction). is_for_member p.0 p.1) (zip members actions)

-- each member has the action in its turn, and there is no other
abbrev pub are_for : List PlacedMember → List ListedAction → Bool
are_for members actions = nat_eq (length actions) (length members) && is_each_for members actions

-- ---- histories

-- the outcome of the first entry that gives one
abbrev pub first_said : List SequencedEntry → Option Outcome
first_said entries = first_outcome (map (λ (e : SequencedEntry). e.entry) entries)

-- an action has the outcome that is given; where none is, it is open or gone
abbrev pub is_fit : Option Outcome → Option Outcome → Bool
is_fit (Some given) outcome = is_outcome given outcome
is_fit None outcome = is_none outcome || is_outcome Gone outcome

-- some entry is the first that gives an outcome, this one
pub record IsGivenFirst (t : Tables) (action : ℕ) (outcome : Outcome) : Type 0 where
  pub sequence : ℕ
  pub first : GivesFirst t action sequence outcome
  pub only : (other : ℕ) (o : Outcome) → GivesFirst t action other o → o ≡ outcome

-- or none gives one
abbrev pub IsGiven : Tables → ℕ → Option Outcome → Type 0
IsGiven t action (Some outcome) = IsGivenFirst t action outcome
IsGiven t action None = (sequence : ℕ) (outcome : Outcome) → EntryGivesOutcome t action sequence outcome → ⊥

abbrev pub FitsItsEntries : Tables → ListedAction → Type 0
FitsItsEntries t a = FitsEntries t a.number a.action.outcome

-- .. and its numbers can be read
pub record PassesHistory (t : Tables) (a : ListedAction) : Type 0 where
  pub fits : FitsItsEntries t a
  pub numbers : KeepsNumbers t a.number

-- ---- what is read of one rollout

-- its members, at the places 1, 2 and so on
pub record AreMembersInTurn (t : Tables) (rollout : ℕ) (members : List PlacedMember) : Type 0 where
  pub said : AreSaid (t Members) (is_of rollout) (SaysMember rollout) members
  pub turn : count_on 0 members ≡ true

-- its actions, each number once
pub record AreActionsInTurn (t : Tables) (rollout : ℕ) (actions : List ListedAction) : Type 0 where
  pub said : AreSaid (t Actions) (has_at 2 rollout) SaysAction actions
  pub turn : numbers_rise actions ≡ true

-- or a row of it breaks a rule
abbrev pub ListsActions : Tables → ℕ → Option (List ListedAction) → Type 0
ListsActions t rollout (Some actions) = AreActionsInTurn t rollout actions
ListsActions t rollout None = AreBroken (t Actions) (has_at 2 rollout) SaysAction

-- ---- one rollout

-- one that isn't started has none
abbrev pub count_none : List ListedAction → Option ℕ
count_none [] = Some 0
count_none (a ∷ actions) = None

-- where the rollout is started it has an action for each member; its actions are in the members' order, and their numbers can be read
pub record AreActionsWhole (t : Tables) (rollout : ℕ) : Type 0 where
  pub all : IsStarted t rollout → HasActions t rollout
  pub in_order : (row other : Row) (j k : ℕ) (a b : StoredAction) → Has (t Actions) row → Has (t Actions) other → IsAction row j a → IsAction other k b
      → a.rollout ≡ rollout → b.rollout ≡ rollout → AreInOrder j k a b
  pub numbers : (row : Row) (number : ℕ) (a : StoredAction) → Has (t Actions) row → IsAction row number a → a.rollout ≡ rollout → KeepsNumbers t number
