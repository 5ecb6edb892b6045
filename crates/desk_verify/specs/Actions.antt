-- When the table of actions agrees, whatever rows it has.
use Rattle.std.specs.Prelude.{◌≡◌, ◌≤◌, ◌<◌, ◌⊎◌, ℕ, true, Option, Some, None, pos}
use Rattle.sqlite_value.specs.Order.{Row, column}
use Rattle.sqlite_trees.specs.Tree.{has_rowid}
use Rattle.sqlite_rules.specs.Lists.{Has}
use Rattle.rollout_machine.specs.Actions.{outcome_said}
use Rattle.rollout_machine.specs.Commands.{Bytes}
use Rattle.rollout_machine.specs.Reports.{Said}
use Rattle.rollout_machine.specs.declared.outcome.Outcome.{Outcome}
use Rattle.rollout_machine.specs.declared.outcome.Outcome.TheVariants.{Gone}
use Rattle.desk_records.specs.Codes.{flag_in}
use Rattle.desk_records.specs.EntryRow.{said_by}
use Rattle.desk_records.specs.Listings.{has_at}
use Rattle.desk_records.specs.Schema.{Actions, Feedbacks, Members, Numbers, Rollouts}
use Rattle.desk_records.specs.TableRows.{IsAction, IsMember}
use Rattle.desk_records.specs.Tables.{Tables}
use Rattle.desk_records.specs.declared.number_row.PlacedNumber.{PlacedNumber}
use Rattle.desk_records.specs.declared.rollout_row.StoredAction.{StoredAction}
use Rattle.desk_store.specs.RawLists.{SaysNumber}

-- ---- what the other tables say

-- the rollout is there, and started
pub record IsStarted (t : Tables) (rollout : ℕ) : Type 0 where
  pub row : Row
  pub among : Has (t Rollouts) row
  pub numbered : has_rowid (pos rollout) row ≡ true
  pub says : flag_in (column row 9) ≡ Some true

-- the rollout has this member at the place
pub record HasMember (t : Tables) (rollout place : ℕ) (id : Bytes) : Type 0 where
  pub row : Row
  pub among : Has (t Members) row
  pub is : IsMember row rollout place id

-- the entry at this place of the action's history gives an outcome
pub record EntryGivesOutcome (t : Tables) (action sequence : ℕ) (outcome : Outcome) : Type 0 where
  pub row : Row
  pub among : Has (t Feedbacks) row
  pub of : has_at 1 action row ≡ true
  pub at : has_at 2 sequence row ≡ true
  pub said : Said
  pub says : said_by (flag_in (column row 3)) (column row 4) ≡ Some said
  pub gives : outcome_said said ≡ Some outcome

-- and none before it does
pub record GivesFirst (t : Tables) (action sequence : ℕ) (outcome : Outcome) : Type 0 where
  pub gives : EntryGivesOutcome t action sequence outcome
  pub first : (other : ℕ) (o : Outcome) → EntryGivesOutcome t action other o → sequence ≤ other

-- Where entries give outcomes, the action has that of the first. Where none gives one, it is open, or gone: by a forced cancel, which leaves no entry.
pub record FitsEntries (t : Tables) (action : ℕ) (outcome : Option Outcome) : Type 0 where
  pub given : (sequence : ℕ) (said : Outcome) → GivesFirst t action sequence said → outcome ≡ Some said
  pub not_given : ((sequence : ℕ) (said : Outcome) → EntryGivesOutcome t action sequence said → ⊥) → (outcome ≡ None) ⊎ (outcome ≡ Some Gone)

-- ---- actions

-- the row is an action of a started rollout, for the member at its place, and its outcome fits its history
pub record IsRightAction (t : Tables) (row : Row) : Type 0 where
  pub number : ℕ
  pub action : StoredAction
  pub is : IsAction row number action
  pub started : IsStarted t action.rollout
  pub member : HasMember t action.rollout action.position action.target
  pub fits : FitsEntries t number action.outcome

-- the rollout has an action for the place
pub record HasActionAt (t : Tables) (rollout place : ℕ) : Type 0 where
  pub row : Row
  pub among : Has (t Actions) row
  pub number : ℕ
  pub action : StoredAction
  pub is : IsAction row number action
  pub rollout_is : action.rollout ≡ rollout
  pub place_is : action.position ≡ place

-- the rollout has an action for each of its members
abbrev pub HasActions : Tables → ℕ → Type 0
HasActions t rollout = (place : ℕ) (id : Bytes) → HasMember t rollout place id → HasActionAt t rollout place

-- two actions of one rollout: none but the same is at the same place, and the one at the later place has the greater number
pub record AreInOrder (j k : ℕ) (a b : StoredAction) : Type 0 where
  pub apart : a.position ≡ b.position → j ≡ k
  pub order : a.position < b.position → j < k

-- each row is an action as it is to be, each member of a started rollout has one, and they are in the members' order
pub record AgreesActions (t : Tables) : Type 0 where
  pub each : (row : Row) → Has (t Actions) row → IsRightAction t row
  pub all : (rollout : ℕ) → IsStarted t rollout → HasActions t rollout
  pub in_order : (row other : Row) (j k : ℕ) (a b : StoredAction) → Has (t Actions) row → Has (t Actions) other → IsAction row j a → IsAction other k b
      → a.rollout ≡ b.rollout → AreInOrder j k a b

-- ---- what a check of them reads besides

-- each number that feedback on the action bears can be read
abbrev pub KeepsNumbers : Tables → ℕ → Type 0
KeepsNumbers t action = (row : Row) → Has (t Numbers) row → has_at 1 action row ≡ true → (it : PlacedNumber) × SaysNumber row it

-- the table agrees, and the numbers of each action can be read
pub record PassesActions (t : Tables) : Type 0 where
  pub agrees : AgreesActions t
  pub numbers : (row : Row) (number : ℕ) (action : StoredAction) → Has (t Actions) row → IsAction row number action → KeepsNumbers t number
