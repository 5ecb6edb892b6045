-- When the table of offers agrees, whatever rows it has.
use Rattle.std.specs.Prelude.{◌≡◌, ◌≤◌, ℕ, true, None, pos}
use Rattle.sqlite_value.specs.Order.{Row}
use Rattle.sqlite_trees.specs.Tree.{has_rowid}
use Rattle.sqlite_rules.specs.Lists.{Has}
use Rattle.rollout_machine.specs.Commands.{Bytes}
use Rattle.rollout_machine.specs.Groups.{holds_position}
use Rattle.rollout_machine.specs.declared.records.GroupRecord.{GroupRecord}
use Rattle.rollout_model.specs.declared.rollout.Offer.{Offer}
use Rattle.desk_records.specs.ReadRows.{IsStoredActionRow, columns_of_stored_action}
use Rattle.desk_records.specs.Schema.{Actions, Groups, Offers}
use Rattle.desk_records.specs.TableRows.{IsAction, IsGroup, IsOffer}
use Rattle.desk_records.specs.Tables.{Tables}
use Rattle.desk_records.specs.declared.rollout_row.StoredAction.{StoredAction}
use Rattle.desk_verify.specs.Rollouts.{IsThere}

-- ---- what the other tables say

-- the action of the number
pub record HasNumberedAction (t : Tables) (number : ℕ) (action : StoredAction) : Type 0 where
  pub row : Row
  pub among : Has (t Actions) row
  pub numbered : has_rowid (pos number) row ≡ true
  pub shows : IsStoredActionRow (columns_of_stored_action row) action

-- a started group of the rollout holds the place
pub record IsInStartedGroup (t : Tables) (rollout place : ℕ) : Type 0 where
  pub row : Row
  pub among : Has (t Groups) row
  pub group : GroupRecord
  pub is : IsGroup row rollout group
  pub holds : holds_position place group.bounds ≡ true
  pub started : group.started ≡ true

-- ---- offers

-- the row offers its target an open action of its own in a started group, as that is to be done or canceled
pub record IsRightOffer (t : Tables) (row : Row) : Type 0 where
  pub id : Bytes
  pub offer : Offer
  pub is : IsOffer row id offer
  pub action : StoredAction
  pub of : HasNumberedAction t offer.action action
  pub is_open : action.outcome ≡ None
  pub target : action.target ≡ id
  pub canceling : action.canceling ≡ offer.canceling
  pub started : IsInStartedGroup t action.rollout action.position

-- the target is offered an action of no greater number
pub record IsOffered (t : Tables) (id : Bytes) (number : ℕ) : Type 0 where
  pub row : Row
  pub among : Has (t Offers) row
  pub offer : Offer
  pub is : IsOffer row id offer
  pub least : offer.action ≤ number

-- the action of the row, of a rollout that is there, is open and in a started group
pub record IsDue (t : Tables) (row : Row) (number : ℕ) (action : StoredAction) : Type 0 where
  pub among : Has (t Actions) row
  pub is : IsAction row number action
  pub is_open : action.outcome ≡ None
  pub there : IsThere t action.rollout
  pub started : IsInStartedGroup t action.rollout action.position

-- Each row is an offer as it is to be, and no target waits with an action that is due before what it is offered: of those that are due the one of
-- the least number is offered.
pub record AgreesOffers (t : Tables) : Type 0 where
  pub each : (row : Row) → Has (t Offers) row → IsRightOffer t row
  pub all : (row : Row) (number : ℕ) (action : StoredAction) → IsDue t row number action → IsOffered t action.target number
