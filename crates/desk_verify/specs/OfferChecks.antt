-- The check of one offer, and of the actions of one rollout.
use Rattle.std.specs.Prelude.{◌≡◌, ◌&&◌, ℕ, Bool, true, false, nat_eq, List, is_none, Option, Some, None}
use Rattle.std.specs.List.{list_any}
use Rattle.sqlite_value.specs.Order.{Row}
use Rattle.rollout_machine.specs.Groups.{holds_position}
use Rattle.rollout_machine.specs.declared.records.GroupRecord.{GroupRecord}
use Rattle.desk_records.specs.Tables.{Tables}
use Rattle.desk_records.specs.declared.checked_rows.OwnedOffer.{OwnedOffer}
use Rattle.desk_records.specs.declared.rollout_row.ListedAction.{ListedAction}
use Rattle.desk_records.specs.declared.rollout_row.StoredAction.{StoredAction}
use Rattle.desk_records.specs.Listings.{has_at}
use Rattle.desk_records.specs.Schema.{Groups}
use Rattle.desk_store.specs.RawLists.{ListsRows, SaysGroup}
use Rattle.desk_verify.specs.declared.offers.KeptGroups.{KeptGroups}
use Rattle.desk_verify.specs.Offers.{HasNumberedAction, IsDue, IsInStartedGroup, IsOffered}

-- ---- groups

abbrev pub is_started_at : ℕ → GroupRecord → Bool
is_started_at place group = holds_position place group.bounds && group.started

-- a started one of these holds the place
abbrev pub holds_started : List GroupRecord → ℕ → Bool
holds_started groups place = list_any (is_started_at place) groups

-- it is this rollout
abbrev pub is_that_rollout : Option ℕ → ℕ → Bool
is_that_rollout None rollout = false
is_that_rollout (Some number) rollout = nat_eq number rollout

-- they are those of the rollout
abbrev pub AreGroupsOf : Tables → ℕ → List GroupRecord → Type 0
AreGroupsOf t rollout groups = ListsRows (t Groups) (has_at 1 rollout) (SaysGroup rollout) (Some groups)

-- .. of the one that is kept, if one is
abbrev pub AreKeptGroups : Tables → KeptGroups → Type 0
AreKeptGroups t kept = (rollout : ℕ) → kept.rollout ≡ Some rollout → AreGroupsOf t rollout kept.groups.items

-- ---- one offer

-- the action is open, of the target, and to be canceled where the offer says so
pub record Fits (action : StoredAction) (owned : OwnedOffer) : Type 0 where
  pub is_open : action.outcome ≡ None
  pub target : action.target ≡ owned.id
  pub canceling : action.canceling ≡ owned.offer.canceling

-- it is of such an action, in a started group
pub record IsRight (t : Tables) (owned : OwnedOffer) : Type 0 where
  pub action : StoredAction
  pub of : HasNumberedAction t owned.offer.action action
  pub fits : Fits action owned
  pub started : IsInStartedGroup t action.rollout action.position

-- ---- the actions of one rollout

-- it is open, and a started one of the groups holds its place
abbrev pub is_due : List GroupRecord → StoredAction → Bool
is_due groups action = is_none action.outcome && holds_started groups action.position

-- where it is due, its target is offered it, or one before it
abbrev pub IsOfferedIfDue : Tables → List GroupRecord → ListedAction → Type 0
IsOfferedIfDue t groups listed = is_due groups listed.action ≡ true → IsOffered t listed.action.target listed.number

-- so is the action of the row
abbrev pub IsRowOffered : Tables → Row → Type 0
IsRowOffered t row = (number : ℕ) (action : StoredAction) → IsDue t row number action → IsOffered t action.target number
