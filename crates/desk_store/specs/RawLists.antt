-- What is listed or found of a table, whatever rows it has.
use Rattle.std.specs.Prelude.{◌≡◌, ℕ, Bool, true, List, Option, Some, None, pos}
use Rattle.std.specs.List.Sorted.{IsNonDecreasingBy}
use Rattle.sqlite_value.specs.Order.{Row}
use Rattle.sqlite_rules.specs.Lists.{Has}
use Rattle.rollout_machine.specs.Commands.{Bytes}
use Rattle.sqlite_trees.specs.Tree.{has_rowid}
use Rattle.rollout_machine.specs.declared.records.GroupRecord.{GroupRecord}
use Rattle.rollout_model.specs.declared.artifact.Artifact.{Artifact}
use Rattle.rollout_model.specs.declared.group_rule.GroupRule.{GroupRule}
use Rattle.rollout_model.specs.declared.rollout.Offer.{Offer}
use Rattle.desk_records.specs.Listings.{AreBroken, AreSaid, IsSaid, has_at}
use Rattle.desk_records.specs.ReadRows.{IsStoredActionRow, IsArtifactRow, IsGroupRow, IsListedActionRow, IsNumberRow, IsRuleRow, IsStoredArtifactRow}
use Rattle.desk_records.specs.ReadRows.{broken_group_column, broken_listed_action_column, columns_of_artifact, columns_of_stored_action}
use Rattle.desk_records.specs.ReadRows.{columns_of_stored_artifact, columns_of_number, columns_of_rule}
use Rattle.desk_records.specs.Schema.{Actions, Artifacts, Offers}
use Rattle.desk_records.specs.Tables.{Tables}
use Rattle.desk_records.specs.TableRows.{IsAction, IsArtifact, IsEntry, IsGroup, IsOffer}
use Rattle.desk_records.specs.declared.artifact_row.StoredArtifact.{StoredArtifact}
use Rattle.desk_records.specs.declared.checked_rows.CheckedArtifact.{CheckedArtifact}
use Rattle.desk_records.specs.declared.checked_rows.OwnedOffer.{OwnedOffer}
use Rattle.desk_records.specs.declared.entry_row.SequencedEntry.{SequencedEntry}
use Rattle.desk_records.specs.declared.number_row.PlacedNumber.{PlacedNumber}
use Rattle.desk_records.specs.declared.rollout_row.ListedAction.{ListedAction}
use Rattle.desk_records.specs.declared.rollout_row.StoredAction.{StoredAction}

-- what the rows say that pass the test, or one of them breaks a rule
abbrev pub ListsRows : {A : Type 0} → List Row → (Row → Bool) → (Row → A → Type 0) → Option (List A) → Type 0
ListsRows rows test says (Some found) = AreSaid rows test says found
ListsRows rows test says None = AreBroken rows test says

-- each row
abbrev pub any_row : Row → Bool
any_row row = true

abbrev pub SaysArtifact : Row → CheckedArtifact → Type 0
SaysArtifact row a = IsArtifact row a.number a.artifact

abbrev pub SaysOffer : Row → OwnedOffer → Type 0
SaysOffer row o = IsOffer row o.id o.offer

abbrev pub SaysGroup : ℕ → Row → GroupRecord → Type 0
SaysGroup rollout row g = IsGroup row rollout g

-- what is said of a group that is known
abbrev pub SaysRule : Row → GroupRule → Type 0
SaysRule row it = IsRuleRow (columns_of_rule row) it

abbrev pub SaysAction : Row → ListedAction → Type 0
SaysAction row a = IsAction row a.number a.action

abbrev pub SaysEntry : Row → SequencedEntry → Type 0
SaysEntry row e = IsEntry row e.sequence e.entry

-- a number of an action that is known
abbrev pub SaysNumber : Row → PlacedNumber → Type 0
SaysNumber row it = IsNumberRow (columns_of_number row) it

-- the action of a number that is known
abbrev pub SaysNumbered : Row → StoredAction → Type 0
SaysNumbered row a = IsStoredActionRow (columns_of_stored_action row) a

-- the artifact of a number that is known
abbrev pub SaysStored : Row → StoredArtifact → Type 0
SaysStored row a = IsStoredArtifactRow (columns_of_stored_artifact row) a

-- an artifact of a module that is known
abbrev pub SaysListed : Row → Artifact → Type 0
SaysListed row a = IsArtifactRow (columns_of_artifact row) a

-- what the target of an id is offered
abbrev pub SaysOfferOf : Bytes → Row → Offer → Type 0
SaysOfferOf id row o = IsOffer row id o

-- what a row says that passes the test, or none passes
abbrev pub FindsFirst : {A : Type 0} → List Row → (Row → Bool) → (Row → A → Type 0) → Option A → Type 0
FindsFirst rows test says (Some a) = IsSaid rows test says a
FindsFirst rows test says None = (row : Row) → Has rows row → test row ≡ true → ⊥

-- what was found is in the order of a number
abbrev pub IsFoundInOrder : {A : Type 0} → (A → ℕ) → Option (List A) → Type 0
IsFoundInOrder key (Some found) = IsNonDecreasingBy key found
IsFoundInOrder key None = Unit {0}

-- the row of a group, each column keeping its rule
pub record IsKeptGroupRow (row : Row) (g : GroupRecord) : Type 0 where
  pub group : IsGroupRow row g
  pub kept : broken_group_column row ≡ None

-- the row of an action with its number at the end, each column keeping its rule
pub record IsKeptActionRow (row : Row) (a : ListedAction) : Type 0 where
  pub action : IsListedActionRow row a
  pub kept : broken_listed_action_column row ≡ None

-- ---- artifacts

-- a row of this number says this
abbrev pub HasNumbered : Tables → ℕ → StoredArtifact → Type 0
HasNumbered t number a = IsSaid (t Artifacts) (has_rowid (pos number)) SaysStored a

-- a row of this module says this
abbrev pub HasListed : Tables → ℕ → Artifact → Type 0
HasListed t module_number a = IsSaid (t Artifacts) (has_at 2 module_number) SaysListed a

-- the rows of this module say these
abbrev pub AreListed : Tables → ℕ → List Artifact → Type 0
AreListed t module_number found = AreSaid (t Artifacts) (has_at 2 module_number) SaysListed found

-- ---- tables that were judged

-- each row is an action
abbrev pub AreActions : Tables → Type 0
AreActions t = (row : Row) → Has (t Actions) row → (number : ℕ) × (a : StoredAction) × IsAction row number a

-- each row is an offer
abbrev pub AreOffers : Tables → Type 0
AreOffers t = (row : Row) → Has (t Offers) row → (id : Bytes) × (o : Offer) × IsOffer row id o
