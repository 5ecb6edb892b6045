-- What is known while a table is checked: which tables are read, and that those before it agree.
use Rattle.desk_records.specs.Schema.{Actions, Feedbacks, Groups, Members, Numbers, Offers, Pieces, Rollouts, Rules}
use Rattle.desk_store.specs.Blaming.{Reading, ReadsOf}
use Rattle.desk_store.specs.RawLists.{AreOffers}
use Rattle.desk_verify.specs.Agreement.{AgreeBefore}
use Rattle.desk_verify.specs.private.RolloutChecks.{IsGoneThrough}
use Rattle.desk_verify.specs.declared.damage.CheckedTable.{CheckedTable}
use Rattle.desk_verify.specs.declared.damage.CheckedTable.TheVariants.{Action, Artifact, Member, Offer, RolloutGroup}

pub record ChecksGroups (reading : Reading) : Type 0 where
  pub members : ReadsOf Members reading
  pub groups : ReadsOf Groups reading
  pub rules : ReadsOf Rules reading

pub record ChecksActions (reading : Reading) : Type 0 where
  pub agree : AgreeBefore Action reading.tables
  pub members : ReadsOf Members reading
  pub actions : ReadsOf Actions reading
  pub entries : ReadsOf Feedbacks reading
  pub numbers : ReadsOf Numbers reading

pub record ChecksOffers (reading : Reading) : Type 0 where
  pub agree : AgreeBefore Offer reading.tables
  pub rollouts : ReadsOf Rollouts reading
  pub actions : ReadsOf Actions reading
  pub offers : ReadsOf Offers reading

-- .. once each row was found to be an offer
pub record ChecksDueActions (reading : Reading) : Type 0 where
  pub checks : ChecksOffers reading
  pub offers : AreOffers reading.tables

-- any of the tables
abbrev pub ChecksTable : CheckedTable → Reading → Type 0
ChecksTable Artifact = ReadsOf Pieces
ChecksTable Member = IsGoneThrough Members (ReadsOf Members)
ChecksTable RolloutGroup = IsGoneThrough Groups ChecksGroups
ChecksTable Action = IsGoneThrough Actions ChecksActions
ChecksTable Offer = ChecksOffers
