pub mod WrittenRows
pub mod RowWords
pub mod Common
pub mod MeaningWords
pub mod TableMeaning
pub mod Meaning
pub mod SetMeaning
pub mod ArtifactMeaning
pub mod TargetMeaning
pub mod RolloutMeaning
pub mod ActionMeaning
mod Comparisons
pub mod ByteOrder
pub mod Targets
pub mod Attributes
mod NumberedReads
mod Parts
pub mod PieceLists
mod PartReads
mod PlacedParts
pub mod EachPlace
pub mod Places
pub mod Readable
pub mod HoldsAfter
mod RowLemmas
pub mod Modules
pub mod SetRecords
pub mod WholeArtifacts
pub mod ArtifactRecords
pub mod TargetRecords
pub mod OwnedBetween
pub mod TargetLists
pub mod AttributeRecords
pub mod RolloutRecords
pub mod ActionRecords
mod LedgerLists
pub mod LedgerWrites
pub mod OfferWrites
pub mod PartWrites
pub mod MemberWrites
pub mod DeskRecords
pub mod DetailLines
pub mod EntryRecords
pub mod NumberRecords
pub mod NumberLists
pub mod NextOfferRecords
pub mod GroupOffersMeaning
pub mod MemberActionsMeaning
mod OfferPuts
pub mod GroupOfferWrites
pub mod MemberActionWrites
pub mod Membership
pub mod NumberColumns
pub mod KeptColumns
pub mod RowsTold
mod ShownRows
pub mod TextColumns
pub mod TableColumns
pub mod AnyRows
pub mod PlaceRows
pub mod PieceRows
pub mod RuleRows
pub mod ActionRows
pub mod RolloutRows
pub mod HeldTables
pub mod HeldArtifacts
pub mod HeldCounts
