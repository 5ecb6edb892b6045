pub mod Common
pub mod Known
pub mod ReadLemmas
pub mod EndLemmas
pub mod ArtifactCalls
pub mod TargetCalls
pub mod GroupPlaces
pub mod LedgerReads
pub mod RolloutCalls
pub mod ActionCalls
pub mod WriteCalls
pub mod LedgersOfRecords
mod NextOfferCalls
pub mod GroupOfferCalls
pub mod MemberActionCalls
pub mod MemberCalls
mod Texts
mod RawCalls
mod RawLists
pub mod BlameLemmas
pub mod FailLemmas
mod StayLemmas
pub mod CallsInTurn
mod RowFails
mod RawBlames
pub mod ReadableTargets
pub mod ReadableHistories
mod SoundQueries
mod Answering
