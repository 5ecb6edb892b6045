pub mod Common
mod PieceChecks
mod ArtifactLemmas
mod Counting
mod RolloutLemmas
mod Follow
mod MemberLemmas
mod RuleLemmas
mod GroupLemmas
mod CodeLemmas
mod PlanLaw
mod HeldRows
mod RecordRows
mod GroupLaw
mod Naming
mod MemberLaw
mod FewNotes
mod ActionLaw
mod Rising
mod HistoryLemmas
mod TurnLemmas
mod ActionLemmas
mod OfferLemmas
mod OfferLaw
mod ArtifactLaw
pub mod NeverNamed
mod Causes
mod ReadableRows
mod ReadableArtifacts
mod ReadableTargets
pub mod ReadableRollouts
mod HistoryRules
mod ReadableActions
pub mod ReadableRecords
