pub mod Common
pub mod ActionLemmas
pub mod CheckLemmas
pub mod Examples
pub mod ItemLemmas
pub mod OwnGroups
pub mod PlacedActions
pub mod FeedbackLemmas
pub mod GroupingLemmas
mod RolloutExamples
pub mod RolloutLemmas
pub mod SoundLemmas
mod StatusLemmas
