pub mod Common
pub mod FailingViews
pub mod ListRules
pub mod FailingReads
pub mod FailingGroups
pub mod FailingActions
pub mod HistoryViews
pub mod ActionViews
pub mod MemberViews
pub mod GroupViews
pub mod MemberLemmas
pub mod RolloutViews
pub mod PageLemmas
pub mod ArtifactViews
pub mod WordViews
pub mod EndedActions
pub mod TargetViews
pub mod TargetPages
mod KnownPages
pub mod DeviceViews
mod Answering
pub mod KeptViews
