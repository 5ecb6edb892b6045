pub mod Common
pub mod RegionLemmas
pub mod HeadLemmas
pub mod MessageLemmas
pub mod LineLemmas
pub mod ReplyLemmas
mod Examples
