pub mod PaddedLemmas
pub mod RuleLemmas
pub mod GroupingLemmas
pub mod Examples
