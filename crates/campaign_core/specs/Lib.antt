pub mod Checks
pub mod OwnGroups
pub mod RolloutChecks
pub mod StatusWords
