pub mod Targets
pub mod AtLists
pub mod Rollouts
pub mod Counted
pub mod Matches
pub mod private
