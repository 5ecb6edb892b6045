-- What only clauses of private functions say: no public contract rests on it.
pub mod Additions
pub mod Imports
pub mod Attributes
pub mod GroupStarts
pub mod Telling
pub mod GroupViews
pub mod SeenReports
pub mod SeenActions
pub mod Offering
pub mod Endings
pub mod Counts
pub mod ActionSteps
pub mod Standings
pub mod Creations
pub mod Starts
