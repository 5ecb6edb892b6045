pub mod Columns
pub mod Counts
pub mod Reports
pub mod ActionTables
pub mod TargetRecords
pub mod Imports
pub mod Laws
pub mod private
