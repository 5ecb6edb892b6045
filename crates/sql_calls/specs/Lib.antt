pub mod Tables
pub mod Keyed
pub mod Faults
pub mod Calls
pub mod Standing
pub mod KeyIndexes
pub mod private
