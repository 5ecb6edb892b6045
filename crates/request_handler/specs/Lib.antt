pub mod Downloads
pub mod Failures
