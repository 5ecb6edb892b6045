pub mod Steps
pub mod Changing
pub mod Bounds
pub mod Failures
pub mod private
