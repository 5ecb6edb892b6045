pub mod Targets
pub mod Showing
pub mod Sizes
pub mod Downloads
pub mod Kept
pub mod private
