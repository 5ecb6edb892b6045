pub mod Stands
pub mod Free
pub mod Bare
pub mod Found
