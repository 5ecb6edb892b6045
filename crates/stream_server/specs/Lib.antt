pub mod Interfaces
pub mod Run
pub mod Headline
pub mod Parts
pub mod Arrivals
pub mod Listening
pub mod private
