pub mod Routes
pub mod Tokens
pub mod Rows
pub mod Pairs
pub mod Queries
pub mod Numbers
