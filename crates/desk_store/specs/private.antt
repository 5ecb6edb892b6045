-- What only clauses of private functions say: no public contract rests on it.
pub mod Faults
pub mod Rows
pub mod Texts
