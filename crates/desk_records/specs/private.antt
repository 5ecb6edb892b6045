-- What only clauses of private functions say: no public contract rests on it.
pub mod ModuleRow
