-- What only clauses of private functions say: no public contract rests on it.
pub mod ImportSteps
pub mod RecordReaders
