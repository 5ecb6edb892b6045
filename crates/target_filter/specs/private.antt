-- What only clauses of private functions say: no public contract rests on it.
pub mod Scanner
pub mod ScannerViews
pub mod Greedy
pub mod Gives
pub mod ByteKinds
