-- What only clauses of private functions say: no public contract rests on it.
pub mod ArtifactChecks
pub mod Following
pub mod Judged
pub mod RolloutChecks
pub mod Cuts
