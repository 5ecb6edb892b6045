pub mod Common
pub mod BodyLemmas
pub mod TraverseLemmas
pub mod LettersLemmas
pub mod PageLemmas
pub mod TargetLemmas
