pub mod Common
pub mod Facts
pub mod ConfigLemmas
pub mod ObjectLemmas
pub mod LettersLemmas
