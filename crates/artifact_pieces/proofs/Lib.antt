pub mod PieceLemmas
pub mod DigestLemmas
