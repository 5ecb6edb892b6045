pub mod Common
pub mod ApplyLemmas
pub mod KnowingLemmas
pub mod DeskLemmas
pub mod OpeningLemmas
pub mod CrashLemmas
pub mod RunLemmas
pub mod OnceLemmas
pub mod LookLemmas
pub mod PageLemmas
pub mod PieceLemmas
pub mod PromiseLemmas
pub mod DownloadLemmas
mod VerifyLemmas
mod CauseLemmas
mod SizeLemmas
mod MigrationLemmas
