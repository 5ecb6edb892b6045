pub mod AfterCrashLemmas
