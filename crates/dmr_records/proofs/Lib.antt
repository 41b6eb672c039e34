pub mod ResultLemmas
pub mod RanLemmas
pub mod QueryLemmas
pub mod ReadingLemmas
pub mod TablesLemmas
pub mod CommitLemmas
pub mod ReachedLemmas
mod CommandEvents
