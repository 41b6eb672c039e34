pub mod FirstOctetsLemmas
pub mod HelloLemmas
pub mod NewcomersLemmas
pub mod ReadingLemmas
pub mod RecordLemmas
pub mod ServedLemmas
pub mod UnsentLemmas
