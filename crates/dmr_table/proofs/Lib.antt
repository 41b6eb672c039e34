pub mod PlacesLemmas
pub mod EntriesLemmas
pub mod RemovalLemmas
pub mod FoundLemmas
