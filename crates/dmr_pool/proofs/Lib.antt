pub mod BitLemmas
pub mod FreeLemmas
pub mod GrantLemmas
pub mod MarkLemmas
pub mod SameLemmas
