pub mod WordsLemmas
pub mod WordsCases
