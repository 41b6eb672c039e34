pub mod WordLemmas
pub mod LineLemmas
pub mod ConsoleLaws
mod GrammarLemmas
mod LineCases
mod TextCases
