pub mod EngineLemmas
pub mod ScriptLemmas
pub mod ScriptCases
pub mod ReplayLemmas
pub mod PrintingLemmas
