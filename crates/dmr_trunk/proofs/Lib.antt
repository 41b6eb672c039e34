pub mod RunLemmas
pub mod ScriptLemmas
pub mod ServingLemmas
pub mod StoredLemmas
pub mod RestartLemmas
pub mod OpenedLemmas
pub mod TermsFit
pub mod PlanLemmas
