pub mod RecordingLemmas
pub mod ScriptLemmas
mod PortCases
pub mod ReportLaws
