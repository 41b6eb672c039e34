mod ViewLemmas
mod SeatLemmas
mod ClosingLemmas
mod TickerLemmas
mod WorkerLemmas
mod CrewLemmas
mod RecordReadsAsOne
mod MeaningsAddUp
mod WorkersMakeATerm
mod RefusalLemmas
pub mod TermsJoin
mod JournalsJoin
mod WorkersGoOn
mod TicksAddUp
mod DepositLemmas
pub mod TermLaws
