mod FactsFollowEntries
pub mod OneLegalJournal
mod NumberLemmas
mod PlanLemmas
mod ListLemmas
mod ChoiceLemmas
mod CallsAreApart
mod RadiosEngagedOnce
mod SlotsStaySound
mod LimitsAreKept
mod GrantsAreOwn
mod FillsAreLateEntries
mod ActsKeepSound
mod EventsKeepSound
mod PartsMayBeDone
mod TalkgroupMayBeDone
mod ClosingMayBeDone
mod AnswersMayBeDone
mod AnswerSizes
mod FreeSlotHasRoom
mod NothingIsSound
mod PlansAreKnown
mod RestoredLemmas
mod ActsAreSafe
mod LastLemmas
mod LastOpenerLemmas
mod ChannelLemmas
mod RoundLemmas
mod TurnLemmas
mod BackoffLemmas
mod AgeLemmas
mod OrderLemmas
mod DownLemmas
mod WaitingLemmas
mod HeldLemmas
mod FreeLemmas
mod EqualityLemmas
pub mod ConsoleLemmas
pub mod PollSizes
pub mod JournalLaws
pub mod CoreLaws
pub mod CommandLaws
