pub mod AnyLemmas
pub mod EngagedLemmas
pub mod OwnAskLemmas
pub mod SlotLemmas
pub mod AfterLemmas
pub mod Laws
