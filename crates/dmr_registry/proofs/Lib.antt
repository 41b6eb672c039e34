pub mod LeastLemmas
pub mod NextLemmas
pub mod HeldLemmas
pub mod Laws
