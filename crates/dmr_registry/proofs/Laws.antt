-- The facts about this crate's definitions that proofs of other crates may cite. They may cite nothing else in proofs/.
-- a radio that is registered is among the radios
pub use Rattle.dmr_registry.proofs.HeldLemmas.{held_contains}
