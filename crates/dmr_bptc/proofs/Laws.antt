-- The facts about this crate's definitions that proofs of other crates may cite. They may cite nothing else in proofs/.
-- a grid is read as a word of 196 bits
pub use Rattle.dmr_bptc.proofs.FunctionLemmas.{length-grid_word}
