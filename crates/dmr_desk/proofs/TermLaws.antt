-- The facts about terms that proofs of other crates may cite. They may cite nothing else in proofs/.
-- the limit of a chain of terms stays
pub use Rattle.dmr_desk.proofs.TermsJoin.{limit_stays}
