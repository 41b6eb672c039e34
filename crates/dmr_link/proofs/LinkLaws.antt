-- The facts about this crate's definitions that proofs of other crates may cite. They may cite nothing else in proofs/.
pub use Rattle.dmr_link.proofs.LinksHavePasts.{dead_over, over_dead}
pub use Rattle.dmr_link.proofs.StepsFollow.{happens_none, happens_more}
-- what frames mean and leave is what their octets mean and leave
pub use Rattle.dmr_link.proofs.OctetsMeanWhatTheyProduce.{octets-leave, octets-meaning}
