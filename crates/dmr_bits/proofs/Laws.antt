-- The facts about this crate's definitions that proofs of other crates may cite. They may cite nothing else in proofs/.

-- ---- values of bits

-- the value of `width` bits is less than 2 ^ width
pub use Rattle.dmr_bits.proofs.BitLemmas.{bits_value-lt}
-- bit j of the value of bits is the j-th of them
pub use Rattle.dmr_bits.proofs.BitLemmas.{bits_value-bit}
-- the value of a number's bits is the number
pub use Rattle.dmr_bits.proofs.BitLemmas.{bits_value-of_number}
-- a field inside a field, cut out of the value of the wider one
pub use Rattle.dmr_bits.proofs.BitLemmas.{bits_value-field}
-- the same bits have the same value, and bits with the same value are the same
pub use Rattle.dmr_bits.proofs.BitLemmas.{bits_value-same, bits_value-injective}
-- ---- octets

-- octets with the same bits are the same octets
pub use Rattle.dmr_bits.proofs.BitLemmas.{octets-same}
-- zeros are octets
pub use Rattle.dmr_bits.proofs.BitLemmas.{zeros-octets}
-- ---- counts of set bits

-- if no bit is set the count is 0, and the same bits have the same count
pub use Rattle.dmr_bits.proofs.PackedLemmas.{count_from-none, count_from-same}
-- ---- words and their 25 octets

-- the octets of a word are 25 octets, and spell it
pub use Rattle.dmr_bits.proofs.WordLemmas.{word_octets-octets, word_octets-spells}
-- octets spell the word of their first 196 bits if their last four bits are 0
pub use Rattle.dmr_bits.proofs.WordLemmas.{word_of-spelled}
-- the octets of a word and the word of octets are inverse to each other
pub use Rattle.dmr_bits.proofs.WordLemmas.{word_octets-word_of, word_of-word_octets}
-- octets spell at most one word
pub use Rattle.dmr_bits.proofs.WordLemmas.{words-same}
-- the four bits after a word are the low half of the last octet
pub use Rattle.dmr_bits.proofs.WordLemmas.{pad-last}
