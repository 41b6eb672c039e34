-- Sums over set bits by groups of four.
use Rattle.std.specs.Prelude.{◌≡◌, ◌==◌, ℕ, ◌+◌, ◌-◌, ◌*◌, ◌/◌, ◌%◌, ◌^◌, ◌<◌, Bool, List, [], ◌∷◌, slice_index_or, length}
use Rattle.std.specs.Prelude.{bit_xor, if◌then◌else◌}
use Rattle.std.proofs.Common.{zero, suc}
use Rattle.dmr_bits.specs.Bits.{octet_bit}

-- the exclusive or of the numbers of the set bits among the first n
unfoldable pub added : (ℕ → Bool) → (ℕ → ℕ) → ℕ → ℕ
added bit number zero = 0
added bit number (suc n) = bit_xor (added bit number n) (if bit n then number n else 0)

-- one of the four numbers of a value of a group
abbrev pub number_at : List (List (List ℕ)) → ℕ → ℕ → ℕ → ℕ
number_at entries part group value = slice_index_or (slice_index_or (slice_index_or entries group []) value []) part 0

-- one of the four numbers of a bit, which is that of its group if no other bit of the group is set
abbrev pub number_of_bit : List (List (List ℕ)) → ℕ → ℕ → ℕ
number_of_bit entries part k = number_at entries part (k / 4) (2 ^ (3 - k % 4))

-- the numbers of each value of each group are the exclusive ors of the numbers of its set bits
abbrev pub AreSumsOfBits : List (List (List ℕ)) → Type 0
AreSumsOfBits entries =
    (part group value : ℕ) → part < 4 → group < length entries → value < 16
    → number_at entries part group value
    ≡ added (λ j. value / 2 ^ (3 - j) % 2 == 1) (λ j. number_of_bit entries part (4 * group + j)) 4

-- the four numbers that the set bits among the first n bits of octets add up to
abbrev pub numbers_added : List (List (List ℕ)) → List ℕ → ℕ → List ℕ
numbers_added entries octets n =
    added (octet_bit octets) (number_of_bit entries 0) n
    ∷ added (octet_bit octets) (number_of_bit entries 1) n
    ∷ added (octet_bit octets) (number_of_bit entries 2) n
    ∷ added (octet_bit octets) (number_of_bit entries 3) n
    ∷ []
