-- A number of 64 bits and its eight octets, the most significant first.
use Rattle.std.proofs.Common.{◌≡◌, ℕ, ◌+◌, ◌-◌, ◌*◌, ◌/◌, ◌%◌, ◌^◌, ◌<◌, List, [], ◌∷◌, get_or, bit_and, sym, ap, ◌∙◌, arith}
use Rattle.std.specs.Int.{w64, to_be_bytes, from_be_bytes}
use Rattle.std.proofs.lemmas.Nat.{and_mask}
use Rattle.dmr_bits.specs.Bits.{octet_bit, bits_value}
use Rattle.dmr_bits.specs.Words.{word_bit}
use Rattle.dmr_bits.specs.Packed.{bits_of, IsPacked}
use Rattle.dmr_bits.proofs.BitLemmas.{bits_value-zero, bits_value-octet_more}
use Rattle.dmr_bits.proofs.PackedLemmas.{octet_of_words}

-- the number of eight octets is the value of their bits
pub number-of_octets : (octets : List ℕ) → ((k : ℕ) → get_or octets k 0 < 256) →
    from_be_bytes w64 octets ≡ bits_value (octet_bit octets) 0 64
number-of_octets octets small =
    let value : ℕ → ℕ = λ k. bits_value (octet_bit octets) 0 (8 * k) in
    let none : value 0 ≡ 0 = bits_value-zero (octet_bit octets) 0 in
    let one : value 1 ≡ 256 * value 0 + get_or octets 0 0 = bits_value-octet_more octets 0 (small 0) in
    let two : value 2 ≡ 256 * value 1 + get_or octets 1 0 = bits_value-octet_more octets 1 (small 1) in
    let three : value 3 ≡ 256 * value 2 + get_or octets 2 0 = bits_value-octet_more octets 2 (small 2) in
    let four : value 4 ≡ 256 * value 3 + get_or octets 3 0 = bits_value-octet_more octets 3 (small 3) in
    let five : value 5 ≡ 256 * value 4 + get_or octets 4 0 = bits_value-octet_more octets 4 (small 4) in
    let six : value 6 ≡ 256 * value 5 + get_or octets 5 0 = bits_value-octet_more octets 5 (small 5) in
    let seven : value 7 ≡ 256 * value 6 + get_or octets 6 0 = bits_value-octet_more octets 6 (small 6) in
    let eight : value 8 ≡ 256 * value 7 + get_or octets 7 0 = bits_value-octet_more octets 7 (small 7) in
    omega (arith, none, one, two, three, four, five, six, seven, eight)

-- an octet of a word
abbrev pub octet_at : List ℕ → ℕ → ℕ
octet_at words k = bits_value (word_bit (bits_of words)) (8 * k) 8

octet-of_number : (words : List ℕ) → IsPacked words → (j m : ℕ) → m < 8 →
    get_or words j 0 / 2 ^ (56 - 8 * m) % 256 ≡ octet_at words (8 * j + m)
octet-of_number words packed j m lt =
    let number : (8 * j + m) / 8 ≡ j = omega arith in
    let shift : 56 - 8 * ((8 * j + m) % 8) ≡ 56 - 8 * m = omega arith in
    sym (and_mask (get_or words j 0 / 2 ^ (56 - 8 * m)) 8)
    ∙ (λ i. bit_and (get_or words (sym number i) 0 / 2 ^ (sym shift i)) 255)
    ∙ octet_of_words words packed (8 * j + m)

-- the octets of each number are eight octets of the word
pub octets-of_number : (words : List ℕ) → IsPacked words → (j : ℕ)
    → to_be_bytes w64 (get_or words j 0) ≡ octet_at words (8 * j) ∷ octet_at words (8 * j + 1) ∷ octet_at words (8 * j + 2) ∷ octet_at words
    (8 * j + 3)
    ∷ octet_at words (8 * j + 4) ∷ octet_at words (8 * j + 5) ∷ octet_at words (8 * j + 6) ∷ octet_at words (8 * j + 7) ∷ []
octets-of_number words packed j =
    let last : get_or words j 0 % 256 ≡ octet_at words (8 * j + 7) =
    ap (λ n. n % 256) (omega arith) ∙ octet-of_number words packed j 7 (omega arith) in
    let first : get_or words j 0 / 2 ^ 56 % 256 ≡ octet_at words (8 * j) =
    octet-of_number words packed j 0 (omega arith) ∙ ap (octet_at words) (omega arith) in
    (λ i. first i ∷ octet-of_number words packed j 1 (omega arith) i ∷ octet-of_number words packed j 2 (omega arith) i
    ∷ octet-of_number words packed j 3 (omega arith) i ∷ octet-of_number words packed j 4 (omega arith) i ∷ octet-of_number words packed j 5
    (omega arith) i
    ∷ octet-of_number words packed j 6 (omega arith) i ∷ last i ∷ [])

-- the octet of the bits from place 192 on
pub last-octet : (words : List ℕ) → IsPacked words → get_or words 3 0 / 2 ^ 56 ≡ octet_at words 24
last-octet words packed = omega (arith, octet-of_number words packed 3 0 (omega arith), packed.small 3)
