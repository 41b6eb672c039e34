-- The word of noise means no PDU: it is the codeword of twelve octets 0, and the check of ten octets 0 is not 0.
use Rattle.std.proofs.Common.{◌≡◌, ℕ, zero, suc, ◌+◌, ◌-◌, ◌*◌, ◌/◌, ◌%◌, ◌^◌, ◌↔◌, ◌&&◌, Bool, true, false, if◌then◌else◌, List, [], ◌∷◌}
use Rattle.std.proofs.Common.{Option, Some, None, map, replicate, length, option_map, refl, sym, ap, ◌∙◌}
use Rattle.std.specs.Prelude.{option_and_then, slice_index, ◌==◌, nat_le, nat_lt}
use Rattle.std.specs.List.{range_with_len}
use Rattle.std.proofs.Math.Nat.{zero-div}
use Rattle.std.proofs.lemmas.List.FromFn.{length-range_with_len}
use Rattle.dmr_bits.specs.Bits.{IsOctets, octet_bit}
use Rattle.dmr_bits.proofs.Laws.{zeros-octets}
use Rattle.dmr_csbk.specs.Check.{check, power, sum_of_rows, times_x, without_check}
use Rattle.dmr_bptc.specs.Bptc.{Means, IsEncoding, add_bits, parity, row_of, column_of, row_equations, column_equations}
use Rattle.dmr_bptc.specs.Functions.{decoding_of, encoding_of, grid_with_parities, grid_word, information_grid, with_parities}
use Rattle.dmr_pdu.specs.Functions.{pdu_of}
use Rattle.dmr_burst.specs.Functions.{meaning_of}
use Rattle.dmr_recording.specs.Events.{noise_word}

-- the laws of codewords
pub record CodeLaws : Type 0 where
  pub encoded : (octets : List ℕ) (word : List Bool) → IsEncoding octets word → Means 3 word octets
  pub only : (word : List Bool) (octets : List ℕ) → IsOctets 12 octets → Means 3 word octets → decoding_of word ≡ Some octets
  pub encoding : (octets : List ℕ) (word : List Bool) → IsEncoding octets word ↔ word ≡ encoding_of octets

-- ---- octets 0

abbrev zeros : ℕ → List ℕ
zeros n = replicate n 0

octet_is : (n k : ℕ) → slice_index (zeros n) k ≡ 0
octet_is zero k = refl
octet_is (suc n) zero = refl
octet_is (suc n) (suc k) = octet_is n k

bit_is : (n place : ℕ) → octet_bit (zeros n) place ≡ false
bit_is n place =
    ap (λ (o : ℕ). o / 2 ^ (7 - place % 8) % 2 == 1) (octet_is n (place / 8))
    ∙ ap (λ (q : ℕ). q % 2 == 1) (zero-div (2 ^ (7 - place % 8)))

-- ---- their codeword

either_way : (b c d : Bool) → c ≡ false → d ≡ false → (if b then c else d) ≡ false
either_way true c d first second = first
either_way false c d first second = second

information_is : (row column : ℕ) → information_grid (zeros 12) row column ≡ false
information_is row column =
    either_way (nat_le 3 (11 * row + column) && (nat_lt column 11 && nat_lt row 9)) (octet_bit (zeros 12) (11 * row + column - 3)) false
    (bit_is 12 (11 * row + column - 3)) refl

parity_is : (line : ℕ → Bool) → ((k : ℕ) → line k ≡ false) → (ks : List ℕ) → parity line ks ≡ false
parity_is line each [] = refl
parity_is line each (k ∷ ks) = (λ i. add_bits (each k i) (parity_is line each ks i))

parities_are : (es : List (ℕ × List ℕ)) (line : ℕ → Bool) → ((k : ℕ) → line k ≡ false) → (k : ℕ) → with_parities es line k ≡ false
unfolding with_parities
parities_are [] line each k = each k
parities_are (e ∷ es) line each k =
    either_way (k == e.0) (parity line e.1) (with_parities es line k) (parity_is line each e.1) (parities_are es line each k)

grid_is : (row column : ℕ) → grid_with_parities (information_grid (zeros 12)) row column ≡ false
grid_is row column =
    parities_are column_equations (λ r. with_parities row_equations (λ c. information_grid (zeros 12) r c) column)
    (λ r. parities_are row_equations (λ c. information_grid (zeros 12) r c) (λ c. information_is r c) column) row

all_are : (f : ℕ → Bool) → ((k : ℕ) → f k ≡ false) → (ks : List ℕ) → map f ks ≡ replicate (length ks) false
all_are f each [] = refl
all_are f each (k ∷ ks) = (λ i. each k i ∷ all_are f each ks i)

word_is : (grid : ℕ → ℕ → Bool) → ((row column : ℕ) → grid row column ≡ false) → grid_word grid ≡ noise_word
unfolding grid_word
word_is grid each =
    all_are (λ place. if place == 0 then false else grid (row_of place) (column_of place))
    (λ place. either_way (place == 0) false (grid (row_of place) (column_of place)) refl (each (row_of place) (column_of place)))
    (range_with_len 0 196)
    ∙ ap (λ (n : ℕ). replicate n false) (length-range_with_len 0 196)

its_codeword : encoding_of (zeros 12) ≡ noise_word
unfolding encoding_of
its_codeword = word_is (grid_with_parities (information_grid (zeros 12))) grid_is

-- ---- its meaning

no_check : without_check (zeros 12) ≡ None
unfolding without_check check sum_of_rows power times_x
no_check = refl

pub noise_means_nothing : CodeLaws → meaning_of noise_word ≡ None
unfolding meaning_of
noise_means_nothing laws =
    let encoding : IsEncoding (zeros 12) noise_word = (laws.encoding (zeros 12) noise_word).1 (sym its_codeword) in
    let decoded : decoding_of noise_word ≡ Some (zeros 12) =
    laws.only noise_word (zeros 12) (zeros-octets 12) (laws.encoded (zeros 12) noise_word encoding) in
    ap (λ (o : Option (List ℕ)). option_map pdu_of (option_and_then without_check o)) decoded
    ∙ ap (option_map pdu_of) no_check
