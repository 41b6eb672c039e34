-- The words of a line, and their numbers.
use Rattle.std.specs.Prelude.{ℕ, ◌==◌, ◌&&◌, Bool, true, false, List, [], ◌∷◌, length, filter}
use Rattle.std.specs.Prelude.{nat_lt, nat_le, Option, Some, None, if◌then◌else◌}
use Rattle.std.specs.List.{slice_split}
use Rattle.std.specs.Str.{all_ascii_digits}
use Rattle.std.specs.Str.Parse.{digits_value}

-- a word has an octet
abbrev pub is_word : List ℕ → Bool
is_word [] = false
is_word (octet ∷ octets) = true

-- a line's words: its parts between spaces, without the empty ones
abbrev pub words_of_line : List ℕ → List (List ℕ)
words_of_line line = filter is_word (slice_split (λ octet. octet == 32) line)

-- 1 to 8 decimal digits
abbrev pub is_short_number : List ℕ → Bool
is_short_number word = nat_lt 0 (length word) && nat_le (length word) 8 && all_ascii_digits word

-- the number of a word of 1 to 8 decimal digits, if it is from `least` to `most`
abbrev pub short_number_within : ℕ → ℕ → List ℕ → Option ℕ
short_number_within least most word =
    if is_short_number word && nat_le least (digits_value 10 word)
    && nat_le (digits_value 10 word) most
    then Some (digits_value 10 word) else None
