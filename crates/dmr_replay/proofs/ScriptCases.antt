-- Worked values of scripts.
use Rattle.std.proofs.Common.{◌≡◌, [], ◌∷◌, Ok, Err, codes, refl}
use Rattle.hex.specs.Hex.{decode_pairs}
use Rattle.dmr_link.specs.Input.{At, Opening, Octets, Cutting, Saying, Ticking}
use Rattle.dmr_replay.specs.Script.{once, script_of}

-- a carrier's connection begins
opens_0 : script_of (codes "open 0") ≡ Ok (once (At 0 Opening) ∷ [])
opens_0 = refl

-- octets, in digits of either case
bytes_of_a_carrier : script_of (codes "bytes 15 0300") ≡ Ok (once (At 15 (Octets (3 ∷ 0 ∷ []))) ∷ [])
unfolding decode_pairs
bytes_of_a_carrier = refl

either_case : script_of (codes "bytes 3 aBFf") ≡ Ok (once (At 3 (Octets (171 ∷ 255 ∷ []))) ∷ [])
unfolding decode_pairs
either_case = refl

-- empty lines and comments are counted, but have no input; the last line may end with an LF
two_lines : script_of (codes "# first\nopen 1\n\nbytes 1 00\n") ≡ Ok (once (At 1 Opening) ∷ once (At 1 (Octets (0 ∷ []))) ∷ [])
unfolding decode_pairs
two_lines = refl

without_the_last : script_of (codes "# first\nopen 1\n\nbytes 1 00") ≡ Ok (once (At 1 Opening) ∷ once (At 1 (Octets (0 ∷ []))) ∷ [])
unfolding decode_pairs
without_the_last = refl

empty_script : script_of [] ≡ Ok []
empty_script = refl

comment_alone : script_of (codes "#x") ≡ Ok []
comment_alone = refl

-- the first of two lines at fault
first_fault : script_of (codes "open 0\nopen 16\nopen 17\n") ≡ Err 2
first_fault = refl

leading_zero : script_of (codes "open 00") ≡ Err 1
leading_zero = refl

two_spaces : script_of (codes "open  0") ≡ Err 1
two_spaces = refl

leading_space : script_of (codes " open 0") ≡ Err 1
leading_space = refl

trailing_space : script_of (codes "open 0 ") ≡ Err 1
trailing_space = refl

another_word : script_of (codes "opens 0") ≡ Err 1
another_word = refl

-- at least one octet, and two digits for each
no_digits : script_of (codes "bytes 0 ") ≡ Err 1
unfolding decode_pairs
no_digits = refl

no_third_word : script_of (codes "bytes 0") ≡ Err 1
no_third_word = refl

odd_digits : script_of (codes "bytes 0 030") ≡ Err 1
odd_digits = refl

no_digit : script_of (codes "bytes 0 03G0") ≡ Err 1
unfolding decode_pairs
no_digit = refl

-- a cut, and ticks
cuts_1 : script_of (codes "cut 1") ≡ Ok (once (At 1 Cutting) ∷ [])
cuts_1 = refl

one_tick : script_of (codes "tick") ≡ Ok (once Ticking ∷ [])
one_tick = refl

many_ticks : script_of (codes "tick 100000\ntick 1\ntick 20") ≡ Ok
    (record { input = Ticking; times = 100000 } ∷ once Ticking ∷ record { input = Ticking; times = 20 } ∷ [])
many_ticks = refl

too_many_ticks : script_of (codes "tick 100001") ≡ Err 1
too_many_ticks = refl

no_ticks : script_of (codes "tick 0") ≡ Err 1
no_ticks = refl

ticks_from_zero : script_of (codes "tick 01") ≡ Err 1
ticks_from_zero = refl

ticks_of_a_word : script_of (codes "tick 1x") ≡ Err 1
ticks_of_a_word = refl

two_numbers : script_of (codes "tick 1 1") ≡ Err 1
two_numbers = refl

cut_of_no_carrier : script_of (codes "cut") ≡ Err 1
cut_of_no_carrier = refl

-- an operator's line: everything after the one space, and an LF
says_stay : script_of (codes "say stay") ≡ Ok (once (Saying (codes "stay\n")) ∷ [])
says_stay = refl

says_nothing : script_of (codes "say ") ≡ Ok (once (Saying (codes "\n")) ∷ [])
says_nothing = refl

says_spaces : script_of (codes "say   # 1 ") ≡ Ok (once (Saying (codes "  # 1 \n")) ∷ [])
says_spaces = refl

no_space : script_of (codes "say") ≡ Err 1
no_space = refl

another_say : script_of (codes "says stay") ≡ Err 1
another_say = refl

-- an operator's octets, unchanged
text_of_octets : script_of (codes "text 73746179") ≡ Ok (once (Saying (codes "stay")) ∷ [])
unfolding decode_pairs
text_of_octets = refl

text_without_word : script_of (codes "text") ≡ Err 1
text_without_word = refl

text_with_empty_word : script_of (codes "text ") ≡ Err 1
unfolding decode_pairs
text_with_empty_word = refl

text_of_two_words : script_of (codes "text 0A 0A") ≡ Err 1
text_of_two_words = refl
