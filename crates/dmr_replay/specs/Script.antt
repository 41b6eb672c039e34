-- Scripts: their lines, and the input of each line.
use Rattle.std.specs.Prelude.{ℕ, ◌==◌, ◌&&◌, not, nat_lt, Bool, true, List, [], ◌∷◌, ◌++◌, length}
use Rattle.std.specs.Prelude.{take, drop, slice_index, Option, Some, None, is_none, option_map}
use Rattle.std.specs.Prelude.{Result, Ok, Err, if◌then◌else◌, codes, find, flat_map, replicate}
use Rattle.std.specs.List.{slice_split, enumerate_from, filter_map}
use Rattle.std.specs.Result.{result_ok}
use Rattle.std.specs.Str.{bytes_eq}
use Rattle.hex.specs.Hex.{decode_of}
use Rattle.dmr_console.specs.Words.{short_number_within}
use Rattle.dmr_link.specs.Input.{Input, At, Opening, Octets, Cutting, Saying, Ticking}
use Rattle.dmr_replay.specs.declared.script.ScriptInput.{ScriptInput}
use Rattle.dmr_replay.specs.declared.script.ScriptInput.TheVariants as input

-- ---- lines and words

-- the lines of a script: the octets between its LFs
abbrev pub lines_of : List ℕ → List (List ℕ)
lines_of script = slice_split (λ octet. octet == 10) script

-- the words of a line: the octets between its spaces
abbrev pub words_of_script_line : List ℕ → List (List ℕ)
words_of_script_line line = slice_split (λ octet. octet == 32) line

-- whether a line is empty, or a comment that begins with `#`
abbrev pub is_skipped : List ℕ → Bool
is_skipped [] = true
is_skipped (octet ∷ octets) = octet == 35

-- ---- the input of words

-- a number from `least` to `most` in decimal digits, without a leading zero
abbrev pub number_of_word : ℕ → ℕ → List ℕ → Option ℕ
number_of_word least most word =
    if nat_lt 1 (length word) && (slice_index word 0 == 48) then None
    else short_number_within least most word

-- the carrier's number of a word: 0 to 15
abbrev pub carrier_of_word : List ℕ → Option ℕ
carrier_of_word word = number_of_word 0 15 word

-- a number of ticks: 1 to 100000
abbrev pub count_of_ticks : List ℕ → Option ℕ
count_of_ticks word = number_of_word 1 100000 word

-- the octets, if there is at least one
abbrev pub at_least_one : Option (List ℕ) → Option (List ℕ)
at_least_one (Some (octet ∷ octets)) = Some (octet ∷ octets)
at_least_one octets = None

-- the octets of a word in hexadecimal digits of either case, at least one
abbrev pub octets_of_word : List ℕ → Option (List ℕ)
octets_of_word word = at_least_one (result_ok (decode_of word))

-- an input, and how often it is repeated
pub record RepeatedInput : Type 0 where
  pub input : Input
  pub times : ℕ

-- an input that comes once
abbrev pub once : Input → RepeatedInput
once input = record { input = input; times = 1 }

-- the input of `open C`, by the words after the first
abbrev pub input_of_open : List (List ℕ) → Option RepeatedInput
input_of_open (carrier ∷ []) = option_map (λ c. once (At c Opening)) (carrier_of_word carrier)
input_of_open words = None

-- the input of `cut C`, by the words after the first
abbrev pub input_of_cut : List (List ℕ) → Option RepeatedInput
input_of_cut (carrier ∷ []) = option_map (λ c. once (At c Cutting)) (carrier_of_word carrier)
input_of_cut words = None

-- octets from a carrier, if both words were read
abbrev pub octets_from : Option ℕ → Option (List ℕ) → Option RepeatedInput
octets_from (Some carrier) (Some octets) = Some (once (At carrier (Octets octets)))
octets_from carrier octets = None

-- the input of `bytes C HEX`, by the words after the first
abbrev pub input_of_bytes : List (List ℕ) → Option RepeatedInput
input_of_bytes (carrier ∷ digits ∷ []) =
    octets_from (carrier_of_word carrier) (octets_of_word digits)
input_of_bytes words = None

-- the input of `tick` or `tick N`, by the words after the first
abbrev pub input_of_tick : List (List ℕ) → Option RepeatedInput
input_of_tick [] = Some (once Ticking)
input_of_tick (times ∷ []) =
    option_map (λ n. record { input = Ticking; times = n }) (count_of_ticks times)
input_of_tick words = None

-- the input of `text HEX`, by the words after the first
abbrev pub input_of_text : List (List ℕ) → Option RepeatedInput
input_of_text (digits ∷ []) = option_map (λ octets. once (Saying octets)) (octets_of_word digits)
input_of_text words = None

-- the input of a line's words, by the first of them; none if they are not those of a line of a script
abbrev pub input_of_words : List (List ℕ) → Option RepeatedInput
input_of_words [] = None
input_of_words (name ∷ words) =
    if bytes_eq name (codes "open") then input_of_open words else
    if bytes_eq name (codes "bytes") then input_of_bytes words else
    if bytes_eq name (codes "cut") then input_of_cut words else
    if bytes_eq name (codes "tick") then input_of_tick words else
    if bytes_eq name (codes "text") then input_of_text words else None

-- the text of `say TEXT`: everything after the one space, which may be empty
abbrev pub text_of_say : List ℕ → Option (List ℕ)
text_of_say line = if bytes_eq (take 4 line) (codes "say ") then Some (drop 4 line) else None

-- the input of a `say` line: an operator's text and an LF; of another line, the input of its words
abbrev pub say_or_words : Option (List ℕ) → List (List ℕ) → Option RepeatedInput
say_or_words (Some text) words = Some (once (Saying (text ++ 10 ∷ [])))
say_or_words None words = input_of_words words

-- the input of a line that is not skipped; none if it is not a line of a script
abbrev pub input_of_line : List ℕ → Option RepeatedInput
input_of_line line = say_or_words (text_of_say line) (words_of_script_line line)

-- ---- the inputs of a script

-- the input of a line; none if the line is skipped or at fault
abbrev pub line_input : List ℕ → Option RepeatedInput
line_input line = if is_skipped line then None else input_of_line line

-- whether a line is at fault: it is neither skipped nor a line of a script
abbrev pub is_faulty_line : List ℕ → Bool
is_faulty_line line = not (is_skipped line) && is_none (input_of_line line)

-- all lines, with their numbers from 1
abbrev pub numbered_lines : List ℕ → List (ℕ × List ℕ)
numbered_lines script = enumerate_from 1 (lines_of script)

-- the input of a numbered line; none if the line is skipped or at fault
abbrev pub numbered_input : ℕ × List ℕ → Option RepeatedInput
numbered_input line = line_input line.1

-- the inputs of the lines, unless a line is at fault
abbrev pub unless_fault : Option (ℕ × List ℕ) → List RepeatedInput → Result (List RepeatedInput) ℕ
unless_fault None given = Ok given
unless_fault (Some line) given = Err line.0

-- the inputs of a script's lines, in their order, or the number of the first line at fault
abbrev pub script_of : List ℕ → Result (List RepeatedInput) ℕ
script_of script =
    unless_fault (find (λ line. is_faulty_line line.1) (numbered_lines script))
    (filter_map numbered_input (numbered_lines script))

-- the inputs of the lines that are neither skipped nor at fault, in their order
abbrev pub given_in : List ℕ → List RepeatedInput
given_in script = filter_map line_input (lines_of script)

-- the inputs of a script, each repeated as often as its line says
abbrev pub inputs_of_script : List RepeatedInput → List Input
inputs_of_script given = flat_map (λ (g : RepeatedInput). replicate g.times g.input) given

-- ---- the meaning of the program's values

-- the input of a line, as definitions see it
abbrev pub repeated_input : ScriptInput → RepeatedInput
repeated_input (input.Open carrier) = once (At carrier Opening)
repeated_input (input.Bytes carrier octets) = once (At carrier (Octets octets.items))
repeated_input (input.Cut carrier) = once (At carrier Cutting)
repeated_input (input.Tick times) = record { input = Ticking; times = times }
repeated_input (input.Text octets) = once (Saying octets.items)
