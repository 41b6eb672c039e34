-- Each command that a line can mean is read from its words, which fit in a line.
use Rattle.std.proofs.Common.{◌≡◌, ℕ, ◌*◌, ◌<◌, ◌≤◌, ◌^◌, true, List, [], ◌∷◌, ◌++◌, length, get_or, map, Some, decimal, filter, refl, ap}
use Rattle.std.proofs.Common.{◌∙◌, append-nil, length-append, option_map, arith, ne_eqb}
use Rattle.std.specs.Prelude.{◌==◌, nat_le, nat_lt}
use Rattle.std.specs.List.{flat_map, list_all, slice_split}
use Rattle.std.specs.Option.{option_and_then}
use Rattle.std.proofs.lemmas.Bool.{and_parts, leb-true}
use Rattle.std.proofs.lemmas.Fmt.{decimal_nonempty, length-decimal-le}
use Rattle.dmr_core.specs.declared.command.Argument.{Argument}
use Rattle.dmr_core.specs.declared.command.Command.{Command}
use Rattle.dmr_core.specs.CommandWords.{AreNumbersOf, IsSaid, command_from, command_text, kind_of, number_text, numbers_of, range_of}
use Rattle.dmr_core.specs.CommandWords.{row_of}
use Rattle.dmr_core.proofs.CommandLaws.{is_letter, most_of, of_words}
use Rattle.dmr_console.specs.Commands.{command_of, command_of_kind, command_of_words, numbers_in}
use Rattle.dmr_console.specs.Words.{is_word, words_of_line}
use Rattle.dmr_recording.proofs.FreeWords.{IsFree, free-append, decimal_free, short_number, split_at, split_none}

-- ---- numbers, each after a space

abbrev texts : List ℕ → List ℕ
texts ns = flat_map number_text ns

abbrev AreSmall : List ℕ → Type 0
AreSmall [] = Unit {0}
AreSmall (n ∷ ns) = (n < 2 ^ 64) × AreSmall ns

small : (arguments : List Argument) (ns : List ℕ) → length ns ≡ length arguments → AreNumbersOf arguments ns → AreSmall ns
small arguments [] as_many are = tt
small [] (n ∷ ns) as_many are = absurd (omega (arith, as_many))
small (a ∷ others) (n ∷ ns) as_many are = (omega (arith, are.0.1, most_of a), small others ns (omega (arith, as_many)) are.1)

texts_free : (o : ℕ) → o < 32 → (ns : List ℕ) → AreSmall ns → IsFree o (texts ns)
texts_free o below [] are = tt
texts_free o below (n ∷ ns) are =
    let digits : IsFree o (decimal n) = decimal_free o (omega (arith, below)) n are.0 in
    free-append o (number_text n) (texts ns) (ne_eqb 32 o (λ e. omega (arith, e, below)), digits) (texts_free o below ns are.1)

texts_short : (ns : List ℕ) → AreSmall ns → length (texts ns) ≤ 21 * length ns
texts_short [] are = omega arith
texts_short (n ∷ ns) are =
    let digits : length (decimal n) ≤ 20 = length-decimal-le 20 n (omega arith) (omega (arith, are.0)) are.0 in
    omega (arith, length-append (number_text n) (texts ns), digits, texts_short ns are.1)

-- ---- words

letters_free : (o : ℕ) → o < 97 → (xs : List ℕ) → list_all is_letter xs ≡ true → IsFree o xs
letters_free o below [] all = tt
letters_free o below (x ∷ xs) all =
    let parts = and_parts (is_letter x) (list_all is_letter xs) all in
    let least : 97 ≤ x = leb-true 97 x (and_parts (nat_le 97 x) (nat_lt x 123) parts.0).0 in
    (ne_eqb x o (λ e. omega (arith, e, below, least)), letters_free o below xs parts.1)

-- the parts of a text and of the numbers after it
parts : (text : List ℕ) (ns : List ℕ) → IsFree 32 text → AreSmall ns
    → slice_split (λ o. o == 32) (text ++ texts ns) ≡ text ∷ map decimal ns
parts text [] free are = ap (slice_split (λ o. o == 32)) (append-nil text) ∙ split_none 32 text free
parts text (n ∷ ns) free are =
    split_at 32 text (decimal n ++ texts ns) free
    ∙ ap (λ (ws : List (List ℕ)). text ∷ ws) (parts (decimal n) ns (decimal_free 32 (omega arith) n are.0) are.1)

kept : (word : List ℕ) (words : List (List ℕ)) → 0 < length word → filter is_word (word ∷ words) ≡ word ∷ filter is_word words
kept [] words some = absurd (omega (arith, some))
kept (x ∷ xs) words some = refl

all_kept : (ns : List ℕ) → AreSmall ns → filter is_word (map decimal ns) ≡ map decimal ns
all_kept [] are = refl
all_kept (n ∷ ns) are =
    kept (decimal n) (map decimal ns) (decimal_nonempty n are.0)
    ∙ ap (λ (ws : List (List ℕ)). decimal n ∷ ws) (all_kept ns are.1)

words : (name : List ℕ) (ns : List ℕ) → 0 < length name → IsFree 32 name → AreSmall ns
    → words_of_line (name ++ texts ns) ≡ name ∷ map decimal ns
words name ns some free are =
    ap (filter is_word) (parts name ns free are)
    ∙ kept name (map decimal ns) some
    ∙ ap (λ (ws : List (List ℕ)). name ∷ ws) (all_kept ns are)

numbers_read : (arguments : List Argument) (ns : List ℕ) → length ns ≡ length arguments → AreNumbersOf arguments ns
    → numbers_in arguments (map decimal ns) ≡ Some ns
numbers_read [] [] as_many are = refl
numbers_read [] (n ∷ ns) as_many are = absurd (omega (arith, as_many))
numbers_read (a ∷ others) [] as_many are = absurd are
numbers_read (a ∷ others) (n ∷ ns) as_many are =
    let more : List ℕ → List ℕ = λ ks. n ∷ ks in
    ap (option_and_then (λ k. option_map (λ ks. k ∷ ks) (numbers_in others (map decimal ns))))
    (short_number (range_of a).0 (range_of a).1 n are.0.0 are.0.1 (most_of a))
    ∙ ap (option_map more) (numbers_read others ns (omega (arith, as_many)) are.1)

-- ---- commands

module _ (said : Command) (is : IsSaid said) where
  are_small : AreSmall (numbers_of said)
  are_small = small (row_of said).arguments (numbers_of said) (of_words said).as_many is

  name_free : (o : ℕ) → o < 97 → IsFree o (row_of said).name
  name_free o below = letters_free o below (row_of said).name (of_words said).letters

  pub command_read : command_of (command_text said) ≡ Some said
  command_read =
      ap command_of_words (words (row_of said).name (numbers_of said) (of_words said).some (name_free 32 (omega arith)) are_small)
      ∙ ap (option_and_then (command_of_kind (map decimal (numbers_of said)))) (of_words said).named
      ∙ ap (option_map (λ ks. command_from (kind_of said) (get_or ks 0 0) (get_or ks 1 0)))
      (numbers_read (row_of said).arguments (numbers_of said) (of_words said).as_many is)
      ∙ ap Some (of_words said).meant

  -- a command's words have neither an LF nor a CR
  pub command_free : (o : ℕ) → o < 32 → IsFree o (command_text said)
  command_free o below =
      free-append o (row_of said).name (texts (numbers_of said)) (name_free o (omega (arith, below)))
      (texts_free o below (numbers_of said) are_small)

  -- a command's words are not too long for a line
  pub command_short : length (command_text said) ≤ 80
  command_short =
      let sum = length-append (row_of said).name (texts (numbers_of said)) in
      omega (arith, sum, (of_words said).short, (of_words said).few, texts_short (numbers_of said) are_small)
