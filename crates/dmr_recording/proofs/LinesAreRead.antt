-- Lines are read back as the inputs that they say, also before other lines.
use Rattle.std.proofs.Common.{◌≡◌, ℕ, ◌+◌, ◌<◌, ◌≤◌, Bool, true, false, not, ◌&&◌, cond, List, [], ◌∷◌, ◌++◌, Option, Some, None, is_none}
use Rattle.std.proofs.Common.{Result, Ok, codes, decimal, refl, ap, ◌∙◌, append_assoc, option_map, arith, find, filter_map}
use Rattle.std.specs.List.{cons_option, enumerate_from}
use Rattle.std.specs.Result.{result_ok}
use Rattle.hex.specs.Hex.{encode_upper, IsBytes}
use Rattle.hex.proofs.HexLemmas.{decode_of-encode_upper}
use Rattle.dmr_link.specs.Input.{At, Opening, Octets, Cutting, Saying, Ticking}
use Rattle.dmr_replay.specs.Script.{RepeatedInput, once, at_least_one, octets_of_word, octets_from, input_of_words, input_of_line}
use Rattle.dmr_replay.specs.Script.{is_skipped, is_faulty_line, line_input, lines_of, numbered_input, script_of, unless_fault}
use Rattle.dmr_recording.specs.Lines.{line_of, text_of}
use Rattle.dmr_recording.proofs.FreeWords.{IsFree, free_by, free-append, split_at, decimal_free, encode_free, number_word, two_words}
use Rattle.dmr_recording.proofs.FreeWords.{three_words}

-- the line of an input, which is read back as the input
pub record IsLine (g : RepeatedInput) : Type 0 where
  pub body : List ℕ
  pub whole : line_of g ≡ body ++ 10 ∷ []
  pub free : IsFree 10 body
  pub taken : is_skipped body ≡ false
  pub means : input_of_line body ≡ Some g

-- each input has such a line
abbrev pub AreLines : List RepeatedInput → Type 0
AreLines [] = Unit {0}
AreLines (g ∷ gs) = IsLine g × AreLines gs

pub lines-append : (gs hs : List RepeatedInput) → AreLines gs → AreLines hs → AreLines (gs ++ hs)
lines-append [] hs first second = second
lines-append (g ∷ gs) hs first second = (first.0, lines-append gs hs first.1 second)

-- ---- each line

pub open_line : (c : ℕ) → c < 16 → IsLine (once (At c Opening))
open_line c small = record {
  body = codes "open " ++ decimal c;
  whole = refl;
  free = free-append 10 (codes "open ") (decimal c) (free_by 10 (codes "open ") refl) (decimal_free 10 (omega arith) c (omega arith));
  taken = refl;
  means =
      ap input_of_words (two_words (codes "open") (decimal c) (free_by 32 (codes "open") refl)
      (decimal_free 32 (omega arith) c (omega arith)))
      ∙ ap (option_map (λ (n : ℕ). once (At n Opening))) (number_word 0 15 c (omega arith) (omega arith) (omega arith));
}

pub cut_line : (c : ℕ) → c < 16 → IsLine (once (At c Cutting))
cut_line c small = record {
  body = codes "cut " ++ decimal c;
  whole = refl;
  free = free-append 10 (codes "cut ") (decimal c) (free_by 10 (codes "cut ") refl) (decimal_free 10 (omega arith) c (omega arith));
  taken = refl;
  means =
      ap input_of_words (two_words (codes "cut") (decimal c) (free_by 32 (codes "cut") refl)
      (decimal_free 32 (omega arith) c (omega arith)))
      ∙ ap (option_map (λ (n : ℕ). once (At n Cutting))) (number_word 0 15 c (omega arith) (omega arith) (omega arith));
}

pub tick_line : (n : ℕ) → 1 ≤ n → n ≤ 100000 → IsLine (record { input = Ticking; times = n })
tick_line n low high = record {
  body = codes "tick " ++ decimal n;
  whole = refl;
  free = free-append 10 (codes "tick ") (decimal n) (free_by 10 (codes "tick ") refl) (decimal_free 10 (omega arith) n (omega arith));
  taken = refl;
  means =
      ap input_of_words (two_words (codes "tick") (decimal n) (free_by 32 (codes "tick") refl)
      (decimal_free 32 (omega arith) n (omega arith)))
      ∙ ap (option_map (λ (m : ℕ). record { input = Ticking; times = m })) (number_word 1 100000 n low high (omega arith));
}

pub say_line : (t : List ℕ) → IsFree 10 t → IsLine (once (Saying (t ++ 10 ∷ [])))
say_line t free = record {
  body = codes "say " ++ t;
  whole = refl;
  free = free-append 10 (codes "say ") t (free_by 10 (codes "say ") refl) free;
  taken = refl;
  means = refl;
}

octets_read : (x : ℕ) (xs : List ℕ) → IsBytes (x ∷ xs) → octets_of_word (encode_upper (x ∷ xs)) ≡ Some (x ∷ xs)
octets_read x xs bytes = ap (λ (r : Result (List ℕ) _). at_least_one (result_ok r)) (decode_of-encode_upper (x ∷ xs) bytes)

pub bytes_line : (c x : ℕ) (xs : List ℕ) → c < 16 → IsBytes (x ∷ xs) → IsLine (once (At c (Octets (x ∷ xs))))
bytes_line c x xs small bytes =
    let digits : List ℕ = encode_upper (x ∷ xs) in
    let number_free : (o : ℕ) → o < 48 → IsFree o (decimal c) = λ o l. decimal_free o l c (omega arith) in
    let body : List ℕ = codes "bytes " ++ decimal c ++ codes " " ++ digits in
    let parts : body ≡ codes "bytes " ++ (decimal c ++ 32 ∷ digits) =
    ap (λ (l : List ℕ). codes "bytes " ++ l) (append_assoc (decimal c) (32 ∷ []) digits) in
    record {
      body = body;
      whole = refl;
      free = free-append 10 (codes "bytes " ++ decimal c ++ codes " ") digits
          (free-append 10 (codes "bytes " ++ decimal c) (codes " ")
          (free-append 10 (codes "bytes ") (decimal c) (free_by 10 (codes "bytes ") refl) (number_free 10 (omega arith)))
          (free_by 10 (codes " ") refl))
          (encode_free 10 refl (x ∷ xs) bytes);
      taken = refl;
      means =
          ap input_of_line parts
          ∙ ap input_of_words (three_words (codes "bytes") (decimal c) digits (free_by 32 (codes "bytes") refl)
          (number_free 32 (omega arith)) (encode_free 32 refl (x ∷ xs) bytes))
          ∙ (λ i. octets_from (number_word 0 15 c (omega arith) (omega arith) (omega arith) i) (octets_read x xs bytes i));
    }

-- ---- lines before others

-- the result of a script of which these are the lines, the first with this number
abbrev read : ℕ → List (List ℕ) → Result (List RepeatedInput) ℕ
read n lines =
    unless_fault (find (λ (line : ℕ × List ℕ). is_faulty_line line.1) (enumerate_from n lines))
    (filter_map numbered_input (enumerate_from n lines))

abbrev fault_from : ℕ → List (List ℕ) → Option (ℕ × List ℕ)
fault_from n lines = find (λ (line : ℕ × List ℕ). is_faulty_line line.1) (enumerate_from n lines)

same_inputs : (n m : ℕ) (lines : List (List ℕ)) → filter_map numbered_input (enumerate_from n lines) ≡ filter_map numbered_input
    (enumerate_from m lines)
same_inputs n m [] = refl
same_inputs n m (l ∷ ls) = ap (cons_option (line_input l)) (same_inputs (n + 1) (m + 1) ls)

same_none : (n m : ℕ) (lines : List (List ℕ)) → fault_from n lines ≡ None → fault_from m lines ≡ None
same_none n m [] e = refl
same_none n m (l ∷ ls) e = by (same_none (n + 1) (m + 1) ls) (is_faulty_line l) e
  where
    by : (fault_from (n + 1) ls ≡ None → fault_from (m + 1) ls ≡ None) → (b : Bool) → cond b (Some (n, l)) (fault_from (n + 1) ls) ≡ None →
        cond b (Some (m, l)) (fault_from (m + 1) ls) ≡ None
    by rest true e = absurd (cc)
    by rest false e = rest e

parts_of_ok : (o : Option (ℕ × List ℕ)) (given after : List RepeatedInput) → unless_fault o given ≡ Ok after → (o ≡ None) × (given ≡ after)
parts_of_ok None given after e = (refl, cc)
parts_of_ok (Some line) given after e = absurd (cc)

module _ (body : List ℕ) (g : RepeatedInput) (taken : is_skipped body ≡ false) (means : input_of_line body ≡ Some g) where
  fine : is_faulty_line body ≡ false
  fine = (λ i. not (taken i) && is_none (means i))

  input_is : line_input body ≡ Some g
  input_is = (λ i. cond (taken i) None (means i))

  head : (lines : List (List ℕ)) (after : List RepeatedInput) → read 1 lines ≡ Ok after → read 1 (body ∷ lines) ≡ Ok (g ∷ after)
  head lines after ok =
      let parts = parts_of_ok (fault_from 1 lines) (filter_map numbered_input (enumerate_from 1 lines)) after ok in
      (λ i. unless_fault (cond (fine i) (Some (1, body)) (same_none 1 2 lines parts.0 i))
      (cons_option (input_is i) (same_inputs 2 1 lines i)))
      ∙ ap (λ (gs : List RepeatedInput). Ok (g ∷ gs)) parts.1

  pub script-cons : (more : List ℕ) (after : List RepeatedInput) → IsFree 10 body → script_of more ≡ Ok after →
      script_of (body ++ 10 ∷ more) ≡ Ok (g ∷ after)
  script-cons more after free ok = ap (read 1) (split_at 10 body more free) ∙ head (lines_of more) after ok

pub text_read : (given : List RepeatedInput) → AreLines given → (more : List ℕ) (after : List RepeatedInput) → script_of more ≡ Ok after →
    script_of (text_of given ++ more) ≡ Ok (given ++ after)
text_read [] lines more after ok = ok
text_read (g ∷ gs) lines more after ok =
    let line = lines.0 in
    let rest : List ℕ = text_of gs ++ more in
    ap script_of
    (append_assoc (line_of g) (text_of gs) more
    ∙ ap (λ (l : List ℕ). l ++ rest) line.whole
    ∙ append_assoc line.body (10 ∷ []) rest)
    ∙ script-cons line.body g line.taken line.means rest (gs ++ after) line.free (text_read gs lines.1 more after ok)
