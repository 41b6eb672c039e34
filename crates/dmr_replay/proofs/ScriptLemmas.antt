-- Reading one more line of a script, to check it or to run it.
use Rattle.std.proofs.Common.{◌≡◌, ℕ, zero, suc, Bool, not, ◌&&◌, is_none, ◌+◌, ◌<◌, ◌≤◌, true, false, List, [], ◌∷◌, ◌++◌, Some, None}
use Rattle.std.proofs.Common.{Result, Ok, Err, length, take, drop, slice_index_or, replicate, refl, sym, ap, ◌∙◌, append_assoc, zero-add}
use Rattle.std.proofs.Common.{arith}
use Rattle.std.specs.Prelude.{Option, find}
use Rattle.std.specs.List.{cons_option, enumerate_from, filter_map}
use Rattle.std.proofs.lemmas.List.FromFn.{length-enumerate_from, get_or-enumerate_from}
use Rattle.std.proofs.lemmas.List.{append-nil, drop_more, drop_all, take_more, take_all}
use Rattle.std.proofs.lemmas.List.Elements.{filter_map-append}
use Rattle.std.proofs.lemmas.Grind.{flat_map-append}
use Rattle.dmr_link.specs.Input.{Input}
use Rattle.dmr_replay.specs.Script.{RepeatedInput, given_in, numbered_input, input_of_line, inputs_of_script, is_faulty_line, is_skipped}
use Rattle.dmr_replay.specs.Script.{line_input, lines_of, unless_fault}

-- the result of a script of which these lines, from number n on, are not read yet, and the earlier ones have these
-- inputs
abbrev pub answer : List RepeatedInput → ℕ → List (List ℕ) → Result (List RepeatedInput) ℕ
answer given n lines =
    unless_fault (find (λ line. is_faulty_line line.1) (enumerate_from n lines))
    (given ++ filter_map numbered_input (enumerate_from n lines))

skipped-cons : (given : List RepeatedInput) (n : ℕ) (line : List ℕ) (lines : List (List ℕ)) → is_skipped line ≡ true →
    answer given n (line ∷ lines) ≡ answer given (n + 1) lines
skipped-cons given n line lines skipped = rw skipped refl

inputs-cons : (given : List RepeatedInput) (n : ℕ) (line : List ℕ) (lines : List (List ℕ)) (input : RepeatedInput) →
    is_skipped line ≡ false → input_of_line line ≡ Some input
    → answer given n (line ∷ lines) ≡ answer (given ++ input ∷ []) (n + 1) lines
inputs-cons given n line lines input skipped gives = rw (skipped, gives, append_assoc) refl

fault-cons : (given : List RepeatedInput) (n : ℕ) (line : List ℕ) (lines : List (List ℕ)) → is_skipped line ≡ false →
    input_of_line line ≡ None → answer given n (line ∷ lines) ≡ Err n
fault-cons given n line lines skipped gives = rw (skipped, gives) refl

module _ (given : List RepeatedInput) (k : ℕ) (line : List ℕ) (lines : List (List ℕ))
    (here : (k < length lines) × (line ≡ slice_index_or lines k line)) (whole : Result (List RepeatedInput) ℕ)
    (before : answer given (k + 1) (drop k lines) ≡ whole) where
  next : drop k lines ≡ line ∷ drop (k + 1) lines
  next = drop_more lines k line here.0 ∙ ap (λ (l : List ℕ). l ∷ drop (k + 1) lines) (sym here.1)

  same : answer given (k + 1) (line ∷ drop (k + 1) lines) ≡ whole
  same = ap (answer given (k + 1)) (sym next) ∙ before

  -- a line that is skipped
  pub skips : (more : ℕ) → more ≡ k + 1 → is_skipped line ≡ true → answer given (more + 1) (drop more lines) ≡ whole
  skips more is skipped =
      ap (λ (m : ℕ). answer given (m + 1) (drop m lines)) is ∙ sym (skipped-cons given (k + 1) line (drop (k + 1) lines) skipped) ∙ same

  -- a line with an input
  pub gives : (more : ℕ) → more ≡ k + 1 → (input : RepeatedInput) (given_more : List RepeatedInput) → given_more ≡ given ++ input ∷ []
      → is_skipped line ≡ false → input_of_line line ≡ Some input → answer given_more (more + 1) (drop more lines) ≡ whole
  gives more is input given_more given_is skipped some =
      ap (λ (m : ℕ). answer given_more (m + 1) (drop m lines)) is
      ∙ ap (λ (g : List RepeatedInput). answer g (k + 1 + 1) (drop (k + 1) lines)) given_is
      ∙ sym (inputs-cons given (k + 1) line (drop (k + 1) lines) input skipped some) ∙ same

  -- a line at fault
  pub faults : is_skipped line ≡ false → input_of_line line ≡ None → whole ≡ Err (k + 1)
  faults skipped none = sym same ∙ fault-cons given (k + 1) line (drop (k + 1) lines) skipped none

-- the inputs of the first k lines
abbrev pub given_before : List (List ℕ) → ℕ → List RepeatedInput
given_before lines k = filter_map line_input (take k lines)

-- the place k of a list of lines has this line
abbrev pub IsLineAt : List (List ℕ) → ℕ → List ℕ → Type 0
IsLineAt lines k line = (k < length lines) × (line ≡ slice_index_or lines k line)

pub no_input : (line : List ℕ) → is_skipped line ≡ true → line_input line ≡ None
no_input line skipped = rw skipped refl

pub its_input : (line : List ℕ) (input : Option RepeatedInput) → is_skipped line ≡ false → input_of_line line ≡ input →
    line_input line ≡ input
its_input line input skipped gives = rw (skipped, gives) refl

adds_none : (line : List ℕ) → line_input line ≡ None → filter_map line_input (line ∷ []) ≡ []
adds_none line none = ap (λ (o : Option RepeatedInput). cons_option o []) none

adds_input : (line : List ℕ) (input : RepeatedInput) → line_input line ≡ Some input → filter_map line_input (line ∷ []) ≡ input ∷ []
adds_input line input some = ap (λ (o : Option RepeatedInput). cons_option o []) some

module _ (k : ℕ) (line : List ℕ) (lines : List (List ℕ)) (here : IsLineAt lines k line) (more : ℕ) (is : more ≡ k + 1) where
  -- the line adds its input, if it has one
  pub given_more : given_before lines more ≡ given_before lines k ++ filter_map line_input (line ∷ [])
  given_more =
      ap (given_before lines) is
      ∙ ap (filter_map line_input) (take_more lines k line here.0 ∙ ap (λ (l : List ℕ). take k lines ++ l ∷ []) (sym here.1))
      ∙ filter_map-append line_input (take k lines) (line ∷ [])

  -- the inputs of all lines up to this one
  pub inputs_more : inputs_of_script (given_before lines more) ≡ inputs_of_script (given_before lines k) ++ inputs_of_script
      (filter_map line_input (line ∷ []))
  inputs_more =
      let repeated : RepeatedInput → List Input = λ g. replicate g.times g.input in
      ap inputs_of_script given_more ∙ flat_map-append repeated (given_before lines k) (filter_map line_input (line ∷ []))

  module _ (whole : Result (List RepeatedInput) ℕ) (before : answer (given_before lines k) (k + 1) (drop k lines) ≡ whole) where
    -- a line that is not at fault
    pub passes : is_faulty_line line ≡ false → answer (given_before lines more) (more + 1) (drop more lines) ≡ whole
    passes fine = by (is_skipped line) refl (input_of_line line) refl fine
      where
        by : (b : Bool) → is_skipped line ≡ b → (o : Option RepeatedInput) → input_of_line line ≡ o → (not b && is_none o) ≡ false →
            answer (given_before lines more) (more + 1) (drop more lines) ≡ whole
        by true skipped o gives_it fine =
            ap (λ (g : List RepeatedInput). answer g (more + 1) (drop more lines))
            (given_more ∙ ap (λ (added : List RepeatedInput). given_before lines k ++ added) (adds_none line (no_input line skipped))
            ∙ append-nil (given_before lines k))
            ∙ skips (given_before lines k) k line lines here whole before more is skipped
        by false skipped (Some input) gives_it fine =
            gives (given_before lines k) k line lines here whole before more is input (given_before lines more)
            (given_more ∙ ap (λ (added : List RepeatedInput). given_before lines k ++ added)
            (adds_input line input (its_input line (Some input) skipped gives_it))) skipped gives_it
        by false skipped None gives_it fine = absurd (cc)

    -- a line at fault
    pub stops : is_faulty_line line ≡ true → whole ≡ Err (k + 1)
    stops fault = by (is_skipped line) refl (input_of_line line) refl fault
      where
        by : (b : Bool) → is_skipped line ≡ b → (o : Option RepeatedInput) → input_of_line line ≡ o → (not b && is_none o) ≡ true →
            whole ≡ Err (k + 1)
        by true skipped o gives_it fault = absurd (cc)
        by false skipped (Some input) gives_it fault = absurd (cc)
        by false skipped None gives_it fault = faults (given_before lines k) k line lines here whole before skipped gives_it

-- all lines are read
pub all_given : (script : List ℕ) (k : ℕ) → length (lines_of script) ≤ k → given_before (lines_of script) k ≡ given_in script
all_given script k all = ap (filter_map line_input) (take_all k (lines_of script) all)

-- a line without an input adds none to others, and a line with one as many as it says
pub none_more : (before : List Input) (line : List ℕ) → line_input line ≡ None →
    before ++ inputs_of_script (filter_map line_input (line ∷ [])) ≡ before
none_more before line none = ap (λ (g : List RepeatedInput). before ++ inputs_of_script g) (adds_none line none) ∙ append-nil before

pub as_often_more : (before : List Input) (line : List ℕ) (input : RepeatedInput) → line_input line ≡ Some input
    → before ++ inputs_of_script (filter_map line_input (line ∷ [])) ≡ before ++ replicate input.times input.input
as_often_more before line input some =
    ap (λ (g : List RepeatedInput). before ++ inputs_of_script g) (adds_input line input some)
    ∙ ap (λ (l : List Input). before ++ l) (append-nil (replicate input.times input.input))

-- an input again
pub once_more : (before : List Input) (count : ℕ) (input : Input) → (before ++ replicate count input) ++ input ∷ [] ≡ before ++ replicate
    (count + 1) input
once_more before count input =
    append_assoc before (replicate count input) (input ∷ [])
    ∙ ap (λ (l : List Input). before ++ l) (pushed count ∙ ap (λ (n : ℕ). replicate n input) one)
  where
    pushed : (n : ℕ) → replicate n input ++ input ∷ [] ≡ replicate (suc n) input
    pushed zero = refl
    pushed (suc n) = ap (λ (l : List Input). input ∷ l) (pushed n)

    one : suc count ≡ count + 1
    one = omega arith

-- no line is left
pub ends : (given : List RepeatedInput) (k : ℕ) (lines : List (List ℕ)) (whole : Result (List RepeatedInput) ℕ) → length lines ≤ k →
    answer given (k + 1) (drop k lines) ≡ whole → whole ≡ Ok given
ends given k lines whole all before =
    sym before ∙ ap (answer given (k + 1)) (drop_all k lines all) ∙ ap (λ (l : List RepeatedInput). Ok l) (append-nil given)

-- a numbered line of a list of lines
pub line_at : (lines : List (List ℕ)) (k index : ℕ) (line : List ℕ) → (k < length (enumerate_from 0 lines)) ×
    ((index, line) ≡ slice_index_or (enumerate_from 0 lines) k (index, line))
    → (index ≡ k) × IsLineAt lines k line
line_at lines k index line at =
    let lt : k < length lines = omega (arith, length-enumerate_from 0 lines, at.0) in
    let pair : (index, line) ≡ (0 + k, slice_index_or lines k line) = at.1 ∙ get_or-enumerate_from 0 lines k (index, line) lt in
    (ap (λ (p : ℕ × List ℕ). p.0) pair ∙ zero-add k, (lt, ap (λ (p : ℕ × List ℕ). p.1) pair))
