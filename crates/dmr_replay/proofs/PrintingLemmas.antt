-- The printed text with one more piece of digits, and with one more carrier number.
use Rattle.std.proofs.Common.{◌≡◌, ℕ, ◌+◌, ◌-◌, ◌/◌, ◌%◌, List, [], ◌∷◌, ◌++◌, Bool, true, false, map, take, drop, slice_index, arith, refl}
use Rattle.std.proofs.Common.{sym, subst, ap, ◌∙◌}
use Rattle.std.specs.Prelude.{OnOk, Option, Result, Ok, Err, flat_map, slice_range, if◌then◌else◌}
use Rattle.std.specs.List.{range_with_len}
use Rattle.std.specs.Io.KnownBytes.{Appends, Keeps}
use Rattle.std.proofs.KnownBytes.{Appends-kept, Appends-nil, Appends-trans}
use Rattle.std.proofs.Math.Seq.{take-add}
use Rattle.std.proofs.lemmas.Grind.{flat_map-append}
use Rattle.std.proofs.lemmas.List.{append-nil}
use Rattle.std.proofs.lemmas.List.Folds.{flat_map-map}
use Rattle.std.proofs.lemmas.List.FromFn.{map-range_with_len_more}
use Rattle.hex.specs.Hex.{encode_upper, encode_with, upper_digits}
use Rattle.dmr_plan.specs.declared.settings.Settings.{Settings}
use Rattle.dmr_plan.specs.Carriers.{has_number_in}
use Rattle.dmr_replay.specs.Replay.{carrier_line, line_of_number, lines_to}

encode_with-append : (table xs ys : List ℕ) → encode_with table (xs ++ ys) ≡ encode_with table xs ++ encode_with table ys
unfolding encode_with
encode_with-append table [] ys = refl
encode_with-append table (x ∷ xs) ys =
    ap (λ (rest : List ℕ). slice_index table (x / 16) ∷ slice_index table (x % 16) ∷ rest) (encode_with-append table xs ys)

-- nothing is printed yet
pub nothing_printed : (old : Option (List ℕ)) → Appends old old (encode_upper [])
unfolding encode_with
nothing_printed old = Appends-nil old

-- the digits of octets up to a place, and those of a piece after it
pub digits_more : (octets : List ℕ) (at count : ℕ) → encode_upper (take (at + count) octets) ≡ encode_upper (take at octets) ++ encode_upper
    (slice_range octets at (at + count))
digits_more octets at count =
    let length_is : at + count - at ≡ count = omega arith in
    ap encode_upper (take-add at count octets ∙ ap (λ (n : ℕ). take at octets ++ take n (drop at octets)) (sym length_is))
    ∙ encode_with-append upper_digits (take at octets) (slice_range octets at (at + count))

-- one more piece is printed
pub piece_printed : (old before after : Option (List ℕ)) (octets : List ℕ) (at count : ℕ) →
    Appends old before (encode_upper (take at octets))
    → Appends before after (encode_upper (slice_range octets at (at + count))) → Appends old after (encode_upper (take (at + count) octets))
piece_printed old before after octets at count printed more =
    subst (Appends old after) (sym (digits_more octets at count))
    (Appends-trans old before after (encode_upper (take at octets)) (encode_upper (slice_range octets at (at + count))) printed more)

module _ (plan : Settings) (put_out : ℕ → List ℕ) (number : ℕ) where
  line : ℕ → List ℕ
  line = line_of_number plan put_out

  lines_more : lines_to plan put_out (number + 1) ≡ lines_to plan put_out number ++ line_of_number plan put_out number
  unfolding line
  lines_more =
      sym (flat_map-map (λ x. x) line (range_with_len 0 (number + 1)))
      ∙ ap (flat_map (λ x. x)) (map-range_with_len_more line 0 number number (omega arith))
      ∙ flat_map-append (λ x. x) (map line (range_with_len 0 number)) (line number ∷ [])
      ∙ ap (λ (before : List ℕ). before ++ (line number ++ [])) (flat_map-map (λ x. x) line (range_with_len 0 number))
      ∙ ap (λ (after : List ℕ). lines_to plan put_out number ++ after) (append-nil (line number))

  with_or_without : (b : Bool) → has_number_in plan.lists.carriers number ≡ b
      → lines_to plan put_out (number + 1) ≡ lines_to plan put_out number ++ (if b then carrier_line number (put_out number) else [])
  with_or_without b has =
      lines_more ∙ ap (λ (c : Bool). lines_to plan put_out number ++ (if c then carrier_line number (put_out number) else [])) has

  -- the plan has the number, and its line is printed
  pub line_printed : (old before after : Option (List ℕ)) → Appends old before (lines_to plan put_out number) →
      has_number_in plan.lists.carriers number ≡ true
      → Appends before after (carrier_line number (put_out number)) → Appends old after (lines_to plan put_out (number + 1))
  line_printed old before after printed there more =
      subst (Appends old after) (sym (with_or_without true there))
      (Appends-trans old before after (lines_to plan put_out number) (carrier_line number (put_out number)) printed more)

  -- the plan does not have the number
  pub passed_over : (old before : Option (List ℕ)) → Appends old before (lines_to plan put_out number) →
      has_number_in plan.lists.carriers number ≡ false
      → Appends old before (lines_to plan put_out (number + 1))
  passed_over old before printed missing =
      subst (Appends old before) (sym (with_or_without false missing ∙ append-nil (lines_to plan put_out number))) printed

-- a text and its end are printed, and the writer is flushed
pub end_printed : {A E : Type 0} (flushed : Result A E) (old before after last : Option (List ℕ)) (text end : List ℕ) →
    Appends old before text → Appends before after end → Keeps after last
    → OnOk flushed (Appends old last (text ++ end))
end_printed (Ok done) old before after last text end printed more kept =
    Appends-kept old after last (text ++ end) (Appends-trans old before after text end printed more) kept
end_printed (Err fault) old before after last text end printed more kept = tt
