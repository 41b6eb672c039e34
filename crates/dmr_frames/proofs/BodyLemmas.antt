-- A whole body is that of one frame, and a frame's spelling is one whole body after its type and its length.
use Rattle.std.proofs.Common.{◌≡◌, ◌==◌, ℕ, zero, suc, ◌+◌, ◌*◌, ◌/◌, ◌%◌, ◌<◌, nat_lt, cond, Bool, true, false, Option, Some, None, List}
use Rattle.std.proofs.Common.{[], ◌∷◌, length, get_or, refl, sym, ap, ◌∙◌, arith}
use Rattle.std.proofs.lemmas.Bool.{eqb-true, eq-eqb, ltb-true, lt-ltb}
use Rattle.std.proofs.lemmas.List.FromFn.{length-map-range_with_len}
use Rattle.dmr_bits.specs.Bits.{octet_bit, IsOctets}
use Rattle.dmr_bits.specs.Words.{word_octets, word_of}
use Rattle.dmr_bits.proofs.Laws.{word_octets-octets, word_octets-spells, word_octets-word_of, word_of-word_octets, pad-last}
use Rattle.dmr_frames.specs.declared.frame.FrameIn.{FrameIn}
use Rattle.dmr_frames.specs.declared.frame.FrameIn.TheVariants.{Hello, Rx, Active}
use Rattle.dmr_frames.specs.declared.frame.Cause.{Cause}
use Rattle.dmr_frames.specs.declared.frame.Cause.TheVariants.{BadSlot, BadPad}
use Rattle.dmr_frames.specs.declared.cutter.Step.{Step}
use Rattle.dmr_frames.specs.declared.cutter.Step.TheVariants.{Frame}
use Rattle.dmr_frames.specs.declared.table.Field.TheVariants as field
use Rattle.dmr_frames.specs.declared.table.FrameKind.{FrameKind}
use Rattle.dmr_frames.specs.declared.table.FrameKind.TheVariants as kind
use Rattle.dmr_frames.specs.declared.version.Version.{Version}
use Rattle.dmr_frames.specs.Versions.{has_numbers}
use Rattle.dmr_frames.specs.Table.{body_length, fields_fault}
use Rattle.dmr_frames.specs.Frames.{IsNumberWhere, IsFrame, frame_octets, spelling, hello_step, rx_step, burst_step, active_step}
use Rattle.dmr_frames.specs.Shape.{AreSmall, AreFitting, IsWhole, IsBurst, IsRxBody, IsActiveBody}
use Rattle.dmr_frames.proofs.TableLemmas.{small-tail, small-cons, plain_word, numbered_word}

-- ---- a whole body is that of a frame

pub word_length : (octets : List ℕ) → length (word_of octets) ≡ 196
unfolding word_of
word_length octets = length-map-range_with_len (octet_bit octets) 0 196

fault_some : (cause : Cause) → ◌≡◌ {A = Option Cause} (Some cause) None → ⊥
fault_some cause e = cc

slot_small : (x : ℕ) → cond (nat_lt x 2) None (Some BadSlot) ≡ None → x < 2
slot_small x e = at (nat_lt x 2) refl e
  where
    at : (b : Bool) → nat_lt x 2 ≡ b → cond b None (Some BadSlot) ≡ None → x < 2
    at true eb e = ltb-true x 2 eb
    at false eb e = absurd (fault_some BadSlot e)

pad_zero : (x : ℕ) → cond (x % 16 == 0) None (Some BadPad) ≡ None → x % 16 ≡ 0
pad_zero x e = at (x % 16 == 0) refl e
  where
    at : (b : Bool) → (x % 16 == 0) ≡ b → cond b None (Some BadPad) ≡ None → x % 16 ≡ 0
    at true eb e = eqb-true (x % 16) 0 eb
    at false eb e = absurd (fault_some BadPad e)

pub rx_body : (b : Bool) (body : List ℕ) → IsWhole b kind.Rx body → IsRxBody b body
rx_body false [] w = absurd (omega (arith, w.all))
rx_body false (slot ∷ octets) w =
    let len : length octets ≡ 25 = omega (arith, w.all) in (
      slot_small slot (w.fitting 0 (omega arith)),
      len,
      pad-last octets ∙ pad_zero (get_or octets 24 0)
          (w.fitting 25 (omega (arith, w.all))),
    )
rx_body true [] w = absurd (omega (arith, w.all))
rx_body true (number ∷ []) w = absurd (omega (arith, w.all))
rx_body true (number ∷ slot ∷ octets) w =
    let len : length octets ≡ 25 = omega (arith, w.all) in (
      slot_small slot (w.fitting 1 (omega arith)),
      len,
      pad-last octets ∙ pad_zero (get_or octets 24 0)
          (w.fitting 26 (omega (arith, w.all))),
    )

pub active_body : (b : Bool) (body : List ℕ) → IsWhole b kind.Active body → IsActiveBody body
active_body b [] w = absurd (omega (arith, w.all))
active_body b (slot ∷ more) w = slot_small slot (w.fitting 0 (omega arith))

-- the result of a whole body is a frame, and the body is that of the frame's spelling
abbrev pub IsFrameStep : Version → FrameKind → List ℕ → Step → Type 0
IsFrameStep v k body s = (f : FrameIn) × (s ≡ Frame f) × IsFrame v f × (frame_octets v k body ≡ spelling f)

pub hello_whole : (v : Version) (body : List ℕ) → IsWhole (has_numbers v) kind.Hello body → IsFrameStep v kind.Hello body (hello_step body)
unfolding hello_step
hello_whole v [] w = absurd (omega (arith, w.all))
hello_whole v (a ∷ []) w = absurd (omega (arith, w.all))
hello_whole v (a ∷ b ∷ []) w = absurd (omega (arith, w.all))
hello_whole v (a ∷ b ∷ c ∷ []) w = absurd (omega (arith, w.all))
hello_whole v (a ∷ b ∷ c ∷ d ∷ []) w =
    let third : c < 256 = w.small 2 in
    let last : d < 256 = w.small 3 in
    let high : c ≡ (256 * c + d) / 256 = omega arith in
    let low : d ≡ (256 * c + d) % 256 = omega arith in
    (Hello a b (256 * c + d), refl, (w.small 0, w.small 1, omega arith), (λ i. 1 ∷ 4 ∷ a ∷ b ∷ (high i) ∷ (low i) ∷ []))
hello_whole v (a ∷ b ∷ c ∷ d ∷ e ∷ body) w = absurd (omega (arith, w.all))

-- the RX of a whole body, with or without numbers
record IsRxStep (b : Bool) (body : List ℕ) : Type 0 where
  number : Option ℕ
  slot : ℕ
  word : List Bool
  brings : rx_step b body ≡ Frame (Rx number slot word)
  numbered : IsNumberWhere b number
  fits : (slot < 2) × (length word ≡ 196)
  spells : 2 ∷ body_length b kind.Rx ∷ body ≡ spelling (Rx number slot word)

small-at : (octets : List ℕ) → length octets ≡ 25 → AreSmall octets → IsOctets 25 octets
small-at octets len small = record { len = len; small = small }

rx_step_is : (b : Bool) (body : List ℕ) → IsWhole b kind.Rx body → IsRxStep b body
unfolding rx_step burst_step
rx_step_is false [] w = absurd (omega (arith, w.all))
rx_step_is false (slot ∷ octets) w =
    let is : IsBurst (slot ∷ octets) = rx_body false (slot ∷ octets) w in
    let same : octets ≡ word_octets (word_of octets) =
    sym (word_octets-word_of octets (small-at octets is.1 (small-tail slot octets w.small)) is.2) in
    record {
      number = None;
      slot = slot;
      word = word_of octets;
      brings = refl;
      numbered = tt;
      fits = (is.0, word_length octets);
      spells = ap (λ (xs : List ℕ). 2 ∷ 26 ∷ slot ∷ xs) same;
    }
rx_step_is true [] w = absurd (omega (arith, w.all))
rx_step_is true (number ∷ []) w = absurd (omega (arith, w.all))
rx_step_is true (number ∷ slot ∷ octets) w =
    let is : IsBurst (slot ∷ octets) = rx_body true (number ∷ slot ∷ octets) w in
    let small : AreSmall octets = small-tail slot octets (small-tail number (slot ∷ octets) w.small) in
    let same : octets ≡ word_octets (word_of octets) = sym (word_octets-word_of octets (small-at octets is.1 small) is.2) in
    record {
      number = Some number;
      slot = slot;
      word = word_of octets;
      brings = refl;
      numbered = w.small 0;
      fits = (is.0, word_length octets);
      spells = ap (λ (xs : List ℕ). 2 ∷ 27 ∷ number ∷ slot ∷ xs) same;
    }

pub rx_whole : (v : Version) (body : List ℕ) → IsWhole (has_numbers v) kind.Rx body →
    IsFrameStep v kind.Rx body (rx_step (has_numbers v) body)
rx_whole v body w =
    let is : IsRxStep (has_numbers v) body = rx_step_is (has_numbers v) body w in
    (Rx is.number is.slot is.word, is.brings, (is.numbered, is.fits.0, is.fits.1), is.spells)

pub none_left : (body : List ℕ) → length body ≡ 0 → body ≡ []
none_left [] e = refl
none_left (x ∷ body) e = absurd (omega (arith, e))

pub active_whole : (v : Version) (body : List ℕ) → IsWhole (has_numbers v) kind.Active body →
    IsFrameStep v kind.Active body (active_step body)
unfolding active_step
active_whole v [] w = absurd (omega (arith, w.all))
active_whole v (slot ∷ []) w = (Active slot, refl, active_body (has_numbers v) (slot ∷ []) w, refl)
active_whole v (slot ∷ x ∷ body) w = absurd (omega (arith, w.all))

-- ---- a frame has a whole body

slot-fits : (x : ℕ) → x < 2 → cond (nat_lt x 2) None (Some BadSlot) ≡ None
slot-fits x lt = rw (lt-ltb x 2 lt) refl

word-fits : (b : Bool) (octets : List ℕ) (i : ℕ) → get_or octets 24 0 % 16 ≡ 0 →
    fields_fault b (field.Word ∷ []) i (get_or octets i 0) ≡ None
word-fits b octets i pad = at (nat_lt i 25) (i == 24) refl
  where
    at : (a c : Bool) → (i == 24) ≡ c → cond a (cond c (cond (get_or octets i 0 % 16 == 0) None (Some BadPad)) None) None ≡ None
    at false c e = refl
    at true false e = refl
    at true true e =
        let zero_pad : get_or octets i 0 % 16 ≡ 0 = ap (λ (n : ℕ). get_or octets n 0 % 16) (eqb-true i 24 e) ∙ pad in
        rw (eq-eqb (get_or octets i 0 % 16) 0 zero_pad) refl

plain-fits : (slot : ℕ) (octets : List ℕ) → slot < 2 → get_or octets 24 0 % 16 ≡ 0 → AreFitting false kind.Rx (slot ∷ octets)
plain-fits slot octets small pad zero lt = slot-fits slot small
plain-fits slot octets small pad (suc i) lt = plain_word i (get_or octets i 0) ∙ word-fits false octets i pad

numbered-fits : (number slot : ℕ) (octets : List ℕ) → slot < 2 → get_or octets 24 0 % 16 ≡ 0 →
    AreFitting true kind.Rx (number ∷ slot ∷ octets)
numbered-fits number slot octets small pad zero lt = refl
numbered-fits number slot octets small pad (suc zero) lt = slot-fits slot small
numbered-fits number slot octets small pad (suc (suc i)) lt = numbered_word i (get_or octets i 0) ∙ word-fits true octets i pad

-- the body of an RX whose slot and pad are right
pub rx-fits : (b : Bool) (body : List ℕ) → IsRxBody b body → AreFitting b kind.Rx body
rx-fits false [] is = absurd is
rx-fits false (slot ∷ octets) is = plain-fits slot octets is.0 (sym (pad-last octets) ∙ is.2)
rx-fits true [] is = absurd is
rx-fits true (number ∷ []) is = absurd is
rx-fits true (number ∷ slot ∷ octets) is = numbered-fits number slot octets is.0 (sym (pad-last octets) ∙ is.2)

pub active-fits : (b : Bool) (slot : ℕ) → slot < 2 → AreFitting b kind.Active (slot ∷ [])
active-fits b slot small zero lt = slot-fits slot small
active-fits b slot small (suc i) lt = absurd (omega arith)

word-pad : (word : List Bool) → length word ≡ 196 → get_or (word_octets word) 24 0 % 16 ≡ 0
word-pad word len = sym (pad-last (word_octets word)) ∙ (word_octets-spells word len).pad

-- the body of an RX, with or without numbers
pub record IsRxSpelled (b : Bool) (number : Option ℕ) (slot : ℕ) (word : List Bool) : Type 0 where
  pub body : List ℕ
  pub whole : IsWhole b kind.Rx body
  pub spelled : spelling (Rx number slot word) ≡ 2 ∷ body_length b kind.Rx ∷ body
  pub again : rx_step b body ≡ Frame (Rx number slot word)

pub rx_spelled : (b : Bool) (number : Option ℕ) (slot : ℕ) (word : List Bool) → IsNumberWhere b number → slot < 2 → length word ≡ 196 →
    IsRxSpelled b number slot word
unfolding rx_step burst_step
rx_spelled false None slot word is lt len =
    let octets : List ℕ = word_octets word in
    let are : IsOctets 25 octets = word_octets-octets word in
    record {
      body = slot ∷ octets;
      whole = record {
        all = omega (arith, are.len);
        small = small-cons slot octets (omega (arith, lt)) are.small;
        fitting = plain-fits slot octets lt (word-pad word len);
      };
      spelled = refl;
      again = ap (λ (w : List Bool). Frame (Rx None slot w)) (word_of-word_octets word len);
    }
rx_spelled false (Some number) slot word is lt len = absurd is
rx_spelled true None slot word is lt len = absurd is
rx_spelled true (Some number) slot word is lt len =
    let octets : List ℕ = word_octets word in
    let are : IsOctets 25 octets = word_octets-octets word in
    record {
      body = number ∷ slot ∷ octets;
      whole = record {
        all = omega (arith, are.len);
        small = small-cons number (slot ∷ octets) is (small-cons slot octets (omega (arith, lt)) are.small);
        fitting = numbered-fits number slot octets lt (word-pad word len);
      };
      spelled = refl;
      again = ap (λ (w : List Bool). Frame (Rx (Some number) slot w)) (word_of-word_octets word len);
    }
