-- Frame by frame, and field by field: all that these proofs know of each by itself. A new frame needs one more case in
-- functions here, and in no other file.
use Rattle.std.proofs.Common.{◌≡◌, ◌==◌, ℕ, suc, ◌+◌, ◌-◌, ◌*◌, ◌/◌, ◌%◌, ◌<◌, ◌≤◌, nat_lt, cond, Bool, true, false, Option, Some, None}
use Rattle.std.proofs.Common.{List, [], ◌∷◌, ◌++◌, length, get_or, replicate, refl, sym, ap, ◌∙◌, arith, ⊎_elim, length-append, subst}
use Rattle.std.proofs.lemmas.Bool.{cases_lt}
use Rattle.std.proofs.lemmas.List.{get_or-append_right, get_or-replicate, get_or_past, length-replicate}
use Rattle.dmr_frames.specs.declared.frame.FrameIn.{FrameIn}
use Rattle.dmr_frames.specs.declared.frame.FrameIn.TheVariants.{Hello, Rx, Poll, Active, Bye}
use Rattle.dmr_frames.specs.declared.frame.Cause.{Cause}
use Rattle.dmr_frames.specs.declared.cutter.Step.TheVariants.{Frame}
use Rattle.dmr_frames.specs.declared.table.Field.TheVariants as field
use Rattle.dmr_frames.specs.declared.table.FrameKind.{FrameKind}
use Rattle.dmr_frames.specs.declared.table.FrameKind.TheVariants as kind
use Rattle.dmr_frames.specs.declared.version.Version.{Version}
use Rattle.dmr_frames.specs.Versions.{has_numbers}
use Rattle.dmr_frames.specs.declared.table.Field.{Field}
use Rattle.dmr_frames.specs.Table.{frame_row, carrier_kind, carrier_kinds, body_length, body_fault, field_length, field_fault, fields_fault}
use Rattle.dmr_frames.specs.Versions.{is_since}
use Rattle.dmr_frames.specs.Frames.{IsFrame, frame_octets, spelling, whole_step, hello_step, active_step}
use Rattle.dmr_frames.specs.Shape.{AreSmall, AreFitting, IsWhole, IsActiveBody, IsClean}
use Rattle.dmr_frames.specs.Limits.{longest_frame}
use Rattle.dmr_frames.specs.Stream.{fault_at}
use Rattle.dmr_frames.proofs.TableLemmas.{none_small, small-cons, small-append, small-zeros, AreFree, free_none, AreAll, among_is}
use Rattle.dmr_frames.proofs.TableLemmas.{fitting-append, rx_cause, active_cause, free_cause}
use Rattle.dmr_frames.proofs.BodyLemmas.{IsFrameStep, rx_body, active_body, hello_whole, rx_whole, none_left, active_whole, rx-fits}
use Rattle.dmr_frames.proofs.BodyLemmas.{active-fits, IsRxSpelled, rx_spelled}
use Rattle.dmr_frames.proofs.SpellingLemmas.{length-burst, burst-le}

-- ---- from the table

-- the frame comes from a carrier
abbrev pub IsCarriers : FrameKind → Type 0
IsCarriers kind.Hello = Unit {0}
IsCarriers kind.Rx = Unit {0}
IsCarriers kind.Poll = Unit {0}
IsCarriers kind.Active = Unit {0}
IsCarriers kind.Bye = Unit {0}
IsCarriers other = ⊥

-- a carrier sends the frame, and it exists in a version
abbrev pub IsCarriersIn : Version → FrameKind → Type 0
IsCarriersIn v k = IsCarriers k × (is_since (frame_row k).since v ≡ true)

all_carriers : AreAll IsCarriers carrier_kinds
all_carriers = (tt, (tt, (tt, (tt, (tt, tt)))))

-- the frame of a carrier that has a type octet
pub kind_found : (v : Version) (x : ℕ) (k : FrameKind) → carrier_kind v x ≡ Some k → (x ≡ (frame_row k).octet) × IsCarriersIn v k
kind_found v x k e = let found = among_is IsCarriers v carrier_kinds x k all_carriers e in (found.0, (found.1, found.2))

-- a type octet is an octet
pub octet_small : (k : FrameKind) → (frame_row k).octet < 256
octet_small kind.Hello = omega arith
octet_small kind.Rx = omega arith
octet_small kind.Poll = omega arith
octet_small kind.Active = omega arith
octet_small kind.Bye = omega arith
octet_small kind.Welcome = omega arith
octet_small kind.Tx = omega arith
octet_small kind.Done = omega arith
octet_small kind.Refused = omega arith

-- a body is short
pub length-most : (b : Bool) (k : FrameKind) → body_length b k < 28
length-most b kind.Hello = omega arith
length-most false kind.Rx = omega arith
length-most true kind.Rx = omega arith
length-most b kind.Poll = omega arith
length-most b kind.Active = omega arith
length-most b kind.Bye = omega arith
length-most b kind.Welcome = omega arith
length-most false kind.Tx = omega arith
length-most true kind.Tx = omega arith
length-most b kind.Done = omega arith
length-most b kind.Refused = omega arith

-- the octets of these bodies are never a fault
hello_free : AreFree (frame_row kind.Hello).body
hello_free = ((λ place x. refl), ((λ place x. refl), ((λ place x. refl), tt)))

-- if an octet of a body is a fault, the fault is that of its place
pub cause_at : (b : Bool) (k : FrameKind) (place x : ℕ) (cause : Cause) → IsCarriers k → body_fault b k place x ≡ Some cause →
    fault_at b (suc (suc place)) ≡ Some cause
cause_at b kind.Hello place x cause is e = free_cause b kind.Hello place x cause hello_free e
cause_at b kind.Rx place x cause is e = rx_cause b place x cause e
cause_at b kind.Poll place x cause is e = free_cause b kind.Poll place x cause tt e
cause_at b kind.Active place x cause is e = active_cause b place x cause e
cause_at b kind.Bye place x cause is e = free_cause b kind.Bye place x cause tt e
cause_at b kind.Welcome place x cause is e = absurd is
cause_at b kind.Tx place x cause is e = absurd is
cause_at b kind.Done place x cause is e = absurd is
cause_at b kind.Refused place x cause is e = absurd is

-- ---- a body continues with zeros

both_none : (b : Bool) → ◌≡◌ {A = Option Cause} (cond b None None) None
both_none true = refl
both_none false = refl

zero-field : (f : Field) (place : ℕ) → field_fault f place 0 ≡ None
zero-field field.Version place = refl
zero-field field.Carrier place = refl
zero-field field.Lpcn place = refl
zero-field field.Number place = refl
zero-field field.Slot place = refl
zero-field field.Word place = both_none (place == 24)
zero-field field.Reason place = refl

-- the octet 0 is nowhere a fault
zero_none : (b : Bool) (fields : List Field) (place : ℕ) → fields_fault b fields place 0 ≡ None
zero_none b [] place = refl
zero_none b (f ∷ fields) place = at (nat_lt place (field_length b f)) (zero_none b fields (place - field_length b f))
  where
    at : (c : Bool) → fields_fault b fields (place - field_length b f) 0 ≡ None →
        cond c (field_fault f place 0) (fields_fault b fields (place - field_length b f) 0) ≡ None
    at true later = zero-field f place
    at false later = later

zeros_at : (n k : ℕ) → ◌≡◌ {A = ℕ} (get_or (replicate n 0) k 0) 0
zeros_at n k =
    ⊎_elim
    (λ (lt : k < n). get_or-replicate {A = ℕ} n k 0 0 lt)
    (λ (le : n ≤ k). get_or_past {X = ℕ} (replicate n 0) k 0 (omega (arith, length-replicate {A = ℕ} n 0)))
    (cases_lt k n)

fitting-zeros : (b : Bool) (k : FrameKind) (body : List ℕ) (n : ℕ) → AreFitting b k body → AreFitting b k (body ++ replicate n 0)
fitting-zeros b k body n h = fitting-append b k body (replicate n 0) h (λ i past lt.
    let P : ℕ → Type 0 = λ y. body_fault b k i y ≡ None in
    let at : get_or (body ++ replicate n 0) i 0 ≡ 0 =
    get_or-append_right body (replicate n 0) (length body) i 0 refl past ∙ zeros_at n (i - length body) in
    subst P (sym at) (zero_none b (frame_row k).body i))

-- a body that has begun continues with zeros
pub whole-zeros : (b : Bool) (k : FrameKind) (body : List ℕ) (n : ℕ) → AreSmall body → AreFitting b k body →
    length body + n ≡ body_length b k → IsWhole b k (body ++ replicate n 0)
whole-zeros b k body n small fitting e = record {
  all = omega (arith, e, length-append body (replicate n 0), length-replicate {A = ℕ} n 0);
  small = small-append body (replicate n 0) small (small-zeros n);
  fitting = fitting-zeros b k body n fitting;
}

-- ---- a body of the right length is whole if its slot and its pad are right

one_slot : (b : Bool) (body : List ℕ) → length body ≡ 1 → IsActiveBody body → AreFitting b kind.Active body
one_slot b [] len is = absurd is
one_slot b (slot ∷ []) len is = active-fits b slot is
one_slot b (slot ∷ x ∷ body) len is = absurd (omega (arith, len))

clean_fits : (b : Bool) (k : FrameKind) (body : List ℕ) → IsCarriers k → length body ≡ body_length b k → IsClean b k body →
    AreFitting b k body
clean_fits b kind.Hello body is len clean = λ i lt. free_none b (frame_row kind.Hello).body i (get_or body i 0) hello_free
clean_fits b kind.Rx body is len clean = rx-fits b body clean
clean_fits b kind.Poll body is len clean = λ i lt. refl
clean_fits b kind.Active body is len clean = one_slot b body len clean
clean_fits b kind.Bye body is len clean = λ i lt. refl
clean_fits b kind.Welcome body is len clean = absurd is
clean_fits b kind.Tx body is len clean = absurd is
clean_fits b kind.Done body is len clean = absurd is
clean_fits b kind.Refused body is len clean = absurd is

pub clean-whole : (b : Bool) (k : FrameKind) (body : List ℕ) → IsCarriers k → length body ≡ body_length b k → AreSmall body →
    IsClean b k body → IsWhole b k body
clean-whole b k body is len small clean = record { all = len; small = small; fitting = clean_fits b k body is len clean }

pub whole-clean : (b : Bool) (k : FrameKind) (body : List ℕ) → IsWhole b k body → IsClean b k body
whole-clean b kind.Hello body w = tt
whole-clean b kind.Rx body w = rx_body b body w
whole-clean b kind.Poll body w = tt
whole-clean b kind.Active body w = active_body b body w
whole-clean b kind.Bye body w = tt
whole-clean b kind.Welcome body w = tt
whole-clean b kind.Tx body w = tt
whole-clean b kind.Done body w = tt
whole-clean b kind.Refused body w = tt

-- ---- a whole body is that of a frame

pub whole_frame : (v : Version) (k : FrameKind) (body : List ℕ) → IsCarriersIn v k → IsWhole (has_numbers v) k body →
    IsFrameStep v k body (whole_step (has_numbers v) k body)
unfolding whole_step
whole_frame v kind.Hello body is w = hello_whole v body w
whole_frame v kind.Rx body is w = rx_whole v body w
whole_frame v kind.Poll body is w = (Poll, refl, tt, ap (frame_octets v kind.Poll) (none_left body w.all))
whole_frame v kind.Active body is w = active_whole v body w
whole_frame v kind.Bye body is w = (Bye, refl, tt, ap (frame_octets v kind.Bye) (none_left body w.all))
whole_frame v kind.Welcome body is w = absurd is.0
whole_frame v kind.Tx body is w = absurd is.0
whole_frame v kind.Done body is w = absurd is.0
whole_frame v kind.Refused body is w = absurd is.0

-- ---- a frame has a whole body

-- the frame's kind in the table, and its body
pub record IsSpelled (v : Version) (f : FrameIn) : Type 0 where
  pub which : FrameKind
  pub body : List ℕ
  pub known : carrier_kind v (frame_row which).octet ≡ Some which
  pub whole : IsWhole (has_numbers v) which body
  pub spelled : spelling f ≡ frame_octets v which body
  pub again : whole_step (has_numbers v) which body ≡ Frame f

-- the two octets of a channel number are read as that number
halves : (l : ℕ) → 256 * (l / 256) + l % 256 ≡ l
halves l = omega arith

pub frame_spelled : (v : Version) (f : FrameIn) → IsFrame v f → IsSpelled v f
unfolding whole_step hello_step active_step
frame_spelled v (Hello version carrier l) is = record {
  which = kind.Hello;
  body = version ∷ carrier ∷ (l / 256) ∷ (l % 256) ∷ [];
  known = refl;
  whole = record {
    all = refl;
    small = small-cons version (carrier ∷ (l / 256) ∷ (l % 256) ∷ []) is.0 (small-cons carrier ((l / 256) ∷ (l % 256) ∷ []) is.1
        (small-cons (l / 256) ((l % 256) ∷ []) (omega (arith, is.2)) (small-cons (l % 256) [] (omega arith) none_small)));
    fitting = λ i lt. free_none (has_numbers v) (frame_row kind.Hello).body i
        (get_or (version ∷ carrier ∷ (l / 256) ∷ (l % 256) ∷ []) i 0) hello_free;
  };
  spelled = refl;
  again = ap (λ (n : ℕ). Frame (Hello version carrier n)) (halves l);
}
frame_spelled v (Rx number slot word) is =
    let s : IsRxSpelled (has_numbers v) number slot word = rx_spelled (has_numbers v) number slot word is.0 is.1 is.2 in
    record { which = kind.Rx; body = s.body; known = refl; whole = s.whole; spelled = s.spelled; again = s.again }
frame_spelled v Poll is = record {
  which = kind.Poll;
  body = [];
  known = refl;
  whole = record { all = refl; small = none_small; fitting = λ i lt. refl };
  spelled = refl;
  again = refl;
}
frame_spelled v (Active slot) is = record {
  which = kind.Active;
  body = slot ∷ [];
  known = refl;
  whole = record { all = refl; small = small-cons slot [] (omega (arith, is)) none_small; fitting = active-fits (has_numbers v) slot is };
  spelled = refl;
  again = refl;
}
frame_spelled v Bye is = record {
  which = kind.Bye;
  body = [];
  known = refl;
  whole = record { all = refl; small = none_small; fitting = λ i lt. refl };
  spelled = refl;
  again = refl;
}

-- the result of a body is the same in versions in which it has the same length
pub same_step : (b c : Bool) (k : FrameKind) (body : List ℕ) → body_length b k ≡ body_length c k → whole_step b k body ≡ whole_step c k body
unfolding whole_step
same_step true true k body e = refl
same_step false false k body e = refl
same_step b c kind.Hello body e = refl
same_step true false kind.Rx body e = absurd (omega (arith, e))
same_step false true kind.Rx body e = absurd (omega (arith, e))
same_step b c kind.Poll body e = refl
same_step b c kind.Active body e = refl
same_step b c kind.Bye body e = refl
same_step b c kind.Welcome body e = refl
same_step b c kind.Tx body e = refl
same_step b c kind.Done body e = refl
same_step b c kind.Refused body e = refl

-- ---- how long a frame is

-- the second octet counts those after it
pub length-spelling : (f : FrameIn) → length (spelling f) ≡ get_or (spelling f) 1 0 + 2
length-spelling (Hello v c l) = omega arith
length-spelling (Rx number slot word) = omega (arith, length-burst number slot word)
length-spelling Poll = omega arith
length-spelling (Active slot) = omega arith
length-spelling Bye = omega arith

-- no frame is longer than the longest
pub spelling-le : (f : FrameIn) → length (spelling f) ≤ longest_frame
spelling-le (Hello version carrier lpcn) = omega arith
spelling-le (Rx number slot word) = omega (arith, burst-le number slot word)
spelling-le Poll = omega arith
spelling-le (Active slot) = omega arith
spelling-le Bye = omega arith
