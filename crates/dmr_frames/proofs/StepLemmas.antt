-- Each step is what one more octet makes of an open rest.
use Rattle.std.proofs.Common.{◌≡◌, ◌==◌, ℕ, ◌+◌, ◌<◌, not, cond, nat_lt, Bool, true, false, Option, Some, None, is_some, List, [], ◌∷◌}
use Rattle.std.proofs.Common.{◌++◌, length, get_or, refl, sym, ap, ◌∙◌, arith, length-append, append_assoc, subst}
use Rattle.std.proofs.Math.Seq.{get_or-append_seam}
use Rattle.std.proofs.lemmas.Bool.{eqb-true, eq-eqb, ltb-false, ltb-true}
use Rattle.dmr_frames.specs.declared.frame.Cause.{Cause}
use Rattle.dmr_frames.specs.declared.frame.Cause.TheVariants.{UnknownType, BadLength}
use Rattle.dmr_frames.specs.declared.cutter.Step.{Step}
use Rattle.dmr_frames.specs.declared.cutter.Step.TheVariants.{Need, Fault}
use Rattle.dmr_frames.specs.declared.table.FrameKind.{FrameKind}
use Rattle.dmr_frames.specs.declared.version.Version.{Version}
use Rattle.dmr_frames.specs.Versions.{has_numbers}
use Rattle.dmr_frames.specs.Table.{frame_row, carrier_kind, body_length, body_fault}
use Rattle.dmr_frames.specs.Stream.{Begins, IsOpen, IsStep}
use Rattle.dmr_frames.specs.Frames.{whole_step}
use Rattle.dmr_frames.specs.Reading.{length_step, unless_fault, body_step, kind_step, step_at}
use Rattle.dmr_frames.specs.Shape.{AreFitting, IsBegun, IsWhole, IsShapeOf, IsShape}
use Rattle.dmr_frames.proofs.TableLemmas.{none_small, small-cons, small-append, whole-last, fitting-one}
use Rattle.dmr_frames.proofs.BodyLemmas.{IsFrameStep}
use Rattle.dmr_frames.proofs.EachFrame.{IsCarriersIn, kind_found, cause_at, whole_frame}
use Rattle.dmr_frames.proofs.OneSpelling.{Follows, follows}
use Rattle.dmr_frames.proofs.ShapeLemmas.{open-from_shape, shape-from_open}
use Rattle.std.proofs.lemmas.Option.{same_Some, none-some}

no_truth : false ≡ true → ⊥
no_truth e = cc

-- after a known type octet only octets of its frame follow
same_kind : (v : Version) (octet : ℕ) (k : FrameKind) (rest : List ℕ) → carrier_kind v octet ≡ Some k → Follows v octet rest →
    (body : List ℕ) × IsWhole (has_numbers v) k body × (rest ≡ body_length (has_numbers v) k ∷ body)
same_kind v octet k rest known h =
    let same : h.which ≡ k = same_Some h.which k (sym h.known ∙ known) in
    let P : FrameKind → Type 0 = λ i. IsWhole (has_numbers v) i h.body × (rest ≡ body_length (has_numbers v) i ∷ h.body) in
    let is : IsWhole (has_numbers v) k h.body × (rest ≡ body_length (has_numbers v) k ∷ h.body) = subst P same (h.whole, h.rest_is) in
    (h.body, is.0, is.1)

open_shape : (v : Version) (octet : ℕ) (k : FrameKind) (rest : List ℕ) → carrier_kind v octet ≡ Some k →
    IsShapeOf (has_numbers v) (Some k) rest → IsOpen v (octet ∷ rest)
open_shape v octet k rest known h = let P : Option FrameKind → Type 0 = λ m. IsShapeOf (has_numbers v) m rest in
    open-from_shape v (octet ∷ rest) (subst P (sym known) h)

-- ---- at a type octet

type_sound : (v : Version) (x : ℕ) (m : Option FrameKind) → carrier_kind v x ≡ m → IsStep v [] x (cond (is_some m) Need (Fault UnknownType))
type_sound v x None e =
    (λ (f, more, is, spelled). (let h : Follows v x more = follows v x more f is spelled in none-some h.which (sym e ∙ h.known)), refl)
type_sound v x (Some k) e = open_shape v x k [] e tt

-- ---- at a length octet and in a body

-- the result of a whole body is its frame
whole_sound : (v : Version) (octet : ℕ) (k : FrameKind) (body q : List ℕ) (x : ℕ) → carrier_kind v octet ≡ Some k →
    IsWhole (has_numbers v) k body → q ++ x ∷ [] ≡ octet ∷ body_length (has_numbers v) k ∷ body →
    IsStep v q x (whole_step (has_numbers v) k body)
whole_sound v octet k body q x known w e =
    let found : (octet ≡ (frame_row k).octet) × IsCarriersIn v k = kind_found v octet k known in
    let frame : IsFrameStep v k body (whole_step (has_numbers v) k body) = whole_frame v k body found.1 w in
    let P : Step → Type 0 = λ s. IsStep v q x s in
    subst P (sym frame.1) (frame.2, e ∙ ap (λ (o : ℕ). o ∷ body_length (has_numbers v) k ∷ body) found.0 ∙ frame.3)

not_length : (v : Version) (octet : ℕ) (k : FrameKind) (x : ℕ) → carrier_kind v octet ≡ Some k → (x ≡ body_length (has_numbers v) k → ⊥) →
    Begins v (octet ∷ x ∷ []) → ⊥
not_length v octet k x known nope (f, more, is, e) =
    let h : (body : List ℕ) × IsWhole (has_numbers v) k body × (x ∷ more ≡ body_length (has_numbers v) k ∷ body) =
    same_kind v octet k (x ∷ more) known (follows v octet (x ∷ more) f is e) in
    let behind : x ∷ more ≡ body_length (has_numbers v) k ∷ h.0 = h.2 in
    let same : x ≡ body_length (has_numbers v) k = cc in
    nope same

nothing_fits : (v : Version) (k : FrameKind) → AreFitting (has_numbers v) k []
nothing_fits v k i lt = absurd (omega arith)

length_cases : (v : Version) (octet : ℕ) (k : FrameKind) (x : ℕ) (a b : Bool) → carrier_kind v octet ≡ Some k →
    (x == body_length (has_numbers v) k) ≡ a → (x == 0) ≡ b →
    IsStep v (octet ∷ []) x (cond (not a) (Fault BadLength) (cond b (whole_step (has_numbers v) k []) Need))
length_cases v octet k x false b known ea eb =
    (not_length v octet k x known (λ e. no_truth (sym ea ∙ eq-eqb x (body_length (has_numbers v) k) e)), refl)
length_cases v octet k x true true known ea eb =
    let n : x ≡ body_length (has_numbers v) k = eqb-true x (body_length (has_numbers v) k) ea in
    let none : x ≡ 0 = eqb-true x 0 eb in
    let w : IsWhole (has_numbers v) k [] = record { all = sym none ∙ n; small = none_small; fitting = nothing_fits v k } in
    whole_sound v octet k [] (octet ∷ []) x known w (ap (λ (o : ℕ). octet ∷ o ∷ []) n)
length_cases v octet k x true false known ea eb =
    let n : x ≡ body_length (has_numbers v) k = eqb-true x (body_length (has_numbers v) k) ea in
    let some : x ≡ 0 → ⊥ = λ e. no_truth (sym eb ∙ eq-eqb x 0 e) in
    open_shape v octet k (x ∷ []) known (n, record { short = omega (arith, n, some); small = none_small; fitting = nothing_fits v k })

not_octet : (v : Version) (octet : ℕ) (k : FrameKind) (n : ℕ) (body : List ℕ) (x : ℕ) (cause : Cause) → carrier_kind v octet ≡ Some k →
    body_fault (has_numbers v) k (length body) x ≡ Some cause → Begins v (octet ∷ n ∷ (body ++ x ∷ [])) → ⊥
not_octet v octet k n body x cause known fault (f, more, is, e) =
    let h : (whole : List ℕ) × IsWhole (has_numbers v) k whole × (n ∷ ((body ++ x ∷ []) ++ more) ≡ body_length (has_numbers v) k ∷ whole) =
    same_kind v octet k (n ∷ ((body ++ x ∷ []) ++ more)) known (follows v octet (n ∷ ((body ++ x ∷ []) ++ more)) f is e) in
    let heads : n ∷ ((body ++ x ∷ []) ++ more) ≡ body_length (has_numbers v) k ∷ h.0 = h.2 in
    let behind : (body ++ x ∷ []) ++ more ≡ h.0 = cc in
    let whole : body ++ x ∷ more ≡ h.0 = sym (append_assoc body (x ∷ []) more) ∙ behind in
    let P : List ℕ → Type 0 = λ xs. AreFitting (has_numbers v) k xs in
    let fits : AreFitting (has_numbers v) k (body ++ x ∷ more) = subst P (sym whole) h.1.fitting in
    let at : get_or (body ++ x ∷ more) (length body) 0 ≡ x = get_or-append_seam body x more 0 in
    let Q : ℕ → Type 0 = λ y. body_fault (has_numbers v) k (length body) y ≡ None in
    let none : body_fault (has_numbers v) k (length body) x ≡ None =
    subst Q at (fits (length body) (omega (arith, length-append body (x ∷ more)))) in
    none-some cause (sym none ∙ fault)

more_cases : (v : Version) (octet : ℕ) (k : FrameKind) (n : ℕ) (body : List ℕ) (x : ℕ) (a : Bool) → carrier_kind v octet ≡ Some k →
    n ≡ body_length (has_numbers v) k → IsBegun (has_numbers v) k body → x < 256 →
    body_fault (has_numbers v) k (length body) x ≡ None → nat_lt (length body + 1) (body_length (has_numbers v) k) ≡ a →
    IsStep v (octet ∷ n ∷ body) x (cond a Need (whole_step (has_numbers v) k (body ++ x ∷ [])))
more_cases v octet k n body x true known len h lt none ea =
    open_shape v octet k (n ∷ (body ++ x ∷ [])) known (
      len,
      record {
        short = omega (arith, length-append body (x ∷ []), ltb-true (length body + 1) (body_length (has_numbers v) k) ea);
        small = small-append body (x ∷ []) h.small (small-cons x [] lt none_small);
        fitting = fitting-one (has_numbers v) k body x h.fitting none;
      },
    )
more_cases v octet k n body x false known len h lt none ea =
    let w : IsWhole (has_numbers v) k (body ++ x ∷ []) =
    whole-last (has_numbers v) k body x h lt none (ltb-false (length body + 1) (body_length (has_numbers v) k) ea) in
    whole_sound v octet k (body ++ x ∷ []) (octet ∷ n ∷ body) x known w (ap (λ (o : ℕ). octet ∷ o ∷ (body ++ x ∷ [])) len)

body_cases : (v : Version) (octet : ℕ) (k : FrameKind) (n : ℕ) (body : List ℕ) (x : ℕ) (m : Option Cause) → carrier_kind v octet ≡ Some k →
    n ≡ body_length (has_numbers v) k → IsBegun (has_numbers v) k body → x < 256 →
    body_fault (has_numbers v) k (length body) x ≡ m →
    IsStep v (octet ∷ n ∷ body) x (unless_fault m
    (cond (nat_lt (length body + 1) (body_length (has_numbers v) k)) Need (whole_step (has_numbers v) k (body ++ x ∷ []))))
body_cases v octet k n body x None known len h lt e =
    more_cases v octet k n body x (nat_lt (length body + 1) (body_length (has_numbers v) k)) known len h lt e refl
body_cases v octet k n body x (Some cause) known len h lt e =
    (not_octet v octet k n body x cause known e, cause_at (has_numbers v) k (length body) x cause (kind_found v octet k known).1.0 e)

kind_sound : (v : Version) (octet : ℕ) (m : Option FrameKind) (rest : List ℕ) (x : ℕ) → carrier_kind v octet ≡ m →
    IsShapeOf (has_numbers v) m rest → x < 256 → IsStep v (octet ∷ rest) x (kind_step (has_numbers v) m rest x)
unfolding kind_step length_step body_step
kind_sound v octet None rest x e h lt = absurd h
kind_sound v octet (Some k) [] x e h lt = length_cases v octet k x (x == body_length (has_numbers v) k) (x == 0) e refl refl
kind_sound v octet (Some k) (n ∷ body) x e h lt =
    body_cases v octet k n body x (body_fault (has_numbers v) k (length body) x) e h.0 h.1 lt refl

shape_step : (v : Version) (q : List ℕ) (x : ℕ) → IsShape v q → x < 256 → IsStep v q x (step_at v q x)
unfolding step_at
shape_step v [] x h lt = type_sound v x (carrier_kind v x) refl
shape_step v (octet ∷ rest) x h lt = kind_sound v octet (carrier_kind v octet) rest x refl h lt

pub step_sound : (v : Version) (q : List ℕ) (x : ℕ) → IsOpen v q → x < 256 → IsStep v q x (step_at v q x)
step_sound v q x h lt = shape_step v q x (shape-from_open v q h) lt

-- the cutter keeps the shape
pub need_shape : (v : Version) (q : List ℕ) (x : ℕ) → IsShape v q → x < 256 → Need ≡ step_at v q x → IsShape v (q ++ x ∷ [])
need_shape v q x h lt e = let P : Step → Type 0 = λ s. IsStep v q x s in
    shape-from_open v (q ++ x ∷ []) (subst P (sym e) (shape_step v q x h lt))
