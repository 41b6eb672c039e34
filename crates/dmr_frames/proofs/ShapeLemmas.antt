-- The octets from which a frame can follow: those of a type octet, its length, and a body that has begun and in which
-- no octet is a fault.
use Rattle.std.proofs.Common.{◌≡◌, ℕ, suc, Bool, ◌+◌, ◌-◌, ◌<◌, Option, Some, None, List, [], ◌∷◌, ◌++◌, length, replicate, refl, sym, ap}
use Rattle.std.proofs.Common.{◌∙◌, arith, length-append, subst}
use Rattle.dmr_frames.specs.declared.frame.FrameIn.TheVariants.{Poll}
use Rattle.dmr_frames.specs.declared.table.FrameKind.{FrameKind}
use Rattle.dmr_frames.specs.declared.version.Version.{Version}
use Rattle.dmr_frames.specs.Versions.{has_numbers}
use Rattle.dmr_frames.specs.Table.{frame_row, carrier_kind, body_length}
use Rattle.dmr_frames.specs.Frames.{whole_step}
use Rattle.dmr_frames.specs.Stream.{IsOpen}
use Rattle.dmr_frames.specs.Shape.{AreSmall, AreFitting, IsWhole, IsShapeOf, IsShape}
use Rattle.dmr_frames.proofs.TableLemmas.{none_small, small-front, fitting-front}
use Rattle.dmr_frames.proofs.BodyLemmas.{IsFrameStep}
use Rattle.dmr_frames.proofs.EachFrame.{IsCarriersIn, kind_found, length-most, whole-zeros, whole_frame}
use Rattle.dmr_frames.proofs.OneSpelling.{Follows, follows}

-- ---- an open front has this shape

front_shape : (b : Bool) (k : FrameKind) (rest : List ℕ) (x : ℕ) (more body : List ℕ) → IsWhole b k body →
    rest ++ x ∷ more ≡ body_length b k ∷ body → IsShapeOf b (Some k) rest
front_shape b k [] x more body w e = tt
front_shape b k (n ∷ front) x more body w e =
    let len : n ≡ body_length b k = cc in
    let behind : front ++ x ∷ more ≡ body = cc in
    let P : List ℕ → Type 0 = λ xs. AreSmall xs in
    let Q : List ℕ → Type 0 = λ xs. AreFitting b k xs in (
      len,
      record {
        short = omega (arith, ap length behind, length-append front (x ∷ more), w.all);
        small = small-front front (x ∷ more) (subst P (sym behind) w.small);
        fitting = fitting-front b k front (x ∷ more) (subst Q (sym behind) w.fitting);
      },
    )

pub shape-from_open : (v : Version) (q : List ℕ) → IsOpen v q → IsShape v q
shape-from_open v [] h = tt
shape-from_open v (octet ∷ rest) (f, x, more, is, e) =
    let behind : Follows v octet (rest ++ x ∷ more) = follows v octet (rest ++ x ∷ more) f is e in
    let P : Option FrameKind → Type 0 = λ m. IsShapeOf (has_numbers v) m rest in
    subst P (sym behind.known) (front_shape (has_numbers v) behind.which rest x more behind.body behind.whole behind.rest_is)

-- ---- octets of this shape are an open front

open_kind : (v : Version) (octet : ℕ) (k : FrameKind) (rest : List ℕ) → carrier_kind v octet ≡ Some k →
    IsShapeOf (has_numbers v) (Some k) rest → IsOpen v (octet ∷ rest)
open_kind v octet k [] known h =
    let found : (octet ≡ (frame_row k).octet) × IsCarriersIn v k = kind_found v octet k known in
    let n : ℕ = body_length (has_numbers v) k in
    let frame : IsFrameStep v k (replicate n 0) (whole_step (has_numbers v) k (replicate n 0)) = whole_frame v k (replicate n 0) found.1
    (whole-zeros (has_numbers v) k [] n none_small (λ i lt. absurd (omega arith)) (omega arith)) in
    (frame.0, n, replicate n 0, frame.2, ap (λ (o : ℕ). o ∷ n ∷ replicate n 0) found.0 ∙ frame.3)
open_kind v octet k (n ∷ body) known h =
    let found : (octet ≡ (frame_row k).octet) × IsCarriersIn v k = kind_found v octet k known in
    let m : ℕ = body_length (has_numbers v) k - length body - 1 in
    let full : length body + suc m ≡ body_length (has_numbers v) k = omega (arith, h.1.short) in
    let all : List ℕ = body ++ replicate (suc m) 0 in
    let frame : IsFrameStep v k all (whole_step (has_numbers v) k all) =
    whole_frame v k all found.1 (whole-zeros (has_numbers v) k body (suc m) h.1.small h.1.fitting full) in
    (frame.0, 0, replicate m 0, frame.2, ap (λ (o : ℕ). o ∷ n ∷ all) found.0 ∙ ap (λ (o : ℕ). (frame_row k).octet ∷ o ∷ all) h.0 ∙ frame.3)

pub open-from_shape : (v : Version) (q : List ℕ) → IsShape v q → IsOpen v q
open-from_shape v [] h = (Poll, 3, 0 ∷ [], tt, refl)
open-from_shape v (octet ∷ rest) h = at (carrier_kind v octet) refl h
  where
    at : (m : Option FrameKind) → carrier_kind v octet ≡ m → IsShapeOf (has_numbers v) m rest → IsOpen v (octet ∷ rest)
    at None e h = absurd h
    at (Some k) e h = open_kind v octet k rest e h

-- ---- how long it is

pub shape-short : (v : Version) (q : List ℕ) → IsShape v q → length q < 29
shape-short v [] h = omega arith
shape-short v (octet ∷ rest) h = at (carrier_kind v octet) rest h
  where
    at : (m : Option FrameKind) (rest : List ℕ) → IsShapeOf (has_numbers v) m rest → suc (length rest) < 29
    at None rest h = absurd h
    at (Some k) [] h = omega arith
    at (Some k) (n ∷ body) h = omega (arith, h.1.short, length-most (has_numbers v) k)
