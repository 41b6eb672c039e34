-- A whole frame at the front of octets.
use Rattle.std.proofs.Common.{◌≡◌, ℕ, suc, ◌+◌, ◌-◌, ◌≤◌, Some, List, [], ◌∷◌, length, take, drop, get_or, sym, ap, ◌∙◌, arith}
use Rattle.std.proofs.Common.{length-take-le, subst}
use Rattle.std.proofs.Math.Seq.{take-length}
use Rattle.dmr_frames.specs.declared.frame.FrameIn.{FrameIn}
use Rattle.dmr_frames.specs.declared.cutter.Step.TheVariants.{Frame}
use Rattle.dmr_frames.specs.declared.table.FrameKind.{FrameKind}
use Rattle.dmr_frames.specs.declared.version.Version.{Version}
use Rattle.dmr_frames.specs.Versions.{has_numbers}
use Rattle.dmr_frames.specs.Table.{frame_row, body_length, carrier_kind}
use Rattle.dmr_frames.specs.Frames.{IsFrame, spelling, whole_step}
use Rattle.dmr_frames.specs.Shape.{AreSmall, IsWhole, IsClean}
use Rattle.dmr_frames.proofs.TableLemmas.{small-tail, small-take}
use Rattle.dmr_frames.proofs.BodyLemmas.{IsFrameStep}
use Rattle.dmr_frames.proofs.EachFrame.{IsCarriersIn, kind_found, clean-whole, whole_frame}
use Rattle.dmr_frames.proofs.OneSpelling.{frame_same}

-- the octets after a type octet and a length octet
abbrev pub after_two : List ℕ → List ℕ
after_two octets = take (length octets - 2) (drop 2 octets)

small-after : (octets : List ℕ) → AreSmall octets → 2 ≤ length octets → AreSmall (after_two octets)
small-after [] h l = absurd (omega (arith, l))
small-after (a ∷ []) h l = absurd (omega (arith, l))
small-after (a ∷ b ∷ more) h l = small-take (length (a ∷ b ∷ more) - 2) more (small-tail b more (small-tail a (b ∷ more) h))

pub whole-front : (v : Version) (octets : List ℕ) (k : FrameKind) (n : ℕ) → carrier_kind v (get_or octets 0 0) ≡ Some k → AreSmall octets →
    2 ≤ length octets → n ≡ body_length (has_numbers v) k → n ≤ length (after_two octets) →
    IsClean (has_numbers v) k (take n (after_two octets)) → IsWhole (has_numbers v) k (take n (after_two octets))
whole-front v octets k n known small l len le clean =
    clean-whole (has_numbers v) k (take n (after_two octets)) (kind_found v (get_or octets 0 0) k known).1.0
    (length-take-le n (after_two octets) le ∙ len) (small-take n (after_two octets) (small-after octets small l)) clean

pub frame-front : (v : Version) (octets : List ℕ) (k : FrameKind) (n : ℕ) (f : FrameIn) → 2 ≤ length octets →
    carrier_kind v (get_or octets 0 0) ≡ Some k → n ≡ body_length (has_numbers v) k → get_or octets 1 0 ≡ n →
    n ≤ length (after_two octets) → IsWhole (has_numbers v) k (take n (after_two octets)) →
    Frame f ≡ whole_step (has_numbers v) k (take n (after_two octets)) →
    (n + 2 ≤ length octets) × IsFrame v f × (take (n + 2) octets ≡ spelling f)
frame-front v [] k n f l known len at le w e = absurd (omega (arith, l))
frame-front v (a ∷ []) k n f l known len at le w e = absurd (omega (arith, l))
frame-front v (a ∷ b ∷ more) k n f l known len at le w e =
    let found : (a ≡ (frame_row k).octet) × IsCarriersIn v k = kind_found v a k known in
    let all : after_two (a ∷ b ∷ more) ≡ more = ap (λ (m : ℕ). take m more) two ∙ take-length more in
    let body : List ℕ = take n (after_two (a ∷ b ∷ more)) in
    let frame : IsFrameStep v k body (whole_step (has_numbers v) k body) = whole_frame v k body found.1 w in
    let same : frame.0 ≡ f = frame_same frame.0 f (sym frame.1 ∙ sym e) in
    let spelled : a ∷ b ∷ take n more ≡ spelling frame.0 = ap (λ (xs : List ℕ). a ∷ b ∷ take n xs) (sym all)
    ∙ ap (λ (o : ℕ). o ∷ b ∷ body) found.0 ∙ ap (λ (o : ℕ). (frame_row k).octet ∷ o ∷ body) (at ∙ len) ∙ frame.3 in
    let P : FrameIn → Type 0 = λ g. IsFrame v g × (take (n + 2) (a ∷ b ∷ more) ≡ spelling g) in
    let is : IsFrame v f × (take (n + 2) (a ∷ b ∷ more) ≡ spelling f) =
    subst P same (frame.2, ap (λ (m : ℕ). take m (a ∷ b ∷ more)) more_by_two ∙ spelled) in
    (omega (arith, le, ap length all), is.0, is.1)
  where
    two : suc (suc (length more)) - 2 ≡ length more
    two = omega arith

    more_by_two : n + 2 ≡ suc (suc n)
    more_by_two = omega arith
