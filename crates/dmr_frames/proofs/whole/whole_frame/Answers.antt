use Rattle.std.proofs.Common.{◌≡◌, ℕ, ◌+◌, ◌-◌, ◌<◌, List, [], ◌∷◌, ◌++◌, Some, length, take, get_or, sym, ap, ◌∙◌, arith, subst}
use Rattle.std.proofs.Math.Seq.{take-length}
use Rattle.std.proofs.lemmas.List.{take_more}
use Rattle.dmr_frames.specs.declared.cutter.Step.TheVariants.{Need, Frame}
use Rattle.dmr_frames.specs.declared.version.Version.{Version}
use Rattle.dmr_frames.specs.declared.version.FrameTable.TheVariants.{Later}
use Rattle.dmr_frames.specs.Rest.{Rest, Open}
use Rattle.dmr_frames.specs.Stream.{IsOpen}
use Rattle.dmr_frames.specs.Reading.{step_at, step_from, rest_after_octet, rest_after}
use Rattle.dmr_frames.proofs.ReadingLemmas.{open_nothing}
use Rattle.dmr_frames.proofs.OneFrameLemmas.{front_of, last_of, front-last, small-front_of, step-in_front, step-after_front}
use Rattle.dmr_frames.proofs.OneFrameLemmas.{open-after_need, spelled-at_frame}
use Rattle.dmr_frames.proofs.whole.whole_frame.Goals as goal

pub loop-octet-init : goal.loop-octet-init
loop-octet-init c = record { rest = c.with_table-cutter.ensures; begun = open_nothing c.args.version }

-- an octet before the last has another result than Need
pub returns-in_default-feed_byte : goal.returns-in_default-feed_byte
returns-in_default-feed_byte c =
    let octets = c.args.octets.now in
    let i = c.loop-octet.octet-index in
    record {
      found = tt;
      only = λ f hf e. absurd (c.in_default-feed_byte.not-Need
          (c.feed_byte.ensures.step ∙ ap (λ (r : Rest). step_from r (get_or (front_of octets) i 0)) c.loop-octet.invariant.rest
          ∙ step-in_front c.args.version octets i f (λ k. omega (arith, c.type_inv.octets k)) (omega arith) (omega arith) hf e));
    }

pub loop-octet-preserved : goal.loop-octet-preserved
loop-octet-preserved c =
    let front : List ℕ = front_of c.args.octets.now in
    let i = c.loop-octet.octet-index in
    let q : List ℕ = take i front in
    let x : ℕ = get_or front i 0 in
    let small : x < 256 = small-front_of c.args.octets.now i (λ k. omega (arith, c.type_inv.octets k)) (omega arith) in
    let need : step_at c.args.version q x ≡ Need =
    sym (c.in-Need.ensures.step ∙ ap (λ (r : Rest). step_from r x) c.loop-octet.invariant.rest) in
    let longer : take (i + 1) front ≡ q ++ x ∷ [] = take_more front i 0 (omega arith) in
    let P : List ℕ → Type 0 = λ xs. IsOpen c.args.version xs in
    record {
      rest = c.feed_byte.ensures.rest ∙ ap (λ (r : Rest). rest_after_octet r x) c.loop-octet.invariant.rest
          ∙ ap (rest_after (Later c.args.version) q x) need ∙ ap (Open (Later c.args.version)) (sym longer);
      begun = subst P (sym longer) (open-after_need c.args.version q x small c.loop-octet.invariant.begun need);
    }

-- if all octets but the last have needed more
open_at_end : (v : Version) (xs : List ℕ) (i : ℕ) → IsOpen v (take i xs) → i ≡ length xs → IsOpen v xs
open_at_end v xs i h e = let P : List ℕ → Type 0 = λ ys. IsOpen v ys in subst P (ap (λ (n : ℕ). take n xs) e ∙ take-length xs) h

fed_at_end : (v : Version) (xs : List ℕ) (i x : ℕ) (r : Rest) → r ≡ Open (Later v) (take i xs) → i ≡ length xs →
    step_from r x ≡ step_at v xs x
fed_at_end v xs i x r h e = ap (λ (s : Rest). step_from s x) (h ∙ ap (Open (Later v)) (ap (λ (n : ℕ). take n xs) e ∙ take-length xs))

pub returns-in-Frame-clause-found : goal.returns-in-Frame-clause-found
returns-in-Frame-clause-found c =
    let octets : List ℕ = c.args.octets.now in
    let i : ℕ = c.loop-octet.octet-index in
    let ends : i ≡ length (front_of octets) = omega arith in
    let frame : step_at c.args.version (front_of octets) (last_of octets) ≡ Frame c.in-Frame.frame = sym
    (c.in-Frame.ensures.step ∙ fed_at_end c.args.version (front_of octets) i
    (last_of octets) c.loop-octet.cutter c.loop-octet.invariant.rest ends) in
    let begun : IsOpen c.args.version (front_of octets) =
    open_at_end c.args.version (front_of octets) i c.loop-octet.invariant.begun ends in
    let spelled = spelled-at_frame c.args.version (front_of octets) (last_of octets) c.in-Frame.frame
    (omega (arith, c.type_inv.octets (length octets - 1))) begun frame in
    (spelled.0, front-last octets (omega arith) ∙ spelled.1)

pub returns-in-Frame-clause-only : goal.returns-in-Frame-clause-only
returns-in-Frame-clause-only c = λ f hf e.
    let octets : List ℕ = c.args.octets.now in
    let ends : c.loop-octet.octet-index ≡ length (front_of octets) = omega arith in
    let brought : Frame c.in-Frame.frame ≡ Frame f = c.in-Frame.ensures.step
    ∙ fed_at_end c.args.version (front_of octets) c.loop-octet.octet-index
    (last_of octets) c.loop-octet.cutter c.loop-octet.invariant.rest ends
    ∙ step-after_front c.args.version octets f (λ k. omega (arith, c.type_inv.octets k)) (omega arith) hf e in
    let same : c.in-Frame.frame ≡ f = cc in
    ap Some same

pub returns-in_default-feed_byte-2 : goal.returns-in_default-feed_byte-2
returns-in_default-feed_byte-2 c =
    let octets : List ℕ = c.args.octets.now in
    let ends : c.loop-octet.octet-index ≡ length (front_of octets) = omega arith in
    record {
      found = tt;
      only = λ f hf e. absurd (c.in_default-feed_byte-2.not-Frame f (c.feed_byte-2.ensures.step
          ∙ fed_at_end c.args.version (front_of octets) c.loop-octet.octet-index
          (last_of octets) c.loop-octet.cutter c.loop-octet.invariant.rest ends
          ∙ step-after_front c.args.version octets f (λ k. omega (arith, c.type_inv.octets k)) (omega arith) hf e));
    }
