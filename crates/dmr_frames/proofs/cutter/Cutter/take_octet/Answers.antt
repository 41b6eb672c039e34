use Rattle.std.proofs.Common.{◌≡◌, ℕ, ◌+◌, List, ◌∷◌, [], ◌++◌, length, take, set, arith, sym, ap, ◌∙◌, subst, length-append}
use Rattle.std.proofs.Common.{length-take-le}
use Rattle.std.proofs.lemmas.List.{take_more_set}
use Rattle.dmr_frames.specs.declared.version.Version.{Version}
use Rattle.dmr_frames.specs.declared.cutter.Step.TheVariants.{Need}
use Rattle.dmr_frames.specs.Reading.{step_at}
use Rattle.dmr_frames.specs.Versions.{version_of}
use Rattle.dmr_frames.specs.Shape.{IsShape}
use Rattle.dmr_frames.proofs.ShapeLemmas.{shape-short}
use Rattle.dmr_frames.proofs.StepLemmas.{need_shape}
use Rattle.dmr_frames.proofs.cutter.Cutter.take_octet.Goals as goal

pub invariant_of-self : goal.invariant_of-self
invariant_of-self c =
    let octets = c.self.inside.octets in
    let n = c.self.inside.count in
    let v : Version = version_of c.self.inside.table in
    let q : List ℕ = take n octets in
    let need : Need ≡ step_at v q c.args.octet =
    sym c.in-Need.is ∙ c.read_octet.ensures ∙ ap (λ (w : Version). step_at w q c.args.octet) c.version.ensures in
    let shape : IsShape v (q ++ c.args.octet ∷ []) = need_shape v q c.args.octet c.self.invariant.1 (omega arith) need in
    let same : take (n + 1) (set octets n c.args.octet) ≡ q ++ c.args.octet ∷ [] = take_more_set octets n c.args.octet (omega arith) in
    let len : length q ≡ n = length-take-le n octets (omega arith) in
    let P : List ℕ → Type 0 = λ xs. IsShape v xs in
    (omega (arith, len, shape-short v (q ++ c.args.octet ∷ []) shape, length-append q (c.args.octet ∷ [])), subst P (sym same) shape)
