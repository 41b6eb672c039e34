use Rattle.std.proofs.Common.{◌≡◌, ◌++◌, ℕ, length, List, take, drop, sym, ◌∙◌, ap, take-append-drop}
use Rattle.std.specs.Cmp.Lexicographic.{bytes_decides}
use Rattle.dmr_frames.specs.Frames.{spelling_out}
use Rattle.dmr_decode.proofs.site.front_of.Goals as goal

pub returns : goal.returns
returns c =
    let told = c.in_ok-rest.ensures.cases in
    let octets = c.args.octets.now in
    let front = c.as_slice.result.now in
    let spelled : front ≡ spelling_out c.in_ok-frame.frame = c.as_slice.ensures.value ∙ c.write_frame-spelling.ensures in
    let same : take (length front) octets ≡ front = (bytes_decides (take (length front) octets) front).0 told.0 in
    sym (take-append-drop (length front) octets) ∙ ap (λ (xs : List ℕ). xs ++ drop (length front) octets) (same ∙ spelled)
    ∙ ap (λ (xs : List ℕ). spelling_out c.in_ok-frame.frame ++ xs) (sym told.1)
