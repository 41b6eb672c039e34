use Rattle.std.proofs.Common.{◌≡◌, Bool, length, sym, ap, ◌∙◌, subst}
use Rattle.dmr_frames.specs.declared.table.FrameKind.{FrameKind}
use Rattle.dmr_frames.specs.declared.table.FrameKind.TheVariants as kind
use Rattle.dmr_frames.specs.Table.{body_length}
use Rattle.dmr_frames.specs.Versions.{has_numbers}
use Rattle.dmr_frames.proofs.cutter.read_whole.Goals as goal

pub read_rx-requires : goal.read_rx-requires
read_rx-requires c =
    let P : Bool → Type 0 = λ b. length c.args.body.now ≡ body_length b kind.Rx in
    subst P (sym c.has_numbers.ensures) (c.requires ∙ ap (λ (k : FrameKind). body_length (has_numbers c.args.version) k) c.in-Rx.is)
