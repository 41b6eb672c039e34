use Rattle.std.proofs.Common.{◌≡◌, drop}
use Rattle.std.specs.Prelude.{fold}
use Rattle.dmr_keeper.specs.Lines.{lines_after_act}
use Rattle.dmr_keeper.proofs.lines.apply_acts.Given as goal

abbrev pub invariant-loop-act : goal.invariant-loop-act
invariant-loop-act l =
    fold (lines_after_act l.tick) l.lines.items (drop l.act-index l.acts) ≡ fold (lines_after_act l.tick) l.initial.lines.items l.acts
