use Rattle.std.proofs.Common.{◌≡◌, ◌++◌, drop}
use Rattle.std.specs.Prelude.{fold}
use Rattle.dmr_keeper.specs.Calls.{ended_by_acts, open_by_act}
use Rattle.dmr_keeper.proofs.ending.apply_acts.Given as goal

abbrev pub invariant-loop-act : goal.invariant-loop-act
invariant-loop-act l = record {
  calls : fold (open_by_act l.tick l.lines) l.calls.items (drop l.act-index l.acts) ≡ fold
      (open_by_act l.tick l.lines) l.initial.calls.items l.acts;
  ended : l.ended.items ++ ended_by_acts l.hang l.event l.tick l.lines l.calls.items
      (drop l.act-index l.acts) ≡ l.initial.ended.items ++ ended_by_acts l.hang l.event l.tick l.lines l.initial.calls.items l.acts;
}
