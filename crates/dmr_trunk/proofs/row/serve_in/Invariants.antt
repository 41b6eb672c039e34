use Rattle.std.specs.Prelude.{option_map}
use Rattle.dmr_desk.specs.Service.{start_at}
use Rattle.dmr_trunk.specs.Stored.{held}
use Rattle.dmr_trunk.proofs.ServingLemmas.{IsUnderWay}
use Rattle.dmr_trunk.proofs.row.serve_in.Given as goal

-- the terms so far have run in a row, and their records are on their way
abbrev pub invariant-loop-done : goal.invariant-loop-done
invariant-loop-done g l = IsUnderWay g.K.Keeper.kept
    (start_at g.P.Wire.reported g.G.Gate.passed g.T.Pacer.paced g.C.Wire.reported l.limit l.initial.service) l.done
    (start_at g.P.Wire.reported g.G.Gate.passed g.T.Pacer.paced g.C.Wire.reported l.limit l.service)
    (g.O.Observer.seen l.initial.observer) (g.O.Observer.seen l.observer)
    (option_map (λ m. m.recorder.carried) l.initial.maker) (option_map (λ m. m.recorder.carried) l.maker)
    (held l.initial.writer) l.initial.waiting.queue (held l.writer) l.waiting.queue
