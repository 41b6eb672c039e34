use Rattle.std.proofs.Common.{◌-◌, ◌∙◌, ap, sym, arith}
use Rattle.std.proofs.lemmas.List.{length-set}
use Rattle.dmr_desk.proofs.SeatLemmas.{at_place}
use Rattle.dmr_desk.proofs.ViewLemmas.{actors_more}
use Rattle.dmr_desk.proofs.audit.actors_of.Goals as goal

pub loop-place-preserved : goal.loop-place-preserved
loop-place-preserved c =
    let here = at_place c.args.journal.now c.loop-place.place c.index-journal-place.result (omega arith) c.index-journal-place.is in
    let long = c.loop-place.invariant.0 in (
      length-set c.loop-place.actors (c.loop-place.place - c.args.start) _ ∙ long,
      actors_more c.args.start c.loop-place.place c.args.journal.now c.loop-place.actors c.index-journal-place.result _ (omega arith)
          (omega arith) here (ap (λ e. e.actor) (sym c.index-journal-place.is)) c.loop-place.invariant.1,
    )
