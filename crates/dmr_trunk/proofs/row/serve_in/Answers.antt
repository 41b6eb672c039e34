use Rattle.std.proofs.Common.{◌≡◌, ◌++◌, ℕ, List, option_map, arith, ap, ◌∙◌, subst}
use Rattle.dmr_core.specs.declared.entry.Entry.{Entry}
use Rattle.dmr_plan.specs.declared.settings.Settings.{Settings}
use Rattle.dmr_desk.specs.Term.{start_of_term}
use Rattle.dmr_keeper.specs.declared.time.TimedRecords.{TimedRecords}
use Rattle.dmr_trunk.specs.Served.{HaveServed, HaveStoppedServing, terms_asked}
use Rattle.dmr_desk.specs.Service.{console_of, end_at, start_at, states_of}
use Rattle.dmr_trunk.specs.Stored.{GoOn, HasMadeIfWanted, held}
use Rattle.dmr_trunk.proofs.ServingLemmas.{way_begins, way_ends, way_on, way_stops}
use Rattle.dmr_trunk.proofs.row.serve_in.Goals as goal

pub loop-done-init : goal.loop-done-init
loop-done-init g c = way_begins g.K.Keeper.kept
    (start_at g.P.Wire.reported g.G.Gate.passed g.T.Pacer.paced g.C.Wire.reported c.term_entries-limit.result c.args.service)
    (g.O.Observer.seen c.args.observer) (option_map (λ m. m.recorder.carried) c.args.books.maker) c.args.books.keeping
    c.args.books.waiting.queue

pub loop-done-preserved : goal.loop-done-preserved
loop-done-preserved g c =
    let kept = g.K.Keeper.kept in
    let limit = c.term_entries-limit.result in
    let term = c.in-Ok.term in
    let end = end_at g.P.Wire.reported g.G.Gate.passed g.T.Pacer.paced g.C.Wire.reported term in
    let left = c.into_service-service.ensures in
    let now = option_map (λ m. m.recorder.carried) c.loop-done.maker in
    let after = option_map (λ m. m.recorder.carried) c.records_of_term-made.new.maker in
    let new = c.records_of_term-made.result in
    let store = held c.loop-done.writer in
    let store_then = held c.go_on-writer.result in
    let P : Settings → Type 0 = λ plan. HasMadeIfWanted plan now term.report.journal new after in
    let Q : List Entry → Type 0 = λ journal. HasMadeIfWanted c.plan.result.now now journal new after in
    let R : List TimedRecords → Type 0 = λ waiting. GoOn (store.queue ++ waiting) (kept store.keeper)
    (store_then.queue ++ c.go_on-writer.new.waiting.queue) (kept store_then.keeper) in
    way_on kept (start_at g.P.Wire.reported g.G.Gate.passed g.T.Pacer.paced g.C.Wire.reported limit c.args.service)
    (start_at g.P.Wire.reported g.G.Gate.passed g.T.Pacer.paced g.C.Wire.reported limit c.loop-done.service)
    (start_at g.P.Wire.reported g.G.Gate.passed g.T.Pacer.paced g.C.Wire.reported limit c.into_service-service.result) c.loop-done.done end
    (g.O.Observer.seen c.args.observer) (g.O.Observer.seen c.loop-done.observer) (g.O.Observer.seen c.ended.new.self)
    (option_map (λ m. m.recorder.carried) c.args.books.maker) now after c.args.books.keeping c.args.books.waiting.queue store
    c.loop-done.waiting.queue new store_then c.go_on-writer.new.waiting.queue c.loop-done.invariant c.in-Ok.ensures.term
    c.in-Ok.ensures.fits
    (λ i. start_of_term (left.site i) limit (states_of g.P.Wire.reported g.G.Gate.passed (left.stations i).items)
    (g.T.Pacer.paced (left.pacer i)) (console_of g.C.Wire.reported (left.console i))) c.ended.ensures
    (subst P c.plan.ensures (subst Q c.as_slice.ensures c.records_of_term-made.ensures))
    (subst R c.add.ensures c.go_on-writer.ensures.goes_on)

pub returns-in-Err : goal.returns-in-Err
returns-in-Err g c =
    let kept = g.K.Keeper.kept in
    let begun = option_map (λ m. m.recorder.carried) c.args.books.maker in
    let same : c.term_entries-limit.result ≡ c.args.service.site.plan.serving.term_entries =
    c.term_entries-limit.ensures ∙ ap (λ (plan : Settings). plan.serving.term_entries) c.plan.ensures in
    let P : ℕ → Type 0 = λ limit. HaveStoppedServing kept g.K.Keeper.refuses
    (start_at g.P.Wire.reported g.G.Gate.passed g.T.Pacer.paced g.C.Wire.reported limit c.args.service)
    (terms_asked c.args.terms) c.loop-done.done c.in-Err.fault (g.O.Observer.seen c.args.observer)
    (g.O.Observer.seen c.loop-done.observer) begun c.args.books.keeping c.args.books.waiting.queue c.hand_over_rest.result in
    let counted = c.terms_asked-done-end.ensures in
    let fault = subst P same (way_stops kept g.K.Keeper.refuses
    (start_at g.P.Wire.reported g.G.Gate.passed g.T.Pacer.paced g.C.Wire.reported c.term_entries-limit.result c.args.service)
    (start_at g.P.Wire.reported g.G.Gate.passed g.T.Pacer.paced g.C.Wire.reported c.term_entries-limit.result c.loop-done.service)
    (terms_asked c.args.terms) c.loop-done.done c.in-Err.fault (g.O.Observer.seen c.args.observer)
    (g.O.Observer.seen c.loop-done.observer) begun (option_map (λ m. m.recorder.carried) c.loop-done.maker) c.args.books.keeping
    c.args.books.waiting.queue (held c.loop-done.writer) c.loop-done.waiting.queue c.hand_over_rest.result
    c.loop-done.invariant (omega arith) c.in-Err.ensures.fault c.hand_over_rest.ensures.goes_on c.hand_over_rest.ensures.end) in
    record { run = tt; fault = fault; memory = c.in-Err.ensures.memory }

pub returns : goal.returns
returns g c =
    let kept = g.K.Keeper.kept in
    let begun = option_map (λ m. m.recorder.carried) c.args.books.maker in
    let same : c.term_entries-limit.result ≡ c.args.service.site.plan.serving.term_entries =
    c.term_entries-limit.ensures ∙ ap (λ (plan : Settings). plan.serving.term_entries) c.plan.ensures in
    let counted = c.terms_asked-done-end.ensures in
    let all : c.loop-done.done ≡ terms_asked c.args.terms = omega arith in
    let P : ℕ → Type 0 = λ limit. HaveServed kept g.K.Keeper.refuses
    (start_at g.P.Wire.reported g.G.Gate.passed g.T.Pacer.paced g.C.Wire.reported limit c.args.service) c.loop-done.done
    (start_at g.P.Wire.reported g.G.Gate.passed g.T.Pacer.paced g.C.Wire.reported limit c.loop-done.service)
    (g.O.Observer.seen c.args.observer) (g.O.Observer.seen c.loop-done.observer) begun c.args.books.keeping c.args.books.waiting.queue
    c.hand_over_rest-2.result in
    let Q : ℕ → Type 0 = λ terms. HaveServed kept g.K.Keeper.refuses
    (start_at g.P.Wire.reported g.G.Gate.passed g.T.Pacer.paced g.C.Wire.reported c.args.service.site.plan.serving.term_entries
    c.args.service) terms (start_at g.P.Wire.reported g.G.Gate.passed g.T.Pacer.paced g.C.Wire.reported
    c.args.service.site.plan.serving.term_entries c.loop-done.service) (g.O.Observer.seen c.args.observer)
    (g.O.Observer.seen c.loop-done.observer) begun c.args.books.keeping c.args.books.waiting.queue c.hand_over_rest-2.result in
    let run = subst Q all (subst P same
    (way_ends kept g.K.Keeper.refuses
    (start_at g.P.Wire.reported g.G.Gate.passed g.T.Pacer.paced g.C.Wire.reported c.term_entries-limit.result c.args.service)
    (start_at g.P.Wire.reported g.G.Gate.passed g.T.Pacer.paced g.C.Wire.reported c.term_entries-limit.result c.loop-done.service)
    c.loop-done.done
    (g.O.Observer.seen c.args.observer) (g.O.Observer.seen c.loop-done.observer) begun
    (option_map (λ m. m.recorder.carried) c.loop-done.maker) c.args.books.keeping c.args.books.waiting.queue
    (held c.loop-done.writer) c.loop-done.waiting.queue c.hand_over_rest-2.result
    c.loop-done.invariant c.hand_over_rest-2.ensures.goes_on c.hand_over_rest-2.ensures.end)) in
    record { run = run; fault = tt; memory = tt }
