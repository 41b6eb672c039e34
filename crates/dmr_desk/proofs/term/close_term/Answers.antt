use Rattle.std.proofs.Common.{arith, ◌≡◌, ◌+◌, length, Some, None, ◌∙◌, sym}
use Rattle.dmr_desk.specs.Refusing.{early_actor}
use Rattle.dmr_desk.proofs.CrewLemmas.{all_done_length}
use Rattle.dmr_desk.proofs.WorkersMakeATerm.{AreOf, has_run, is_early, is_term, is_unaudited, last_shut, none_is_missing, shut_at}
use Rattle.dmr_desk.proofs.term.close_term.Goals as goal

pub returns-in-None-clause-term : goal.returns-in-None-clause-term
returns-in-None-clause-term g c = λ stations pacer console worked.
    let all = c.args.all in
    let back = c.split_all_works-back.ensures in
    let are : AreOf all _ _ _ = record { seats_are = back.seats; ends_are = back.ends; stations_are = back.stations } in
    let reported : early_actor (length c.in-Ok.report.journal) c.args.desk.limit c.split_all_works-back.result.0.ends.items ≡ None =
    rw c.requires.limit (sym c.find_early_actor-early.ensures ∙ c.in-None.is) in
    record {
      is_term = rw (back.pacer, back.console)
          (is_term _ _ (has_run g.S.Serving g.T.Pacer g.C.Serving c.args.desk stations pacer console all _ c.in-Ok.report _ _
          c.in-Ok.ensures.ok are worked) reported);
      shut = λ place s gs ge. shut_at g.S.Serving 0 stations all.carriers.items _ worked.carriers place s (rw back.stations at gs)
          (rw back.ends at ge);
      open_to = λ ge.
          let same = last_shut (λ w. w.ending) all.carriers.items all.ticker.ending all.console.ending _
          (all_done_length g.S.Serving 0 stations all.carriers.items worked.carriers) (rw back.ends at ge) in
          rw back.console (worked.last.shut same);
    }

pub returns-in-Some-clause-ended : goal.returns-in-Some-clause-ended
returns-in-Some-clause-ended g c = λ stations pacer console worked.
    let back = c.split_all_works-back.ensures in
    let are : AreOf c.args.all _ _ _ = record { seats_are = back.seats; ends_are = back.ends; stations_are = back.stations } in
    let reported : early_actor (length c.in-Ok.report.journal) c.args.desk.limit c.split_all_works-back.result.0.ends.items ≡ Some
    c.in-Some.actor = rw c.requires.limit (sym c.find_early_actor-early.ensures ∙ c.in-Some.is) in
    let failed = c.failed_term.ensures in
    rw (failed.fault, failed.ended, back.pacer, back.console) (is_early _ _ _
    (has_run g.S.Serving g.T.Pacer g.C.Serving c.args.desk stations pacer console c.args.all _ c.in-Ok.report _ _ c.in-Ok.ensures.ok are
    worked) reported)

pub returns-in-Some-kept-clause-ended : goal.returns-in-Some-kept-clause-ended
returns-in-Some-kept-clause-ended g c = λ stations pacer console worked.
    let back = c.split_all_works-back.ensures in
    let are : AreOf c.args.all _ _ _ = record { seats_are = back.seats; ends_are = back.ends; stations_are = back.stations } in
    let failed = c.failed_term-in-Some-kept.ensures in
    rw (failed.fault, failed.ended, back.pacer, back.console) (is_unaudited g.S.Serving g.T.Pacer g.C.Serving
    c.args.desk stations pacer console c.args.all _
    c.in-Err.unreported.fault c.in-Some-kept.report _ _ (rw c.in-Some-kept.is at c.in-Err.ensures.fault) are worked)

pub returns-in-None-kept-clause-ended : goal.returns-in-None-kept-clause-ended
returns-in-None-kept-clause-ended g c = λ stations pacer console worked.
    let all = c.args.all in
    let many : c.args.desk.actors ≡ length all.carriers.items + 2 = c.requires.actors ∙ (let n = all.carriers.ok.0 in omega arith) in
    absurd (none_is_missing g.S.Serving g.T.Pacer g.C.Serving c.args.desk stations pacer console all _ c.in-Err.unreported.fault many
    (rw c.in-None-kept.is at c.in-Err.ensures.fault) c.split_all_works-back.ensures.seats worked)
