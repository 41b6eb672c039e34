use Rattle.std.proofs.Common.{◌≡◌, refl, ◌∙◌}
use Rattle.dmr_desk.specs.Crew.{Goes, moment_of}
use Rattle.dmr_desk.specs.Work.{IsAtWork}
use Rattle.dmr_desk.proofs.WorkerLemmas.{going_from}
use Rattle.dmr_desk.proofs.work.work_station.Goals as goal
use Rattle.dmr_desk.proofs.work.work_station.Goals.{then-live, else-live}

pub loop-init : goal.loop-init
loop-init g c = record { going = going_from (moment_of g.S.Serving g.D.Desk c.args.station.now c.args.desk.now); actor = refl }

pub loop-preserved : goal.loop-preserved
loop-preserved g c =
    let step : Goes IsAtWork g.S.Serving g.D.Desk c.loop.station c.loop.desk c.if-live.station c.if-live.desk c.if-live.ended =
    elim c.if-live.branch [
      | then-live w ↦ rw (w.station-is, w.desk-is, w.ended-is) w.serve_once-ended.ensures.goes
      | else-live w ↦ rw (w.station-is, w.desk-is, w.ended-is) w.ask_for_connection-ended.ensures.goes
    ] in
    let same : g.D.Desk.actor c.if-live.desk ≡ g.D.Desk.actor c.loop.desk = elim c.if-live.branch [
      | then-live w ↦ rw w.desk-is w.serve_once-ended.ensures.actor
      | else-live w ↦ rw w.desk-is w.ask_for_connection-ended.ensures.actor
    ] in
    record { going = rw c.in_default.is at step _ c.loop.invariant.going; actor = same ∙ c.loop.invariant.actor }

pub returns-in-Some-ended-clause-works : goal.returns-in-Some-ended-clause-works
returns-in-Some-ended-clause-works g c =
    let step : Goes IsAtWork g.S.Serving g.D.Desk c.loop.station c.loop.desk c.if-live.station c.if-live.desk c.if-live.ended =
    elim c.if-live.branch [
      | then-live w ↦ rw (w.station-is, w.desk-is, w.ended-is) w.serve_once-ended.ensures.goes
      | else-live w ↦ rw (w.station-is, w.desk-is, w.ended-is) w.ask_for_connection-ended.ensures.goes
    ] in
    rw c.in-Some-ended.is at step _ c.loop.invariant.going
