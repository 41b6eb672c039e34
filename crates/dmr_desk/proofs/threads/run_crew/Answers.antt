use Rattle.std.proofs.Common.{◌+◌, ◌∙◌, ap}
use Rattle.dmr_desk.proofs.CrewLemmas.{all_new_if, all_worked, new_empty, new_if}
use Rattle.dmr_desk.proofs.threads.run_crew.Goals as goal

pub run_stations-requires-clause-new : goal.run_stations-requires-clause-new
run_stations-requires-clause-new g c = λ κs within. new_empty 0 _ (all_new_if _ _ c.args.crew.new)

pub returns : goal.returns
returns g c =
    let crew = c.args.crew in
    all_worked g.S.Serving g.T.Pacer g.C.Serving crew.stations.items crew.others c.run_stations.result
    ((new_if _ _ crew.pacer).0 ∙ crew.stations.ok.0) ((new_if _ _ crew.console).0 ∙ ap (λ n. n + 1) crew.stations.ok.0)
    (c.run_stations.ensures.carriers 0 (all_new_if _ _ crew.new)) c.run_stations.ensures.ticker c.run_stations.ensures.console
