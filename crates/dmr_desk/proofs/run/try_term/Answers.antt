use Rattle.std.proofs.Common.{◌≡◌, ◌∙◌, refl, sym, true, false, arith}
use Rattle.std.proofs.lemmas.Result.{IfOk-weaker}
use Rattle.dmr_desk.specs.Refusing.{carrier_of_peer}
use Rattle.dmr_desk.specs.Work.{station_state}
use Rattle.dmr_desk.proofs.RefusalLemmas.{are_stations_if, are_stations_then, few_stations, fault_result, on_ok}
use Rattle.dmr_desk.proofs.run.try_term.Goals as goal

pub returns-clause-fault : goal.returns-clause-fault
returns-clause-fault g c =
    let are = are_stations_if (λ s. station_state s.link (g.P.Wire.reported s.port) (g.G.Gate.passed s.gate))
    (λ s. carrier_of_peer s.link.who) c.args.service.stations.items _ c.args.service.site.plan _
    (λ s. refl) c.as_slice.ensures.value c.plan.ensures (c.are_stations.ensures.0 c.if-not-are_stations.false) in
    fault_result _ c.run_over.result (λ refused. refused.fault) are c.run_over.ensures.fault

pub returns-clause-fits : goal.returns-clause-fits
returns-clause-fits g c =
    let are = are_stations_if (λ s. station_state s.link (g.P.Wire.reported s.port) (g.G.Gate.passed s.gate))
    (λ s. carrier_of_peer s.link.who) c.args.service.stations.items _ c.args.service.site.plan _
    (λ s. refl) c.as_slice.ensures.value c.plan.ensures (c.are_stations.ensures.0 c.if-not-are_stations.false) in
    on_ok c.run_over.result _ (are, (omega arith, omega arith))

pub returns-then-limit-eq0-clause-fault : goal.returns-then-limit-eq0-clause-fault
returns-then-limit-eq0-clause-fault g c =
    let are = are_stations_if (λ s. station_state s.link (g.P.Wire.reported s.port) (g.G.Gate.passed s.gate))
    (λ s. carrier_of_peer s.link.who) c.args.service.stations.items _ c.args.service.site.plan _
    (λ s. refl) c.as_slice.ensures.value c.plan.ensures (c.are_stations.ensures.0 c.if-not-are_stations.false) in
    (are, λ is. let low = is.0 in let high = is.1 in omega arith)

pub run_over-requires-clause-few : goal.run_over-requires-clause-few
run_over-requires-clause-few g c =
    let are = are_stations_if (λ s. station_state s.link (g.P.Wire.reported s.port) (g.G.Gate.passed s.gate))
    (λ s. carrier_of_peer s.link.who) c.args.service.stations.items _ c.args.service.site.plan _
    (λ s. refl) c.as_slice.ensures.value c.plan.ensures (c.are_stations.ensures.0 c.if-not-are_stations.false) in
    let few = few_stations (λ s. station_state s.link (g.P.Wire.reported s.port) (g.G.Gate.passed s.gate)) c.args.service.stations.items
    c.args.service.site.plan are in
    let same = c.args.service.stations.ok.0 in omega arith

pub returns-then-not-are_stations-clause-fault : goal.returns-then-not-are_stations-clause-fault
returns-then-not-are_stations-clause-fault g c = λ are.
    let e : true ≡ false = sym (c.are_stations.ensures.1
    (are_stations_then (λ s. station_state s.link (g.P.Wire.reported s.port) (g.G.Gate.passed s.gate))
    (λ s. carrier_of_peer s.link.who) c.args.service.stations.items _ c.args.service.site.plan _
    (λ s. refl) c.as_slice.ensures.value c.plan.ensures are)) ∙ c.if-not-are_stations.true in cc

pub returns-clause-shut : goal.returns-clause-shut
returns-clause-shut g c = IfOk-weaker c.run_over.result _ _ (λ t is. is.shut) c.run_over.ensures.term

pub returns-clause-open : goal.returns-clause-open
returns-clause-open g c =
    IfOk-weaker c.run_over.result _ _ (λ t is ended. is.open_to (rw c.args.service.stations.ok.0 at ended)) c.run_over.ensures.term
