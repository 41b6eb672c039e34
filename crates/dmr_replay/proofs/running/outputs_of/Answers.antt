use Rattle.std.proofs.lemmas.Result.{IfOk-weaker}
use Rattle.dmr_replay.specs.Script.{given_in, inputs_of_script}
use Rattle.dmr_replay.proofs.EngineLemmas.{run_reported, run_text}
use Rattle.dmr_replay.proofs.running.outputs_of.Goals as goal

pub returns-clause-carriers : goal.returns-clause-carriers
returns-clause-carriers c =
    let engine = c.in_ok-engine.engine in
    let inputs = inputs_of_script (given_in c.args.script.now) in
    IfOk-weaker c.run_script-run.result _ _
    (λ outputs writes. run_text c.args.plan.now engine c.run_script-run.new.engine outputs inputs c.in_ok-engine.ensures.site.0
    c.in_ok-engine.ensures.site.1 c.in_ok-engine.ensures.none c.in_ok-engine.ensures.uncounted
    (c.one_legal_journal.ensures.legal engine.plan)
    (c.steps_make_runs.ensures.run engine c.run_script-run.new.engine outputs inputs c.use_invariant.ensures.engine writes))
    c.run_script-run.ensures

pub returns-clause-console : goal.returns-clause-console
returns-clause-console c =
    let engine = c.in_ok-engine.engine in
    let inputs = inputs_of_script (given_in c.args.script.now) in
    IfOk-weaker c.run_script-run.result _ _
    (λ outputs writes. run_reported c.args.plan.now engine c.run_script-run.new.engine outputs inputs c.in_ok-engine.ensures.site.0
    c.in_ok-engine.ensures.site.1 c.in_ok-engine.ensures.none c.in_ok-engine.ensures.uncounted
    (c.one_legal_journal.ensures.legal engine.plan)
    (c.steps_make_runs.ensures.run engine c.run_script-run.new.engine outputs inputs c.use_invariant.ensures.engine writes))
    c.run_script-run.ensures
