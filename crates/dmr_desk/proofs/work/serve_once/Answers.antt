use Rattle.dmr_desk.specs.Work.{IsAtWork}
use Rattle.dmr_desk.proofs.WorkerLemmas.{same_calls, same_station_state, going_over, unquestioned, went_idle, went_paused, went_refused}
use Rattle.dmr_desk.proofs.WorkerLemmas.{went_shut, went_closed}
use Rattle.dmr_desk.proofs.work.serve_once.Goals as goal

pub returns-then-over-clause-goes : goal.returns-then-over-clause-goes
returns-then-over-clause-goes g c = λ m h. going_over m _ _ (same_calls IsAtWork m _ _ _ _ c.over.ensures.calls h) c.over.ensures.questions

pub returns-in-Idle-clause-goes : goal.returns-in-Idle-clause-goes
returns-in-Idle-clause-goes g c = λ m h.
    c.wait_for_port.ensures.goes m (went_idle m _ _ (same_calls IsAtWork m _ _ _ _ c.over.ensures.calls h)
    (unquestioned _ _ _ c.serve.ensures.questions c.over.ensures.questions) c.requires c.in-Idle.ensures.serves)

pub returns-in-TermOver-clause-goes : goal.returns-in-TermOver-clause-goes
returns-in-TermOver-clause-goes g c = λ m h. went_refused m _ _ (same_calls IsAtWork m _ _ _ _ c.over.ensures.calls h)
    (unquestioned _ _ _ c.serve.ensures.questions c.over.ensures.questions) c.requires c.in-TermOver.ensures.serves

pub returns-in-GateShut-clause-goes : goal.returns-in-GateShut-clause-goes
returns-in-GateShut-clause-goes g c = λ m h. went_shut m _ _ (same_calls IsAtWork m _ _ _ _ c.over.ensures.calls h)
    (unquestioned _ _ _ c.serve.ensures.questions c.over.ensures.questions) c.requires c.in-GateShut.ensures.serves

pub returns-in-Paused-clause-goes : goal.returns-in-Paused-clause-goes
returns-in-Paused-clause-goes g c = λ m h. went_paused m _ _ (same_calls IsAtWork m _ _ _ _ c.over.ensures.calls h)
    (unquestioned _ _ _ c.serve.ensures.questions c.over.ensures.questions) c.requires c.in-Paused.ensures.serves

pub returns-in_default-clause-goes : goal.returns-in_default-clause-goes
returns-in_default-clause-goes g c = λ m h.
    same_station_state m _ _ _ _ c.report_closing.ensures
    (went_closed m _ _ _ (same_calls IsAtWork m _ _ _ _ c.over.ensures.calls h)
    (unquestioned _ _ _ c.serve.ensures.questions c.over.ensures.questions) c.requires c.serve.ensures.serves c.in_default.not-Idle
    c.in_default.not-TermOver c.in_default.not-GateShut c.in_default.not-Paused)
