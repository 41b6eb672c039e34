use Rattle.dmr_desk.specs.Work.{IsAboutToWait}
use Rattle.dmr_desk.proofs.WorkerLemmas.{same_calls, same_station_state, unquestioned, waiting_over, went_again, went_cut, went_cut_over}
use Rattle.dmr_desk.proofs.work.wait_for_port.Goals as goal

pub returns-then-over-clause-goes : goal.returns-then-over-clause-goes
returns-then-over-clause-goes g c = λ m h. waiting_over m _ _ (same_calls IsAboutToWait m _ _ _ _ c.over.ensures.calls h)
    c.over.ensures.questions

pub returns-in-Again-clause-goes : goal.returns-in-Again-clause-goes
returns-in-Again-clause-goes g c = λ m h. went_again m _ _ _ (same_calls IsAboutToWait m _ _ _ _ c.over.ensures.calls h)
    c.over.ensures.questions c.in-Again.ensures

pub returns-in-Ok-clause-goes : goal.returns-in-Ok-clause-goes
returns-in-Ok-clause-goes g c = λ m h.
    same_station_state m _ _ _ _ c.report_closing.ensures
    (went_cut m _ _ _ _ _ (same_calls IsAboutToWait m _ _ _ _ c.over.ensures.calls h)
    (unquestioned _ _ _ c.cut.ensures.questions c.over.ensures.questions) c.in-Silent.ensures c.cut.ensures.turns c.cut.ensures.cuts
    c.in-Ok.ensures.done)

pub returns-in-Err-clause-goes : goal.returns-in-Err-clause-goes
returns-in-Err-clause-goes g c = λ m h.
    went_cut_over m _ _ _ _ _ (same_calls IsAboutToWait m _ _ _ _ c.over.ensures.calls h)
    (unquestioned _ _ _ c.cut.ensures.questions c.over.ensures.questions) c.in-Silent.ensures c.cut.ensures.turns c.cut.ensures.cuts
