use Rattle.dmr_desk.specs.Work.{IsAtWork}
use Rattle.dmr_desk.proofs.WorkerLemmas.{same_calls, going_over, went_ready, went_not_yet, went_finished}
use Rattle.dmr_desk.proofs.work.ask_for_connection.Goals as goal

pub returns-then-over-clause-goes : goal.returns-then-over-clause-goes
returns-then-over-clause-goes g c = λ m h. going_over m _ _ (same_calls IsAtWork m _ _ _ _ c.over.ensures.calls h) c.over.ensures.questions

pub returns-in-Ready-clause-goes : goal.returns-in-Ready-clause-goes
returns-in-Ready-clause-goes g c = λ m h.
    went_ready m _ _ _ _ (same_calls IsAtWork m _ _ _ _ c.over.ensures.calls h) c.over.ensures.questions c.requires c.in-Ready.ensures
    c.open.ensures.turns c.open.ensures.stands

pub returns-in-NotYet-clause-goes : goal.returns-in-NotYet-clause-goes
returns-in-NotYet-clause-goes g c = λ m h. went_not_yet m _ _ _ (same_calls IsAtWork m _ _ _ _ c.over.ensures.calls h)
    c.over.ensures.questions c.requires c.in-NotYet.ensures

pub returns-in-Finished-clause-goes : goal.returns-in-Finished-clause-goes
returns-in-Finished-clause-goes g c = λ m h. went_finished m _ _ _ (same_calls IsAtWork m _ _ _ _ c.over.ensures.calls h)
    c.over.ensures.questions c.requires c.in-Finished.ensures
