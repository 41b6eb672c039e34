use Rattle.std.proofs.Common.{length, ◌+◌, arith}
use Rattle.std.proofs.lemmas.Option.{slice_get_within}
use Rattle.dmr_desk.specs.Views.{view_of}
use Rattle.dmr_pdu.proofs.ListLaws.{get_within}
use Rattle.test_witness.proofs.SessionLemmas.{session}
use Rattle.test_witness.proofs.session.one_session.Goals as goal

pub returns-clause-carrier : goal.returns-clause-carrier
returns-clause-carrier c = λ start end k s t answers term here there fresh told.
    let run = term.run in
    let low = slice_get_within start.stations k s here in
    let ended = run.ended.all_ended in
    let many = run.ended.actors in
    let ending = get_within end.ends k (omega arith) in
    let work = run.ended.carriers k s t ending.0 (view_of k end.journal) here there ending.1 (run.views k (omega arith)) in
    session c.one_record.ensures.whole c.one_meaning.ensures.works s t (view_of k end.journal) answers work.0 work.1 fresh told

pub returns-clause-operators : goal.returns-clause-operators
returns-clause-operators c = λ start end answers term fresh told.
    let run = term.run in
    let ended = run.ended.all_ended in
    let many = run.ended.actors in
    let ending = get_within end.ends (length start.stations + 1) (omega arith) in
    let work = run.ended.console ending.0 (view_of (length start.stations + 1) end.journal) ending.1
    (run.views (length start.stations + 1) (omega arith)) in
    session c.one_record.ensures.whole c.one_meaning.ensures.works start.console end.console
    (view_of (length start.stations + 1) end.journal) answers work.0 work.1 fresh told
