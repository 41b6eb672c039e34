use Rattle.dmr_core.proofs.OneLegalJournal.{journal_is_legal, same_answers}
use Rattle.dmr_core.proofs.laws.one_legal_journal.Goals as goal

pub returns-clause-legal : goal.returns-clause-legal
returns-clause-legal c = journal_is_legal

pub returns-clause-one : goal.returns-clause-one
returns-clause-one c = same_answers
