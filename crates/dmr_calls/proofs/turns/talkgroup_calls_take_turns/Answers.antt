use Rattle.dmr_calls.proofs.AfterLemmas.{turn_of}
use Rattle.dmr_calls.proofs.turns.talkgroup_calls_take_turns.Goals as goal

pub returns : goal.returns
returns c = turn_of
