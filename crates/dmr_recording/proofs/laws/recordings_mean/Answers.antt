use Rattle.dmr_recording.proofs.ConnectionsAreMeant.{ConnectionLaws}
use Rattle.dmr_recording.proofs.EventsAreMeant.{LineLaws}
use Rattle.dmr_recording.proofs.EventsInARow.{joined, nothing_matches, recorded}
use Rattle.dmr_recording.proofs.NoiseMeansNothing.{CodeLaws}
use Rattle.dmr_recording.proofs.laws.recordings_mean.Goals as goal

pub returns-clause-recorded : goal.returns-clause-recorded
returns-clause-recorded c =
    let frames = c.one_reading.ensures in
    let links = c.connections_mean.ensures in
    let laws : ConnectionLaws = record {
      frame = frames.frame;
      cut = frames.cut;
      opens = links.open;
      left = links.left;
      in_two = links.cut;
      adds = links.adds;
      leaves = links.leaves;
    } in
    let lines : LineLaws = record { pieces = c.lines_in_any_cutting.ensures.pieces; line = c.lines_precede_their_ends.ensures.line } in
    let code : CodeLaws = record {
      encoded = c.nearest_codeword.ensures.encoded;
      only = c.nearest_codeword.ensures.only;
      encoding = c.nearest_codeword.ensures.encoding;
    } in
    λ plan up events len are. recorded laws lines code plan up events len are

pub returns-clause-begins : goal.returns-clause-begins
returns-clause-begins c = nothing_matches

pub returns-clause-joins : goal.returns-clause-joins
returns-clause-joins c = joined
