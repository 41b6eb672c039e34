use Rattle.std.proofs.Common.{false, ext_get_or, sym, ◌∙◌}
use Rattle.dmr_recording.specs.Events.{noise_word}
use Rattle.dmr_recording.proofs.EventsInARow.{all_false}
use Rattle.dmr_recording.proofs.octets.noise_word.Goals as goal

pub returns : goal.returns
returns c = ext_get_or false c.zero.result noise_word c.zero.ensures.len (λ q within. c.zero.ensures.bits q ∙ sym (all_false 196 q))
