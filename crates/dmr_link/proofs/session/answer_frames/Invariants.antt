use Rattle.std.proofs.Common.{◌≡◌, ◌≤◌, ◌++◌, ◌+◌, ◌-◌, length, drop, vec_len, vec_capacity}
use Rattle.std.specs.Prelude.{is_some}
use Rattle.dmr_link.specs.Answering.{site_after_notices}
use Rattle.dmr_link.specs.Numbering.{frames_text, next_after_frames}
use Rattle.dmr_link.specs.Room.{most_in}
use Rattle.dmr_link.specs.Session.{frames_said}
use Rattle.dmr_link.specs.EngineSessions.{IsStateSound}
use Rattle.dmr_link.specs.Steps.{notices_of_octets, connection_after_octets}
use Rattle.dmr_link.proofs.session.answer_frames.Given as goal

abbrev pub invariant-loop-from : goal.invariant-loop-from
invariant-loop-from l = record {
  within : l.from ≤ length l.octets;
  who : l.state.who ≡ l.initial.state.who;
  connection : connection_after_octets l.initial.state.who l.state.connection
      (drop l.from l.octets) ≡ connection_after_octets l.initial.state.who l.initial.state.connection l.octets;
  sound : IsStateSound l.initial.state → IsStateSound l.state;
  site : site_after_notices l.site (notices_of_octets l.initial.state.who l.state.connection (drop l.from l.octets)) ≡ site_after_notices
      l.initial.site (notices_of_octets l.initial.state.who l.initial.state.connection l.octets);
  items : l.text.items ++ frames_text l.state.numbering
      (frames_said l.site.plan l.site.facts (notices_of_octets l.initial.state.who l.state.connection (drop l.from l.octets))) ≡
      l.initial.text.items ++ frames_text l.initial.state.numbering
      (frames_said l.initial.site.plan l.initial.site.facts (notices_of_octets l.initial.state.who l.initial.state.connection l.octets));
  next : next_after_frames l.state.numbering
      (frames_said l.site.plan l.site.facts (notices_of_octets l.initial.state.who l.state.connection (drop l.from l.octets))) ≡
      next_after_frames l.initial.state.numbering
      (frames_said l.initial.site.plan l.initial.site.facts (notices_of_octets l.initial.state.who l.initial.state.connection l.octets));
  fits : vec_len l.text + most_in (is_some l.state.numbering)
      (notices_of_octets l.initial.state.who l.state.connection (drop l.from l.octets)) ≤ vec_capacity l.text;
  room : vec_capacity l.text ≡ vec_capacity l.initial.text;
}

abbrev pub decreases-loop-from : goal.decreases-loop-from
decreases-loop-from l = length l.octets - l.from
