use Rattle.std.proofs.Common.{◌≡◌, ◌≤◌, ◌++◌, ◌+◌, ◌-◌, ◌*◌, length, drop, vec_len, vec_capacity}
use Rattle.dmr_console.specs.Steps.{open_line_after}
use Rattle.dmr_link.specs.Answering.{site_after_notices}
use Rattle.dmr_link.specs.Console.{console_from, ends_in, said_from}
use Rattle.dmr_link.proofs.console.answer_each_line.Given as goal

abbrev pub invariant-loop-from : goal.invariant-loop-from
invariant-loop-from l = record {
  within : l.from ≤ length l.octets;
  console : open_line_after l.console (drop l.from l.octets) ≡ open_line_after l.initial.console l.octets;
  site : site_after_notices l.site (said_from l.console (drop l.from l.octets)) ≡ site_after_notices l.initial.site
      (said_from l.initial.console l.octets);
  items : l.text.items ++ console_from l.site.plan l.site.facts (said_from l.console (drop l.from l.octets)) ≡ l.initial.text.items ++
      console_from l.initial.site.plan l.initial.site.facts (said_from l.initial.console l.octets);
  fits : vec_len l.text + 1024 * ends_in (drop l.from l.octets) ≤ vec_capacity l.text;
  room : vec_capacity l.text ≡ vec_capacity l.initial.text;
}

abbrev pub decreases-loop-from : goal.decreases-loop-from
decreases-loop-from l = length l.octets - l.from
