use Rattle.std.proofs.Common.{◌≡◌, [], take}
use Rattle.dmr_console.specs.Steps.{open_line_after}
use Rattle.dmr_link.specs.Console.{said_from}
use Rattle.dmr_link.proofs.console.receive_line.Given as goal

abbrev pub invariant-loop-octet : goal.invariant-loop-octet
invariant-loop-octet l = record {
  counted : l.count ≡ l.octet-index;
  cutter : l.cutter ≡ open_line_after l.initial.cutter (take l.octet-index l.octets);
  silent : said_from l.initial.cutter (take l.octet-index l.octets) ≡ [];
}
