use Rattle.std.proofs.Common.{arith, subst}
use Rattle.std.specs.Io.KnownBytes.{Appends}
use Rattle.dmr_replay.proofs.PrintingLemmas.{nothing_printed, piece_printed}
use Rattle.dmr_replay.proofs.printing.print_digits.Goals as goal

pub loop-at-init : goal.loop-at-init
loop-at-init g c = record { within = omega arith; printed = nothing_printed (g.W.Write.contents c.args.out.now) }

pub loop-at-preserved : goal.loop-at-preserved
loop-at-preserved g c = record {
  within = omega arith;
  printed =
      piece_printed (g.W.Write.contents c.args.out.now) (g.W.Write.contents c.loop-at.out)
      (g.W.Write.contents c.write_all.new.self) c.args.octets.now c.loop-at.at c.min-count.result
      c.loop-at.invariant.printed
      (subst (Appends (g.W.Write.contents c.loop-at.out) (g.W.Write.contents c.write_all.new.self)) c.fill_with_digits.ensures
      c.in_ok-write_all.ensures.bytes);
}
