use Rattle.std.proofs.Common.{◌∷◌, [], ◌++◌, arith, sym, subst}
use Rattle.dmr_frames.specs.declared.cutter.Step.{Step}
use Rattle.dmr_frames.specs.Rest.{Rest}
use Rattle.dmr_frames.specs.Stream.{Reads}
use Rattle.dmr_frames.specs.Reading.{step_from, frame_of}
use Rattle.dmr_frames.proofs.ReadingLemmas.{reads_on}
use Rattle.dmr_frames.proofs.cutter.Cutter.feed_byte.Goals as goal

pub returns-clause-stream : goal.returns-clause-stream
returns-clause-stream c = λ table octets frames h.
    let P : Step → Type 0 = λ s. Reads table (octets ++ c.args.octet ∷ []) (frames ++ frame_of s) c.take_octet.new.self in
    let Q : Rest → Type 0 = λ r. Reads table (octets ++ c.args.octet ∷ [])
    (frames ++ frame_of (step_from c.args.self.now c.args.octet)) r in
    subst P (sym c.take_octet.ensures.step)
    (subst Q (sym c.take_octet.ensures.rest) (reads_on table octets frames c.args.self.now c.args.octet (omega arith) h))
