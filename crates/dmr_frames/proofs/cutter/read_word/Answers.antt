use Rattle.std.proofs.Common.{ℕ, List, subst}
use Rattle.dmr_bits.specs.Words.{SpellsWord}
use Rattle.dmr_frames.proofs.LastOctetLemmas.{word_is}
use Rattle.dmr_frames.proofs.cutter.read_word.Goals as goal

pub returns-in-Ok : goal.returns-in-Ok
returns-in-Ok c =
    let P : List ℕ → Type 0 = λ xs. SpellsWord xs c.in-Ok.word in
    let is : SpellsWord c.args.octets.now c.in-Ok.word = subst P c.copy_from_slice.ensures.after c.in-Ok.ensures.is in
    (is.pad, word_is c.args.octets.now c.in-Ok.word is)
