use Rattle.std.proofs.Common.{ℕ, arith, slice_index, refl, ap}
use Rattle.std.proofs.lemmas.Nat.{and_mask}
use Rattle.hex.specs.Hex.{upper_digits}
use Rattle.hex.proofs.Pairs.{encode_step, encode_done}
use Rattle.dmr_replay.proofs.printing.fill_with_digits.Goals as goal

pub octets-preserved : goal.octets-preserved
octets-preserved c =
    let octet : ℕ = slice_index c.args.octets.now c.octets.i in
    encode_step upper_digits c.args.octets.now c.octets.digits c.octets.i _ _ (omega arith) (omega arith) refl
    (ap (λ (k : ℕ). slice_index upper_digits k) (and_mask octet 4)) c.octets.invariant

pub returns : goal.returns
returns c = encode_done _ _ _ c.octets.i (omega arith) (omega arith) c.octets.invariant
