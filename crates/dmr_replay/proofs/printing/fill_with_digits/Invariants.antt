use Rattle.std.proofs.Common.{◌≡◌, ◌*◌, ◌++◌, take, drop}
use Rattle.hex.specs.Hex.{encode_upper}
use Rattle.dmr_replay.proofs.printing.fill_with_digits.Given as goal

abbrev pub invariant-octets : goal.invariant-octets
invariant-octets l = take (2 * l.i) l.digits ++ encode_upper (drop l.i l.octets) ≡ encode_upper l.octets
