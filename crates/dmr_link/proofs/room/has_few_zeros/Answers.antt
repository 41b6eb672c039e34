use Rattle.std.proofs.Common.{◌≤◌, length, sym, arith, ◌∙◌}
use Rattle.std.proofs.lemmas.Bool.{le-leb}
use Rattle.dmr_link.specs.Zeros.{zeros_in}
use Rattle.dmr_link.proofs.PollsEndInZero.{zeros_within}
use Rattle.dmr_link.proofs.room.has_few_zeros.Goals as goal

pub returns-then-octets-most : goal.returns-then-octets-most
returns-then-octets-most c =
    let octets = c.args.octets.now in
    let few : zeros_in octets ≤ c.args.most = omega (arith, c.if-octets-most.true, zeros_within octets) in
    le-leb (length octets) c.args.most c.if-octets-most.true ∙ sym (le-leb (zeros_in octets) c.args.most few)
