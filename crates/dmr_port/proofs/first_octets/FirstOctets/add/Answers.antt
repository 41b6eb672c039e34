use Rattle.std.proofs.Common.{◌≡◌, ◌≤◌, ◌-◌, ◌++◌, ℕ, List, length, take, arith, ◌∙◌, ap}
use Rattle.std.proofs.lemmas.List.{length-take}
use Rattle.dmr_port.proofs.FirstOctetsLemmas.{at_ok, take_added}
use Rattle.dmr_port.proofs.first_octets.FirstOctets.add.Goals as goal

pub returns : goal.returns
returns c =
    let items : List ℕ = c.args.self.now.octets.items in
    let octets : List ℕ = c.args.octets.now in
    let room : ℕ = c.remaining_capacity.result in
    let count : ℕ = c.min-count.result in
    let short : length items ≤ 8 = omega (arith, c.remaining_capacity.ensures) in
    let left : room ≡ 8 - length items = omega (arith, c.remaining_capacity.ensures) in
    let fits : length (take count octets) ≤ room = omega (arith, length-take count octets, c.min-count.ensures) in
    at_ok c.try_extend_from_slice.result (c.try_extend_from_slice.ensures.variant.1 (omega (arith, c.remaining_capacity.ensures, fits)))
    c.try_extend_from_slice.ensures.ok
    ∙ ap (λ n. items ++ take n octets) c.min-count.ensures
    ∙ take_added 8 room items octets left short
