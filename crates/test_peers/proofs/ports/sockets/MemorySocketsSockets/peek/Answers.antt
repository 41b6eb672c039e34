use Rattle.std.proofs.Common.{◌≤◌, ◌∙◌, ℕ, List, Some, arith, ap, take}
use Rattle.std.proofs.lemmas.List.{length-take, take-take}
use Rattle.test_peers.specs.declared.ports.sockets.Newcomer.{Newcomer}
use Rattle.test_peers.proofs.ShownLemmas.{map_replaced}
use Rattle.test_peers.proofs.ports.sockets.MemorySocketsSockets.peek.Goals as goal

pub returns-clause-shown : goal.returns-clause-shown
returns-clause-shown c =
    let f : Newcomer → List ℕ = λ n. take n.shown n.first in
    let octets : List ℕ = c.copy_front-count.new.to in
    let count : ℕ = c.copy_front-count.result in
    let within : c.copy_front.result ≤ count = omega (arith, length-take count octets, c.copy_front.ensures.from) in
    ap Some (map_replaced f c.args.self.now.seen.newcomers.items _ c.args.place _
    (take c.copy_front.result octets) c.set_newcomer.ensures.set
    (c.copy_front.ensures.copied ∙ take-take c.copy_front.result count octets within))
