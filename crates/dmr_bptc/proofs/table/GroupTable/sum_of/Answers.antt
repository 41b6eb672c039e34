use Rattle.std.proofs.Common.{◌≡◌, ◌+◌, ◌*◌, ◌<◌, [], ◌∷◌, length, get_or, refl, ap, ◌∙◌, arith}
use Rattle.dmr_bptc.specs.Groups.{added, numbers_added}
use Rattle.dmr_bptc.proofs.GroupLemmas.{octet_step}
use Rattle.dmr_bptc.proofs.table.GroupTable.sum_of.Goals as goal

pub loop-k-init : goal.loop-k-init
unfolding added
loop-k-init g c = record { first = refl; second = refl; third = refl; fourth = refl }

pub loop-k-preserved : goal.loop-k-preserved
loop-k-preserved g c =
    let inside : 2 * c.loop-k.k + 1 < length c.args.self.now.entries = omega arith in
    let small : get_or c.args.octets.now c.loop-k.k 0 < 256 = omega arith in
    record {
      first = octet_step c.args.self.now.entries c.requires.sums c.args.octets.now 0
          (omega arith) c.loop-k.k c.from.result c.from-in-loop-k.result c.loop-k.first inside small c.from.ensures c.from-in-loop-k.ensures
          c.loop-k.invariant.first;
      second = octet_step c.args.self.now.entries c.requires.sums c.args.octets.now 1
          (omega arith) c.loop-k.k c.from.result c.from-in-loop-k.result c.loop-k.second inside small c.from.ensures
          c.from-in-loop-k.ensures c.loop-k.invariant.second;
      third = octet_step c.args.self.now.entries c.requires.sums c.args.octets.now 2
          (omega arith) c.loop-k.k c.from.result c.from-in-loop-k.result c.loop-k.third inside small c.from.ensures c.from-in-loop-k.ensures
          c.loop-k.invariant.third;
      fourth = octet_step c.args.self.now.entries c.requires.sums c.args.octets.now 3
          (omega arith) c.loop-k.k c.from.result c.from-in-loop-k.result c.loop-k.fourth inside small c.from.ensures
          c.from-in-loop-k.ensures c.loop-k.invariant.fourth;
    }

pub returns : goal.returns
returns g c =
    let end : c.loop-k.k ≡ g.row.M = omega arith in
    (λ i. c.loop-k.invariant.first i ∷ c.loop-k.invariant.second i ∷ c.loop-k.invariant.third i ∷ c.loop-k.invariant.fourth i ∷ [])
    ∙ ap (λ m. numbers_added c.args.self.now.entries c.args.octets.now (8 * m)) end
