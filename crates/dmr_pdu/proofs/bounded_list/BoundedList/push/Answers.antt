use Rattle.std.proofs.Common.{arith, ◌≡◌, ◌+◌, ◌<◌, length, ap, take, length-take-le, ◌∙◌}
use Rattle.std.proofs.lemmas.List.{drop-set-lt, length-set}
use Rattle.dmr_pdu.proofs.PaddingLemmas.{drop-more_blank}
use Rattle.dmr_pdu.proofs.bounded_list.BoundedList.push.Goals as goal

pub invariant_of-self : goal.invariant_of-self
invariant_of-self g c =
    let cells = c.self.inside.cells in
    let count = c.self.inside.count in
    let old = c.self.invariant in
    let taken : length (take count cells) ≡ count = length-take-le count cells (omega (arith, old.0, old.1)) in
    let room : count < length cells = omega (arith, ap length c.self.view_is, c.requires, taken, old.1) in (
      omega (arith, room, old.1),
      length-set cells count c.args.entry ∙ old.1,
      drop-set-lt (count + 1) cells count c.args.entry (omega arith) ∙ drop-more_blank _ cells count _ room old.2,
    )
