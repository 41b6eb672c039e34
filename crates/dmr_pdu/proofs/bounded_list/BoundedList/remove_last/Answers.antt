use Rattle.std.proofs.Common.{arith, ◌≡◌, ◌-◌, ◌<◌, ◌≤◌, length, ap, sym, take, length-take-le, ◌∙◌}
use Rattle.std.proofs.lemmas.List.{length-set, take-set, take-take}
use Rattle.dmr_pdu.proofs.PaddingLemmas.{drop-last_blanked}
use Rattle.dmr_pdu.proofs.bounded_list.BoundedList.remove_last.Goals as goal

pub invariant_of-self : goal.invariant_of-self
invariant_of-self g c =
    let cells = c.self.inside.cells in
    let count = c.self.inside.count in
    let old = c.self.invariant in
    let inside : count ≤ length cells = omega (arith, old.0, old.1) in
    let taken : length (take count cells) ≡ count = length-take-le count cells inside in
    let some : 0 < count = omega (arith, ap length c.self.view_is, c.requires, taken) in (
      omega (arith, old.0),
      length-set cells (count - 1) c.blank.result ∙ old.1,
      rw c.blank.ensures (drop-last_blanked _ cells count _ some inside old.0 old.2),
    )

pub returns : goal.returns
returns g c =
    let cells = c.self.inside.cells in
    let count = c.self.inside.count in
    let old = c.self.invariant in
    let inside : count ≤ length cells = omega (arith, old.0, old.1) in
    let taken : length (take count cells) ≡ count = length-take-le count cells inside in
    rw (← c.self.view_is, taken) (take-set cells (count - 1) c.blank.result ∙ sym (take-take (count - 1) count cells (omega arith)))
