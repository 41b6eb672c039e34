use Rattle.std.proofs.Common.{rules, arith, ◌≡◌, length, drop, length-drop, ap, ◌∙◌}
use Rattle.std.specs.Int.{w64, from_be_bytes}
use Rattle.std.proofs.lemmas.List.{take_all}
use Rattle.dmr_pdu.proofs.PackedLemmas.{field-number}
use Rattle.dmr_pdu.proofs.layouts.rows_of.Goals as goal

pub returns : goal.returns
returns c =
    let eight : length (drop 2 c.args.octets.now) ≡ 8 = omega (arith, length-drop 2 c.args.octets.now, c.told-octets) in
    field-number c.args.octets.now 2 c.from_be_bytes.result eight (search rules) (search rules)
    (c.from_be_bytes.ensures ∙ ap (from_be_bytes w64)
    (c.copy_from_slice.ensures.after ∙ take_all 8 (drop 2 c.args.octets.now) (omega (arith, eight))))
