use Rattle.std.proofs.Common.{◌≤◌, length, decimal, ap, ◌∙◌, arith, length-append}
use Rattle.std.proofs.lemmas.Fmt.{length-decimal-le}
use Rattle.dmr_console.proofs.number_text.push_small.Goals as goal

pub push_number-requires : goal.push_number-requires
push_number-requires c =
    let few : length (decimal c.from.result) ≤ 2 = length-decimal-le 2 c.from.result (omega arith)
    (omega (arith, c.from.ensures, c.requires.small)) (omega (arith, c.from.ensures, c.requires.small)) in
    omega (arith, few, c.requires.room)

pub returns-clause-len : goal.returns-clause-len
returns-clause-len c =
    let few : length (decimal c.from.result) ≤ 2 = length-decimal-le 2 c.from.result (omega arith)
    (omega (arith, c.from.ensures, c.requires.small)) (omega (arith, c.from.ensures, c.requires.small)) in
    omega (arith, few, ap length c.push_number.ensures ∙ length-append c.args.text.now.bytes (decimal c.from.result))
