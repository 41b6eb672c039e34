use Rattle.std.proofs.Common.{ap, sym, ◌∙◌}
use Rattle.std.specs.Prelude.{option_copied}
use Rattle.dmr_access.proofs.SameLemmas.{same_from}
use Rattle.dmr_access.proofs.access.is_same_at.Goals as goal

pub returns : goal.returns
returns c =
    let i = c.args.index in
    same_from c.args.one.now.items c.args.other.now.items i c.in-Some-Some.number.now c.in-Some-Some.its.now
    (sym c.get.ensures ∙ ap option_copied c.in-Some-Some.is-0) (sym c.get-2.ensures ∙ ap option_copied c.in-Some-Some.is-1)
