use Rattle.std.proofs.Common.{ap, sym, ◌∙◌, List, drop, ◌+◌}
use Rattle.std.specs.Prelude.{◌&&◌, slice_get, option_copied}
use Rattle.dmr_pdu.specs.declared.pdu.Pdu.{Pdu}
use Rattle.dmr_pool.specs.Same.{are_same_pdus}
use Rattle.dmr_pool.proofs.SameLemmas.{same_from}
use Rattle.dmr_pool.proofs.outbox.Outbox.is_same_at.Goals as goal

pub returns : goal.returns
returns c =
    let i = c.args.index in
    same_from c.args.self.now c.args.other.now i c.in-Some-Some.pdu.now c.in-Some-Some.its.now
    (ap (λ (xs : List Pdu). slice_get xs i) (sym c.self.view_is) ∙ sym c.get.ensures ∙ ap option_copied c.in-Some-Some.is-0)
    (ap (λ (xs : List Pdu). slice_get xs i) (sym c.other.view_is) ∙ sym c.get-2.ensures ∙ ap option_copied c.in-Some-Some.is-1)
    ∙ ap (λ b. b && are_same_pdus (drop (i + 1) c.args.self.now) (drop (i + 1) c.args.other.now)) (sym c.eq.ensures)
