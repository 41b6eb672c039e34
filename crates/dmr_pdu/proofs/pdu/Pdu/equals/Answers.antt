use Rattle.std.proofs.Common.{sym, ◌∙◌}
use Rattle.dmr_pdu.proofs.EqualityLemmas.{pdu_eq-Decides}
use Rattle.dmr_pdu.proofs.pdu.Pdu.equals.Goals as goal

pub returns : goal.returns
returns c =
    let decides = pdu_eq-Decides c.args.self.now c.args.other.now in
    (λ told. decides.0 (sym c.eq.ensures ∙ told), λ same. c.eq.ensures ∙ decides.1 same)
