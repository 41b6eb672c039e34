use Rattle.std.proofs.Common.{Option, ◌∙◌, sym, subst}
use Rattle.std.specs.Prelude.{IfSome}
use Rattle.dmr_pdu.specs.declared.pdu.Pdu.{Pdu}
use Rattle.dmr_burst.specs.Burst.{MeansPdu}
use Rattle.dmr_burst.proofs.read.Goals as goal

pub returns-clause-found : goal.returns-clause-found
returns-clause-found c = subst (λ (answer : Option Pdu). IfSome answer (MeansPdu c.args.word.now)) (sym c.decode_pdu.ensures)
    (c.meanings_are_single.ensures.found c.args.word.now)

pub returns-clause-only : goal.returns-clause-only
returns-clause-only c = λ pdu means. c.decode_pdu.ensures ∙ c.meanings_are_single.ensures.only c.args.word.now pdu means

pub returns-clause-back : goal.returns-clause-back
returns-clause-back c = λ pdu sent burst readable near. c.decode_pdu.ensures
    ∙ c.meanings_are_single.ensures.flipped pdu sent c.args.word.now burst readable near
