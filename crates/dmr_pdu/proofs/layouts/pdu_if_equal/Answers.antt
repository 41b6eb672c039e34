use Rattle.std.proofs.Common.{◌≡◌, ◌∙◌, sym, subst, Some}
use Rattle.dmr_bits.specs.Bits.{octet_bit, field_of}
use Rattle.dmr_bits.proofs.Laws.{bits_value-lt}
use Rattle.dmr_pdu.specs.declared.pdu.Pdu.{Pdu}
use Rattle.dmr_pdu.specs.Layout.{IsLaidOut}
use Rattle.dmr_pdu.proofs.LayoutLemmas.{laid_out-read, some-same}
use Rattle.dmr_pdu.proofs.PackedLemmas.{number-laid_out, has_number-octets}
use Rattle.dmr_pdu.proofs.layouts.pdu_if_equal.Goals.{else-octets-eq0-via-then-octets-eq0+else-rows_of-number}
use Rattle.dmr_pdu.proofs.layouts.pdu_if_equal.Goals.{else-octets-eq0-via-else-octets-eq0}
use Rattle.dmr_pdu.proofs.layouts.pdu_if_equal.Goals as goal

pub returns-then-rows_of-number-clause-found : goal.returns-then-rows_of-number-clause-found
returns-then-rows_of-number-clause-found c =
    number-laid_out c.args.octets.now c.args.number c.if-octets-eq0.true
    (sym c.rows_of.ensures ∙ c.if-rows_of-number.true) c.args.pdu c.requires.number

pub returns-then-rows_of-number-clause-only : goal.returns-then-rows_of-number-clause-only
returns-then-rows_of-number-clause-only c = λ pdu is. sym c.requires.read ∙ laid_out-read pdu c.args.octets.now is

pub returns-else-octets-eq0-clause-only : goal.returns-else-octets-eq0-clause-only
returns-else-octets-eq0-clause-only c = λ pdu is.
    let read : Some c.args.pdu ≡ Some pdu = sym c.requires.read ∙ laid_out-read pdu c.args.octets.now is in
    let same : IsLaidOut c.args.pdu c.args.octets.now =
    subst (λ (p : Pdu). IsLaidOut p c.args.octets.now) (sym (some-same c.args.pdu pdu read)) is in
    let both = has_number-octets (field_of c.args.octets.now 0 8) c.args.number
    (bits_value-lt (octet_bit c.args.octets.now) 0 8) c.ranges.number.fits c.args.octets.now
    (record { len = c.told-octets; small = c.fits-octets }) c.args.pdu c.requires.number same in
    elim c.else-octets-eq0.branch [
      | else-octets-eq0-via-then-octets-eq0+else-rows_of-number w ↦ absurd (w.if-rows_of-number.false (w.rows_of.ensures ∙ both.1))
      | else-octets-eq0-via-else-octets-eq0 w ↦ absurd (w.if-octets-eq0.false both.0)
    ]
