use Rattle.std.proofs.Common.{◌≡◌, None, Some, ap, ◌∙◌, sym}
use Rattle.std.specs.Prelude.{option_map}
use Rattle.dmr_csbk.specs.Check.{without_check}
use Rattle.dmr_pdu.specs.Functions.{pdu_of}
use Rattle.dmr_burst.proofs.MeaningLemmas.{meaning_of-decoded}
use Rattle.dmr_burst.proofs.decode_pdu.Goals as goal

pub returns-in_err-sealed : goal.returns-in_err-sealed
returns-in_err-sealed c =
    c.from_residual.ensures ∙ meaning_of-decoded c.args.word.now None (sym c.in_err-sealed.was ∙ c.decode.ensures.decoding)

pub returns-in_err-octets : goal.returns-in_err-octets
returns-in_err-octets c =
    let opened : None ≡ without_check c.in_ok-sealed.sealed = sym c.in_err-octets.was ∙ c.open_sealed.ensures.opened in
    c.from_residual-in_err-octets.ensures ∙ ap (option_map pdu_of) opened
    ∙ meaning_of-decoded c.args.word.now (Some c.in_ok-sealed.sealed) (sym c.in_ok-sealed.was ∙ c.decode.ensures.decoding)

pub returns : goal.returns
returns c =
    let opened : Some c.in_ok-octets.octets ≡ without_check c.in_ok-sealed.sealed = sym c.in_ok-octets.was ∙ c.open_sealed.ensures.opened in
    ap Some c.from_octets.ensures.pdu ∙ ap (option_map pdu_of) opened
    ∙ meaning_of-decoded c.args.word.now (Some c.in_ok-sealed.sealed) (sym c.in_ok-sealed.was ∙ c.decode.ensures.decoding)
