use Rattle.std.proofs.Common.{◌≡◌, ap, sym, subst, ◌∙◌}
use Rattle.dmr_csbk.specs.Check.{with_check}
use Rattle.dmr_bptc.specs.Bptc.{IsEncoding}
use Rattle.dmr_bptc.specs.Functions.{encoding_of}
use Rattle.dmr_burst.proofs.write.Goals as goal
use Rattle.dmr_burst.proofs.write.Goals.{After-encode}
use Rattle.dmr_burst.specs.Functions.{burst_of}

is_encoding : (c : After-encode) → IsEncoding (with_check c.to_octets.result) c.encode.result
is_encoding c = subst (λ octets. IsEncoding octets c.encode.result) c.seal.ensures.is c.encode.ensures.is

pub returns-clause-is : goal.returns-clause-is
returns-clause-is c = (
  c.to_octets.result,
  record {
    are_octets = c.to_octets.ensures.octets;
    spells = c.to_octets.ensures.is;
    is_encoding = is_encoding c;
  },
)

pub returns-clause-alone : goal.returns-clause-alone
returns-clause-alone c = λ word burst.
    let octets : burst.0 ≡ c.to_octets.result = c.to_octets.ensures.alone burst.0 burst.1.are_octets burst.1.spells in
    c.encode.ensures.alone word (subst (λ octets. IsEncoding octets word)
    (ap with_check octets ∙ sym c.seal.ensures.is) burst.1.is_encoding)

pub returns-clause-burst : goal.returns-clause-burst
unfolding burst_of
returns-clause-burst c = c.encode.ensures.encoding ∙ ap encoding_of (c.seal.ensures.is ∙ ap with_check c.to_octets.ensures.written)
