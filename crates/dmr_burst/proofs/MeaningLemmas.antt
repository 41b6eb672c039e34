-- `meaning_of` computes the relation `MeansPdu`, by the laws of the layers below.
use Rattle.std.proofs.Common.{◌≡◌, ℕ, Bool, List, Option, Some, None, ◌≤◌, refl, sym, ap, ◌∙◌, subst}
use Rattle.std.specs.Prelude.{◌↔◌, IfSome, option_map, option_and_then}
use Rattle.dmr_bits.specs.Bits.{IsOctets}
use Rattle.dmr_csbk.specs.Check.{with_check, without_check}
use Rattle.dmr_bptc.specs.Bptc.{Means, distance}
use Rattle.dmr_bptc.specs.Functions.{decoding_of}
use Rattle.dmr_pdu.specs.declared.pdu.Pdu.{Pdu}
use Rattle.dmr_pdu.specs.Layout.{SpellsPdu, Agrees, IsReadable}
use Rattle.dmr_pdu.specs.Functions.{pdu_of}
use Rattle.dmr_burst.specs.Burst.{MeansPdu, IsBurst}
use Rattle.dmr_burst.specs.Functions.{meaning_of}

-- if a word means a PDU, `meaning_of` returns it
pub meaning_of-meant : ((word : List Bool) (octets : List ℕ) → IsOctets 12 octets → Means 3 word octets → decoding_of word ≡ Some octets)
    → ((octets : List ℕ) → IsOctets 10 octets → IsOctets 12 (with_check octets))
    → ((octets : List ℕ) → IsOctets 10 octets → without_check (with_check octets) ≡ Some octets)
    → ((octets : List ℕ) (pdu : Pdu) → Agrees pdu octets ↔ pdu ≡ pdu_of octets)
    → (word : List Bool) (pdu : Pdu) → MeansPdu word pdu → meaning_of word ≡ Some pdu
unfolding meaning_of
meaning_of-meant decodes are_twelve opens agrees word pdu means =
    let found : decoding_of word ≡ Some (with_check means.0) =
    decodes word (with_check means.0) (are_twelve means.0 means.1.are_octets) means.1.means in
    ap (λ (o : Option (List ℕ)). option_map pdu_of (option_and_then without_check o)) found
    ∙ ap (option_map pdu_of) (opens means.0 means.1.are_octets)
    ∙ ap Some (sym ((agrees means.0 pdu).0 means.1.agrees))

from_opened : ((octets : List ℕ) (pdu : Pdu) → Agrees pdu octets ↔ pdu ≡ pdu_of octets) →
    (word : List Bool) (sealed : List ℕ) (o : Option (List ℕ)) → Means 3 word sealed
    → IfSome o (λ octets. IsOctets 10 octets × (sealed ≡ with_check octets)) → IfSome (option_map pdu_of o) (MeansPdu word)
from_opened agrees word sealed None means told = tt
from_opened agrees word sealed (Some octets) means told =
    (octets, record { are_octets = told.0; means = subst (Means 3 word) told.1 means; agrees = (agrees octets (pdu_of octets)).1 refl })

-- if `meaning_of` returns a PDU, the word means it
pub meaning_of-found : ((word : List Bool) → IfSome (decoding_of word) (λ octets. IsOctets 12 octets × Means 3 word octets))
    → ((sealed : List ℕ) → IsOctets 12 sealed → IfSome (without_check sealed) (λ octets. IsOctets 10 octets × (sealed ≡ with_check octets)))
    → ((octets : List ℕ) (pdu : Pdu) → Agrees pdu octets ↔ pdu ≡ pdu_of octets)
    → (word : List Bool) → IfSome (meaning_of word) (MeansPdu word)
unfolding meaning_of
meaning_of-found decoded opened agrees word = from_decoded (decoding_of word) (decoded word)
  where
    from_decoded : (o : Option (List ℕ)) → IfSome o (λ sealed. IsOctets 12 sealed × Means 3 word sealed) →
        IfSome (option_map pdu_of (option_and_then without_check o)) (MeansPdu word)
    from_decoded None told = tt
    from_decoded (Some sealed) told = from_opened agrees word sealed (without_check sealed) told.1 (opened sealed told.0)

-- the meaning of a word is its decoding, opened and read
pub meaning_of-decoded : (word : List Bool) (decoding : Option (List ℕ)) → decoding ≡ decoding_of word →
    option_map pdu_of (option_and_then without_check decoding) ≡ meaning_of word
unfolding meaning_of
meaning_of-decoded word decoding is = ap (λ (o : Option (List ℕ)). option_map pdu_of (option_and_then without_check o)) is

-- the burst of a readable PDU, with at most three flipped bits, means that PDU
pub sent_means : ((pdu : Pdu) (octets : List ℕ) → IsReadable pdu → SpellsPdu pdu octets → Agrees pdu octets)
    → (pdu : Pdu) (sent word : List Bool) → IsBurst pdu sent → IsReadable pdu → distance word sent ≤ 3 → MeansPdu word pdu
sent_means back pdu sent word burst readable near = (
  burst.0,
  record {
    are_octets = burst.1.are_octets;
    means = (sent, record { is_codeword = burst.1.is_encoding.is_codeword; near = near; information = burst.1.is_encoding.information });
    agrees = back pdu burst.0 readable burst.1.spells;
  },
)
