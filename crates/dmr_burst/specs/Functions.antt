-- The meaning of a word, and the burst of a PDU, as functions, for definitions about many words. The contracts of
-- `meanings_are_single`, `read` and `write` say that they compute the relations `MeansPdu` and `IsBurst`. Nothing
-- depends on how they compute them.
use Rattle.std.specs.Prelude.{List, Bool, Option, option_map, option_and_then}
use Rattle.dmr_csbk.specs.Check.{with_check, without_check}
use Rattle.dmr_bptc.specs.Functions.{decoding_of, encoding_of}
use Rattle.dmr_pdu.specs.declared.pdu.Pdu.{Pdu}
use Rattle.dmr_pdu.specs.Functions.{octets_of, pdu_of}

-- the PDU that a word means, if there is one
unfoldable pub meaning_of : List Bool → Option Pdu
meaning_of word = option_map pdu_of (option_and_then without_check (decoding_of word))

-- the word that a PDU is sent as
unfoldable pub burst_of : Pdu → List Bool
burst_of pdu = encoding_of (with_check (octets_of pdu))
