use Rattle.dmr_bptc.specs.Functions.{decoding_of}
use Rattle.dmr_burst.specs.Functions.{meaning_of}
use Rattle.dmr_burst.proofs.MeaningLemmas.{meaning_of-found, meaning_of-meant, meaning_of-decoded, sent_means}
use Rattle.dmr_burst.proofs.meanings_are_single.Goals as goal

pub returns-clause-found : goal.returns-clause-found
returns-clause-found c = meaning_of-found c.nearest_codeword.ensures.found c.seals_open.ensures.opened c.octets_mean_one_pdu.ensures.agrees

pub returns-clause-only : goal.returns-clause-only
returns-clause-only c = meaning_of-meant c.nearest_codeword.ensures.only c.seals_open.ensures.octets c.seals_open.ensures.sealed
    c.octets_mean_one_pdu.ensures.agrees

pub returns-clause-clean : goal.returns-clause-clean
unfolding meaning_of
returns-clause-clean c = λ word codeword is near. meaning_of-decoded codeword (decoding_of word)
    (c.nearest_codeword.ensures.flipped word codeword is near)

pub returns-clause-flipped : goal.returns-clause-flipped
returns-clause-flipped c = λ pdu sent word burst readable near. returns-clause-only c word pdu
    (sent_means c.octets_mean_one_pdu.ensures.back pdu sent word burst readable near)
