use Rattle.dmr_records.proofs.ReadingLemmas.{are_not_read, are_read}
use Rattle.dmr_records.proofs.reading.read_radios.Goals as goal

pub returns-in-Ok-clause-read : goal.returns-in-Ok-clause-read
returns-in-Ok-clause-read g c clean =
    are_read g.S.Store c.args.conn.now c.select_radios.new.conn _ (λ radios. radios.items) c.radios_of.result (c.in-Ok.ensures.shown clean)
    (rw c.as_slice.ensures.value at c.radios_of.ensures.read)

pub returns-in-Ok-clause-not_read : goal.returns-in-Ok-clause-not_read
returns-in-Ok-clause-not_read g c clean =
    are_not_read g.S.Store c.args.conn.now c.select_radios.new.conn _ c.radios_of.result (c.in-Ok.ensures.shown clean)
    (rw c.as_slice.ensures.value at c.radios_of.ensures.not_read)
