use Rattle.std.proofs.Common.{◌≡◌, rules}
use Rattle.dmr_records.proofs.QueryLemmas.{has_kept}
use Rattle.dmr_records.proofs.ReadingLemmas.{are_shown, fails_to_show, looks}
use Rattle.dmr_records.proofs.reading.select_radios.Goals as goal

pub returns-clause-shown : goal.returns-clause-shown
returns-clause-shown g c clean =
    let end = c.drop-tx.new.self.0 in
    let same : end ≡ c.conn-1.given.0 = search rules in
    rw (← same) (are_shown g.S.Store c.args.conn.now c.transaction-tx.result.conn.now c.query_all.new.self.conn.now end
    c.transaction-tx.ensures.begun (λ rows. rows.items) c.query_all.result c.query_all.ensures.ok c.query_all.ensures.err
    c.query_all.ensures.survives c.drop-tx.ensures.undone c.drop-tx.ensures.survives c.query_all.result c.query_all.ensures.ok
    (rw (← same) at clean))

pub returns-clause-not_shown : goal.returns-clause-not_shown
returns-clause-not_shown g c clean =
    let end = c.drop-tx.new.self.0 in
    let same : end ≡ c.conn-1.given.0 = search rules in
    rw (← same) (fails_to_show g.S.Store c.args.conn.now c.transaction-tx.result.conn.now c.query_all.new.self.conn.now end
    c.transaction-tx.ensures.begun (λ rows. rows.items) c.query_all.result c.query_all.ensures.ok c.query_all.ensures.err
    c.query_all.ensures.survives c.drop-tx.ensures.undone c.drop-tx.ensures.survives c.query_all.result c.query_all.ensures.err
    (rw (← same) at clean))

pub returns-clause-nothing : goal.returns-clause-nothing
returns-clause-nothing g c clean =
    let end = c.drop-tx.new.self.0 in
    let same : end ≡ c.conn-1.given.0 = search rules in
    rw (← same) (has_kept g.S.Store c.args.conn.now c.transaction-tx.result.conn.now c.query_all.new.self.conn.now end
    c.transaction-tx.ensures.begun
    (looks g.S.Store c.args.conn.now c.transaction-tx.result.conn.now c.query_all.new.self.conn.now end c.transaction-tx.ensures.begun
    (λ rows. rows.items) c.query_all.result c.query_all.ensures.ok c.query_all.ensures.err c.query_all.ensures.survives)
    c.drop-tx.ensures.undone c.drop-tx.ensures.survives (rw (← same) at clean))
