use Rattle.std.proofs.Common.{◌≡◌, rules}
use Rattle.dmr_records.proofs.QueryLemmas.{has_kept}
use Rattle.dmr_records.proofs.TablesLemmas.{has_version, has_no_version}
use Rattle.dmr_records.proofs.tables.find_version.Goals as goal

pub returns-clause-found : goal.returns-clause-found
returns-clause-found g c clean =
    let end = c.drop-tx.new.self.0 in
    let same : end ≡ c.conn-1.given.0 = search rules in
    rw (← same) (has_version g.S.Store c.args.conn.now c.transaction-tx.result.conn.now c.read_version.new.tx.conn.now end
    c.transaction-tx.ensures.begun c.read_version.ensures.looks c.drop-tx.ensures.undone c.drop-tx.ensures.survives
    c.read_version.result c.read_version.ensures.found (rw (← same) at clean))

pub returns-clause-not_found : goal.returns-clause-not_found
returns-clause-not_found g c clean =
    let end = c.drop-tx.new.self.0 in
    let same : end ≡ c.conn-1.given.0 = search rules in
    rw (← same) (has_no_version g.S.Store c.args.conn.now c.transaction-tx.result.conn.now c.read_version.new.tx.conn.now end
    c.transaction-tx.ensures.begun c.read_version.ensures.looks c.drop-tx.ensures.undone c.drop-tx.ensures.survives
    c.read_version.result c.read_version.ensures.not_found (rw (← same) at clean))

pub returns-clause-nothing : goal.returns-clause-nothing
returns-clause-nothing g c clean =
    let end = c.drop-tx.new.self.0 in
    let same : end ≡ c.conn-1.given.0 = search rules in
    rw (← same) (has_kept g.S.Store c.args.conn.now c.transaction-tx.result.conn.now c.read_version.new.tx.conn.now end
    c.transaction-tx.ensures.begun c.read_version.ensures.looks c.drop-tx.ensures.undone c.drop-tx.ensures.survives
    (rw (← same) at clean))
