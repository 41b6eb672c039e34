use Rattle.std.proofs.Common.{◌≡◌, ◌∙◌, ◌++◌, ℕ, List, false, not, take, ap, sym, arith}
use Rattle.std.proofs.lemmas.Bool.{or_parts, not-false}
use Rattle.std.proofs.lemmas.Grind.{common_steps}
use Rattle.dmr_port.specs.declared.served.Served.{Served}
use Rattle.dmr_port.specs.FirstOctets.{begins_http}
use Rattle.dmr_port.proofs.ReadingLemmas.{first_kept, read_http, reads_http}
use Rattle.dmr_port.proofs.reading.read_sockets.Goals as goal

pub returns-then-not-note_octets-clause-reads : goal.returns-then-not-note_octets-clause-reads
returns-then-not-note_octets-clause-reads g c =
    let off : c.note_octets.result ≡ false = c.if-not-note_octets.true in
    let new : Served = c.note_octets.new.self in
    record {
      budget = grind (arith, common_steps);
      reads =
          read_http c.args.is_carrier (begins_http new.first.octets.items) c.note_octets.result new.ended off c.note_octets.ensures.given
          (ap (λ (s : Served). s.ended) (c.note_octets.ensures.http off));
    }

pub returns-then-not-note_octets-clause-log : goal.returns-then-not-note_octets-clause-log
returns-then-not-note_octets-clause-log g c =
    let off : c.note_octets.result ≡ false = c.if-not-note_octets.true in
    let old : Served = c.args.served.now in
    let new : Served = c.note_octets.new.self in
    let octets : List ℕ = c.ask-got.new.octets in
    let state = g.S.Sockets.state in
    let parts = or_parts c.args.is_carrier (not (begins_http new.first.octets.items)) (sym c.note_octets.ensures.given ∙ off) in
    let kept = first_kept c.ask-got.result c.min-asked.result old c.note_read.new.self c.note_read.ensures in
    reads_http c.args.is_carrier old.first.octets.items new.first.octets.items octets c.in-Octets.count (state c.args.sockets.now).log
    (state c.now-now.new.self).log (state c.ask-got.new.sockets).log
    c.now-now.ensures.connection.log c.in-Octets.ensures.log
    (c.note_octets.ensures.first ∙ ap (λ (xs : List ℕ). take 8 (xs ++ take c.in-Octets.count octets)) kept)
    parts.0 (not-false (begins_http new.first.octets.items) parts.1)
