use Rattle.std.proofs.Common.{◌≤◌, Bool, refl, sym, subst, rules}
use Rattle.std.specs.Prelude.{option_map}
use Rattle.std.proofs.lemmas.Bool.{false≢true}
use Rattle.dmr_wire.specs.Answers.{ReadFailed}
use Rattle.dmr_port.specs.PortState.{connection_of, first_if_served}
use Rattle.dmr_port.specs.Settings.{is_carrier}
use Rattle.dmr_port.specs.Unsent.{ReadsAfterSending}
use Rattle.dmr_port.proofs.ReadingLemmas.{reads_unserved}
use Rattle.dmr_port.proofs.NewcomersLemmas.{newcomers_kept}
use Rattle.dmr_port.proofs.RecordLemmas.{agrees_quiet, agrees_read, agrees_served}
use Rattle.dmr_port.proofs.serving_port.ServingPortWire.read.Goals as goal

pub invariant_of-self : goal.invariant_of-self
invariant_of-self g c =
    let p = c.self.inside in
    let i = c.self.invariant in (
      i.0,
      i.1,
      i.2,
      i.3,
      i.4,
      agrees_quiet (is_carrier p.settings.whose) (first_if_served (option_map connection_of p.served)) p.unsent
          (g.S.Sockets.state p.sockets).log
          (g.W.Witness.reported p.witness) (g.W.Witness.reported c.see.new.self) ReadFailed (λ traffic. refl) c.see.ensures i.5,
    )

pub returns-in_default-clause-passes : goal.returns-in_default-clause-passes
returns-in_default-clause-passes g c = rw (← c.self.view_is) (reads_unserved _ _ _ _ _)

pub invariant_of-self-2 : goal.invariant_of-self-2
invariant_of-self-2 g c =
    let p = c.self.inside in
    let i = c.self.invariant in
    let r = c.read_connection-got in
    let s = c.in-Some.served in
    let state = g.S.Sockets.state in
    let told = g.W.Witness.reported in
    let few : r.new.budget.given ≤ 512 = search rules in
    let P : Bool → Type 0 = λ carrier. ReadsAfterSending carrier s.first.octets.items
    (state p.sockets).log p.unsent r.result r.new.octets r.new.served.first.octets.items (state r.new.sockets).log r.new.unsent in (
      r.ensures.connection,
      newcomers_kept p.settings p.room (state p.sockets) (state r.new.sockets) r.ensures.newcomers i.1,
      i.2,
      λ off. absurd (false≢true (sym off)),
      few,
      agrees_read (is_carrier p.settings.whose) s.first.octets.items r.new.served.first.octets.items p.unsent r.new.unsent r.new.octets
          (state p.sockets).log (state r.new.sockets).log
          (told p.witness) (told c.see-2.new.self) r.result (subst P c.is_carrier-is_carrier.ensures r.ensures.passes) c.see-2.ensures
          (agrees_served (is_carrier p.settings.whose) p.served s p.unsent (state p.sockets).log (told p.witness) c.in-Some.is i.5),
    )
