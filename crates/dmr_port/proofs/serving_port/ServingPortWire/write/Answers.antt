use Rattle.std.proofs.Common.{◌≡◌, ◌∙◌, ℕ, List, Some, ap, refl, subst, sym}
use Rattle.std.specs.Prelude.{option_map}
use Rattle.std.proofs.lemmas.Bool.{false≢true}
use Rattle.dmr_wire.specs.Answers.{WriteFailed}
use Rattle.dmr_port.specs.PortState.{connection_of, first_if_served}
use Rattle.dmr_port.specs.Record.{Agrees}
use Rattle.dmr_port.specs.Settings.{is_carrier}
use Rattle.dmr_port.specs.Sockets.{taken_by}
use Rattle.dmr_port.specs.Unsent.{PassesOctets}
use Rattle.dmr_port.proofs.NewcomersLemmas.{newcomers_kept}
use Rattle.dmr_port.proofs.RecordLemmas.{agrees_quiet, agrees_served, agrees_written}
use Rattle.dmr_port.proofs.UnsentLemmas.{answered_as_taken, first_after_write, passes_nothing}
use Rattle.dmr_port.proofs.serving_port.ServingPortWire.write.Goals as goal

pub invariant_of-self : goal.invariant_of-self
invariant_of-self g c =
    let p = c.self.inside in
    let i = c.self.invariant in (
      i.0,
      i.1,
      i.2,
      i.3,
      i.4,
      agrees_quiet (is_carrier p.settings.whose) (first_if_served (option_map connection_of p.served)) p.unsent
          (g.S.Sockets.state p.sockets).log
          (g.W.Witness.reported p.witness) (g.W.Witness.reported c.see.new.self) WriteFailed (λ traffic. refl) c.see.ensures i.5,
    )

pub returns-in_default-clause-passes : goal.returns-in_default-clause-passes
returns-in_default-clause-passes g c = rw (← c.self.view_is) (passes_nothing _ _)

pub invariant_of-self-2 : goal.invariant_of-self-2
invariant_of-self-2 g c =
    let p = c.self.inside in
    let i = c.self.invariant in
    let w = c.write-put in
    let a = c.note_write-answer in
    let s = c.in-Some.served in
    let octets = c.args.octets.now in
    let carrier = is_carrier p.settings.whose in
    let state = g.S.Sockets.state in
    let told = g.W.Witness.reported in
    let P : List ℕ → Type 0 = λ taken. PassesOctets (state p.sockets).log p.unsent taken (state w.new.sockets).log w.new.self in
    let Q : List ℕ → Type 0 = λ first. Agrees carrier (Some first) w.new.self (state w.new.sockets).log (told c.see-2.new.self) in
    let taken : taken_by w.result octets ≡ taken_by a.result octets =
    sym (ap (λ put. taken_by put octets) a.ensures.answer ∙ answered_as_taken w.result octets) in
    let first = first_after_write a.result (connection_of s) (connection_of a.new.self) a.ensures.connection in (
      w.ensures.connection,
      newcomers_kept p.settings p.room (state p.sockets) (state w.new.sockets) w.ensures.newcomers i.1,
      i.2,
      λ off. absurd (false≢true (sym off)),
      i.4,
      subst Q (sym first)
          (agrees_written carrier s.first.octets.items p.unsent w.new.self (state p.sockets).log (state w.new.sockets).log (told p.witness)
          (told c.see-2.new.self) a.result octets
          (subst P taken w.ensures.passes) c.see-2.ensures
          (agrees_served carrier p.served s p.unsent (state p.sockets).log (told p.witness) c.in-Some.is i.5)),
    )
