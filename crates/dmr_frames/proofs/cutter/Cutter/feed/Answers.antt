use Rattle.std.proofs.Common.{◌≡◌, ℕ, [], take, sym, ap, ◌∙◌, arith, subst}
use Rattle.dmr_frames.specs.declared.cutter.Step.TheVariants.{Frame}
use Rattle.dmr_frames.specs.declared.version.Version.{Version}
use Rattle.dmr_frames.specs.Frames.{IsFrame}
use Rattle.dmr_frames.specs.Rest.{Rest, Open}
use Rattle.dmr_frames.specs.Reading.{ProduceAtLast, rest_after_octets}
use Rattle.dmr_frames.specs.Shape.{AreSmall}
use Rattle.dmr_frames.proofs.ReadingLemmas.{frame-first, open_rest}
use Rattle.dmr_frames.proofs.cutter.Cutter.feed.Goals as goal

pub returns-in-Some : goal.returns-in-Some
returns-in-Some c =
    let table = c.self.inside.table in
    let octets = c.args.octets.now in
    let n = c.in-Some.count in
    let f = c.in-Some.frame in
    let fault = c.self.inside.fault in
    let begun = take c.self.inside.count c.self.inside.octets in
    let small : AreSmall octets = λ k. omega (arith, c.type_inv.octets k) in
    let here : Open table [] ≡ c.args.self.now =
    ap (λ (m : ℕ). Open table (take m c.self.inside.octets)) (sym c.if-self-eq0.true)
    ∙ sym (open_rest fault table begun c.if-is_none.ensures)
    ∙ c.self.view_is in
    let P : Version → Type 0 = λ v. IsFrame v f in
    let Q : Rest → Type 0 = λ r. ProduceAtLast r (take n octets) (Frame f) in
    let first = frame-first table octets n f small (subst P c.version.ensures c.in-Some.ensures.1) c.in-Some.ensures.2 in
    record {
      within = c.in-Some.ensures.0;
      whole = λ need. absurd (cc need);
      last = subst Q here first.0;
      rest =
          open_rest fault c.next_table-self-inside.result begun c.if-is_none.ensures
          ∙ ap (λ (m : ℕ). Open c.next_table-self-inside.result (take m c.self.inside.octets)) c.if-self-eq0.true
          ∙ ap (λ t. Open t []) c.next_table-self-inside.ensures
          ∙ sym first.1
          ∙ ap (λ (r : Rest). rest_after_octets r (take n octets)) here;
    }
