-- What `open` and `cut` do to a link.
use Rattle.std.proofs.Common.{◌≡◌, ◌∙◌, refl, sym, ap, true, false, List, Option}
use Rattle.std.specs.Prelude.{not, None, Result, Ok, Err, IfOk, IfErr}
use Rattle.std.proofs.lemmas.Bool.{false≢true}
use Rattle.dmr_wire.specs.Answers.{Answer}
use Rattle.dmr_link.specs.declared.desk.Desk.{Ghosts as Desk}
use Rattle.dmr_link.specs.declared.desk.TermOver.{TermOver}
use Rattle.dmr_link.specs.declared.ended.Ended.TheVariants.{Closed}
use Rattle.dmr_link.specs.declared.link_state.LinkState.{LinkState}
use Rattle.dmr_link.specs.Closing.{ended_of}
use Rattle.dmr_link.specs.Cutting.{CutsOff, Opens}
use Rattle.dmr_link.specs.Desks.{HasRefusedWith, KeepsDesk}
use Rattle.dmr_link.specs.Happenings.{Disordered}
use Rattle.dmr_link.specs.LinkSteps.{cut_state, is_live, with_new_connection}
use Rattle.dmr_link.specs.Moves.{Moves, moment}
use Rattle.dmr_link.specs.Passages.{Passage}
use Rattle.dmr_link.specs.Peers.{is_going}
use Rattle.dmr_link.specs.Sessions.{IsOver, sides}
use Rattle.dmr_link.proofs.LinksHavePasts.{cuts, dead_over, opens}
use Rattle.dmr_link.proofs.StepLemmas.{keeps_same}

pub opens_not : (l : LinkState) → is_live l ≡ true → Opens l l false
opens_not l live = record { answer = sym (ap not live); no = λ same. refl; yes = λ is. absurd (cc is) }

pub opens_new : (l : LinkState) → is_live l ≡ false → Opens l (with_new_connection l) true
opens_new l dead = record {
  answer = sym (ap not dead);
  no = λ is. absurd (cc is);
  yes = λ same past h. opens l (dead_over l dead) past h;
}

-- a link that is not live does not change
pub cuts_off_not : {D : Type 0} {its : Desk D} {d : D} (l : LinkState) → is_live l ≡ false → CutsOff its l l d d (Ok tt)
cuts_off_not l dead = record {
  keeps = keeps_same;
  cuts = λ live. absurd (false≢true (sym dead ∙ live));
  done = λ live. absurd (false≢true (sym dead ∙ live));
  over = tt;
  none = λ is. (refl, refl, refl);
}

done_by : (l new : LinkState) (result : Result (Unit {0}) TermOver) →
    IfOk result (λ done. (new.pending.kept ≡ None) × (new.pending.lost ≡ None)) →
    new.connection ≡ (cut_state l).connection → new.closing ≡ (cut_state l).closing →
    IfOk result (λ done. IsOver new × (ended_of new.closing ≡ Closed))
done_by l new (Ok done) none same closing =
    (record { connection = ap is_going same; kept = none.0; lost = none.1 }, ap ended_of closing)
done_by l new (Err over) none same closing = tt

over_by : (P : Type 0) (Q : TermOver → Type 0) (result : Result (Unit {0}) TermOver) → IfErr result Q →
    IfErr result (λ over. P) → IfErr result (λ over. P × Q over)
over_by P Q (Ok done) refused live = tt
over_by P Q (Err over) refused live = (live, refused)

pub cuts_off : {D : Type 0} {its : Desk D} {d e : D} (l new : LinkState) (result : Result (Unit {0}) TermOver) → is_live l ≡ true →
    KeepsDesk its d e →
    ((reported : Option (List Answer)) (passed : Option (List Passage)) →
    Moves (moment (cut_state l) (sides reported (its.calls d) passed) 0 Disordered)
    (moment new (sides reported (its.calls e) passed) 0 Disordered) 0) →
    IfOk result (λ done. (new.pending.kept ≡ None) × (new.pending.lost ≡ None)) → IfErr result (λ over. HasRefusedWith its over e) →
    IfErr result (λ over. is_live new ≡ true) → new.connection ≡ (cut_state l).connection →
    new.closing ≡ (cut_state l).closing → CutsOff its l new d e result
cuts_off {its = its} {d = d} {e = e} l new result live keeps moves ok over still same closing = record {
  keeps = keeps;
  cuts = λ is. cuts l new (its.calls d) (its.calls e) live moves;
  done = λ is. done_by l new result ok same closing;
  over = over_by (is_live new ≡ true) (λ over. HasRefusedWith its over e) result over still;
  none = λ dead. absurd (false≢true (sym dead ∙ live));
}
