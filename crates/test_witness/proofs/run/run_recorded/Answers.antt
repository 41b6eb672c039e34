use Rattle.std.proofs.Common.{◌≡◌, ◌+◌, ◌⊎◌, ℕ, [], None, length, refl, sym, ◌∙◌, subst}
use Rattle.std.proofs.lemmas.List.{length-map}
use Rattle.std.proofs.lemmas.Option.{same_Some, none-some}
use Rattle.std.proofs.lemmas.Result.{IfOk-weaker}
use Rattle.dmr_wire.specs.Recording.{reported_by}
use Rattle.dmr_desk.specs.Pace.{AreTicks}
use Rattle.dmr_desk.specs.Views.{view_of}
use Rattle.dmr_desk.specs.Work.{station_state}
use Rattle.test_witness.specs.Session.{IsWholeSession}
use Rattle.test_witness.proofs.SessionLemmas.{at_place, ticks_of}
use Rattle.test_witness.proofs.run.run_recorded.Goals as goal

pub returns-clause-carriers : goal.returns-clause-carriers
returns-clause-carriers g c = IfOk-weaker c.run_term.result _ _
    (λ t term k s u answers here there link reported passed told.
    c.one_session.ensures.carrier _ _ k _ _ answers term (at_place _ c.args.stations.items k s here) (at_place _ t.stations.items k u there)
    (record { link = link; reported = reported; passed = λ passages is. same_Some passages [] (sym is ∙ passed) }) told)
    c.run_term.ensures.term

pub returns-clause-operators : goal.returns-clause-operators
returns-clause-operators g c = IfOk-weaker c.run_term.result _ _
    (λ t term answers link reported told.
    let P : ℕ → Type 0 = λ n. IsWholeSession (station_state t.console.link (reported_by t.console.port.recording) None) answers
    (view_of (n + 1) t.report.journal) in
    subst P (length-map c.args.stations.items _ ∙ sym c.args.stations.ok.0)
    (c.one_session.ensures.operators _ _ answers term
    (record { link = link; reported = reported; passed = λ passages is. absurd (none-some passages is) }) told))
    c.run_term.ensures.term

pub returns-clause-ticks : goal.returns-clause-ticks
returns-clause-ticks g c = IfOk-weaker c.run_term.result _ _
    (λ t term.
    let P : ℕ → Type 0 = λ n. AreTicks (view_of n t.report.journal) ×
    (t.pacer.given ≡ c.args.pacer.given + length (view_of n t.report.journal) ⊎ t.pacer.given ≡ c.args.pacer.given +
    (length (view_of n t.report.journal) + 1)) in
    subst P (length-map c.args.stations.items _ ∙ sym c.args.stations.ok.0) (ticks_of _ _ _ _ term refl refl))
    c.run_term.ensures.term
