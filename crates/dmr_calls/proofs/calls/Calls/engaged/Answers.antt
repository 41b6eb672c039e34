use Rattle.std.proofs.Common.{◌≡◌, rules, ap, sym, ◌∙◌}
use Rattle.std.specs.Prelude.{Some, None, is_some}
use Rattle.dmr_calls.specs.declared.answer.Engagement.TheVariants.{CallOf, AskOf, LineOf}
use Rattle.dmr_calls.specs.Engaged.{engagement_of}
use Rattle.dmr_calls.proofs.EngagedLemmas.{some_engaged}
use Rattle.dmr_calls.proofs.calls.Calls.engaged.Goals as goal

pub returns-in-Some-clause-some : goal.returns-in-Some-clause-some
returns-in-Some-clause-some c =
    let value : Some (CallOf c.in-Some.call) ≡ engagement_of c.args.self.now c.args.radio = search rules in
    ap is_some value ∙ some_engaged c.args.self.now c.args.radio

pub returns-in-Some-ask_with-clause-some : goal.returns-in-Some-ask_with-clause-some
returns-in-Some-ask_with-clause-some c =
    let value : Some (AskOf c.in-Some-ask_with.ask) ≡ engagement_of c.args.self.now c.args.radio = search rules in
    ap is_some value ∙ some_engaged c.args.self.now c.args.radio

pub returns-in-Some-line_with-clause-some : goal.returns-in-Some-line_with-clause-some
returns-in-Some-line_with-clause-some c =
    let value : Some (LineOf c.in-Some-line_with.line) ≡ engagement_of c.args.self.now c.args.radio = search rules in
    ap is_some value ∙ some_engaged c.args.self.now c.args.radio

pub returns-clause-some : goal.returns-clause-some
returns-clause-some c =
    let value : engagement_of c.args.self.now c.args.radio ≡ None = search rules in
    sym (ap is_some value) ∙ some_engaged c.args.self.now c.args.radio
