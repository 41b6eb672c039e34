use Rattle.std.proofs.Common.{◌≡◌, ℕ, List, [], ◌∷◌, ◌++◌, sym, ap, ◌∙◌, Result, Ok, Err}
use Rattle.std.specs.Prelude.{OnOk}
use Rattle.dmr_link.specs.Input.{Input, At, Octets, Saying}
use Rattle.dmr_link.specs.Inputs.{Writes, input_leaves, texts_after, console_after}
use Rattle.dmr_link.specs.State.{State}
use Rattle.dmr_link.specs.Texts.{Texts}
use Rattle.dmr_replay.specs.Script.{repeated_input}
use Rattle.dmr_replay.specs.declared.script.ScriptInput.{ScriptInput}
use Rattle.dmr_replay.proofs.script.ScriptInput.apply.Goals as goal

-- the law that a step adds an input
abbrev GoesOn : Type 0
GoesOn = (s old new : State) (texts more : Texts) (before : List Input) (input : Input) → Writes s old texts before →
    new ≡ input_leaves old input
    → more.carriers ≡ texts_after old texts.carriers input → more.console ≡ console_after old texts.console input →
    Writes s new more (before ++ input ∷ [])

answer : {A E : Type 0} (r : Result A E) (old new : State) (texts more : Texts) (input wanted : Input) → input ≡ wanted → GoesOn →
    OnOk r (new ≡ input_leaves old input)
    → OnOk r (more.carriers ≡ texts_after old texts.carriers input) → OnOk r (more.console ≡ console_after old texts.console input)
    → OnOk r ((s : State) (before : List Input) → Writes s old texts before → Writes s new more (before ++ wanted ∷ []))
answer (Ok x) old new texts more input wanted same law engine carriers console = λ s before writes.
    law s old new texts more before wanted writes (engine ∙ ap (input_leaves old) same)
    (carriers ∙ ap (texts_after old texts.carriers) same) (console ∙ ap (console_after old texts.console) same)
answer (Err e) old new texts more input wanted same law engine carriers console = tt

abbrev its : ScriptInput → Input
its line = (repeated_input line).input

pub returns-in-Open : goal.returns-in-Open
returns-in-Open c =
    answer c.step-opened.result c.args.engine.now c.step-opened.new.self c.args.outputs.now c.step-opened.new.outputs _ _
    (ap its (sym c.in-Open.is)) c.steps_make_runs.ensures.goes_on
    c.step-opened.ensures.engine c.step-opened.ensures.texts c.step-opened.ensures.console

pub returns-in-Bytes : goal.returns-in-Bytes
returns-in-Bytes c =
    answer c.step-received.result c.args.engine.now c.step-received.new.self c.args.outputs.now c.step-received.new.outputs _ _
    (ap (λ (o : List ℕ). At c.in-Bytes.carrier (Octets o)) c.as_slice-octets.ensures.value ∙ ap its (sym c.in-Bytes.is))
    c.steps_make_runs.ensures.goes_on
    c.step-received.ensures.engine c.step-received.ensures.texts c.step-received.ensures.console

pub returns-in-Cut : goal.returns-in-Cut
returns-in-Cut c =
    answer c.step-cut.result c.args.engine.now c.step-cut.new.self c.args.outputs.now c.step-cut.new.outputs _ _
    (ap its (sym c.in-Cut.is)) c.steps_make_runs.ensures.goes_on
    c.step-cut.ensures.engine c.step-cut.ensures.texts c.step-cut.ensures.console

pub returns-in-Tick : goal.returns-in-Tick
returns-in-Tick c =
    answer c.step-ticked.result c.args.engine.now c.step-ticked.new.self c.args.outputs.now c.step-ticked.new.outputs _ _
    (ap its (sym c.in-Tick.is)) c.steps_make_runs.ensures.goes_on
    c.step-ticked.ensures.engine c.step-ticked.ensures.texts c.step-ticked.ensures.console

pub returns-in-Text : goal.returns-in-Text
returns-in-Text c =
    answer c.step-said.result c.args.engine.now c.step-said.new.self c.args.outputs.now c.step-said.new.outputs _ _
    (ap Saying c.as_slice-text.ensures.value ∙ ap its (sym c.in-Text.is)) c.steps_make_runs.ensures.goes_on
    c.step-said.ensures.engine c.step-said.ensures.texts c.step-said.ensures.console
