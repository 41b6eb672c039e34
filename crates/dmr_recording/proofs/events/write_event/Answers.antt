use Rattle.std.proofs.Common.{◌≡◌, ℕ, List, ◌++◌, ap, sym, subst, ◌∙◌, append-nil, string_bytes, OnOk}
use Rattle.std.proofs.lemmas.Result.{on_ok_weaker}
use Rattle.dmr_plan.specs.declared.settings.Settings.{Settings}
use Rattle.dmr_core.specs.declared.event.Event.{Event}
use Rattle.dmr_core.specs.declared.event.Event.TheVariants as event
use Rattle.dmr_frames.specs.declared.frame.FrameIn.TheVariants as frame
use Rattle.dmr_frames.specs.Frames.{spelling}
use Rattle.dmr_link.specs.Input.{At, Opening, Octets}
use Rattle.dmr_recording.specs.Events.{inputs_of_event, lpcn_of}
use Rattle.dmr_recording.specs.Lines.{line_by, text_of}
use Rattle.dmr_recording.proofs.events.write_event.Goals as goal

-- the lines of an Up are those of its inputs
up_lines : (plan : Settings) (c lpcn : ℕ) (old new : List ℕ) → lpcn ≡ lpcn_of plan c →
    new ≡ old ++ (line_by (At c Opening) 1 ++ line_by (At c (Octets (spelling (frame.Hello 1 c lpcn)))) 1)
    → new ≡ old ++ text_of (inputs_of_event plan (event.Up c))
up_lines plan c lpcn old new channel written =
    let begun : List ℕ = line_by (At c Opening) 1 in
    let greeted : ℕ → List ℕ = λ n. line_by (At c (Octets (spelling (frame.Hello 1 c n)))) 1 in
    written ∙ ap (λ (n : ℕ). old ++ (begun ++ greeted n)) channel ∙ ap (λ (l : List ℕ). old ++ (begun ++ l))
    (sym (append-nil (greeted (lpcn_of plan c))))

pub returns-in_ok-lpcn-in-Up-clause-lines : goal.returns-in_ok-lpcn-in-Up-clause-lines
returns-in_ok-lpcn-in-Up-clause-lines c =
    let plan = c.args.plan.now in
    let new = string_bytes c.write_up.new.text in
    let old = string_bytes c.args.text.now in
    subst (λ (e : Event). OnOk c.write_up.result (new ≡ old ++ text_of (inputs_of_event plan e))) (sym c.in-Up.is)
    (on_ok_weaker c.write_up.result (λ w. up_lines plan c.in-Up.carrier c.in_ok-lpcn-in-Up.lpcn old new c.in_ok-lpcn-in-Up.ensures.lpcn w)
    c.write_up.ensures.ok)
