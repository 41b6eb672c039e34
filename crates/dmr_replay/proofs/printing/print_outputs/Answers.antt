use Rattle.std.proofs.Common.{◌≡◌, arith, [], List, ℕ, slice_index_or, sym, ap, ◌∙◌, subst}
use Rattle.std.specs.Io.KnownBytes.{Appends}
use Rattle.dmr_plan.specs.Carriers.{has_number_in}
use Rattle.dmr_replay.specs.Replay.{carrier_line, lines_to}
use Rattle.dmr_replay.proofs.PrintingLemmas.{end_printed, line_printed, passed_over}
use Rattle.dmr_replay.proofs.printing.print_outputs.Goals as goal
use Rattle.dmr_replay.proofs.printing.print_outputs.Goals.{then-is_some+in_ok-print_carrier, else-is_some}

pub loop-number-preserved : goal.loop-number-preserved
loop-number-preserved g c =
    let plan = c.args.plan.now in
    let put_out : ℕ → List ℕ = λ number. slice_index_or c.args.outputs.now.carriers number [] in
    let number = c.loop-number.number in
    let found = c.is_some.ensures ∙ c.carrier_with.ensures.found ∙ ap (has_number_in plan.lists.carriers) c.new-carrier.ensures in
    let old = g.W.Write.contents c.args.out.now in
    let before = g.W.Write.contents c.loop-number.out in
    elim c.if-is_some.branch [
      | then-is_some+in_ok-print_carrier w ↦
          let octets_are = w.carrier.ensures ∙ ap put_out c.new-carrier.ensures in
          let after = g.W.Write.contents w.print_carrier.new.out in
          let printed = line_printed plan put_out number old before after c.loop-number.invariant (sym found ∙ w.if-is_some.true)
          (subst (λ (octets : List ℕ). Appends before after (carrier_line number octets)) octets_are w.in_ok-print_carrier.ensures) in
          rw w.out-is printed
      | else-is_some w ↦
          rw w.out-is (passed_over plan put_out number old before c.loop-number.invariant (sym found ∙ w.if-is_some.false))
    ]

pub returns : goal.returns
returns g c =
    let put_out : ℕ → List ℕ = λ number. slice_index_or c.args.outputs.now.carriers number [] in
    let old = g.W.Write.contents c.args.out.now in
    let before = g.W.Write.contents c.loop-number.out in
    let after = g.W.Write.contents c.write_all.new.self in
    let all : c.loop-number.number ≡ 16 = omega arith in
    let lines : Appends old before (lines_to c.args.plan.now put_out 16) =
    subst (λ (numbers : ℕ). Appends old before (lines_to c.args.plan.now put_out numbers)) all c.loop-number.invariant in
    end_printed c.flush.result old before after (g.W.Write.contents c.flush.new.self)
    (lines_to c.args.plan.now put_out 16) c.args.outputs.now.console
    lines (subst (Appends before after) c.console.ensures c.in_ok-write_all.ensures.bytes) c.flush.ensures.bytes
