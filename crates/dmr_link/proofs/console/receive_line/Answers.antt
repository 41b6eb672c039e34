use Rattle.std.proofs.Common.{ℕ, ◌+◌, Option, take, sym, ap, ◌∙◌}
use Rattle.std.specs.Prelude.{option_map}
use Rattle.dmr_console.specs.declared.line_cutter.LineStep.{LineStep}
use Rattle.dmr_console.specs.Steps.{open_line_after}
use Rattle.dmr_link.specs.declared.notices.Notice.{Notice}
use Rattle.dmr_link.specs.Console.{line_means, said_from}
use Rattle.dmr_link.specs.Notices.{list_of_notice}
use Rattle.dmr_link.specs.Notices.{notice_meant}
use Rattle.dmr_link.proofs.OperatorLineLemmas.{left_by_one, said_by_one}
use Rattle.dmr_link.proofs.console.receive_line.Goals as goal

pub loop-octet-preserved : goal.loop-octet-preserved
loop-octet-preserved c =
    let octets = c.args.octets.now in
    let i = c.loop-octet.octet-index in
    let old = c.loop-octet in
    record {
      counted = ap (λ (n : ℕ). n + 1) old.invariant.counted;
      cutter =
          c.feed_byte.ensures.rest ∙ sym (left_by_one c.args.cutter.now old.cutter octets i c.loop-octet-test.true old.invariant.cutter);
      silent =
          said_by_one c.args.cutter.now old.cutter octets i c.loop-octet-test.true old.invariant.cutter old.invariant.silent
          ∙ ap (λ (step : LineStep). line_means step) (sym c.feed_byte.ensures.step)
          ∙ sym c.notice_of_line.ensures
          ∙ ap (λ (n : Option Notice). list_of_notice (option_map notice_meant n)) c.in-None.is;
    }

pub returns-in_default-clause-notice : goal.returns-in_default-clause-notice
returns-in_default-clause-notice c =
    let octets = c.args.octets.now in
    let i = c.loop-octet.octet-index in
    let old = c.loop-octet in
    ap (λ (n : ℕ). said_from c.args.cutter.now (take (n + 1) octets)) old.invariant.counted
    ∙ said_by_one c.args.cutter.now old.cutter octets i c.loop-octet-test.true old.invariant.cutter old.invariant.silent
    ∙ ap (λ (step : LineStep). line_means step) (sym c.feed_byte.ensures.step)
    ∙ sym c.notice_of_line.ensures

pub returns-in_default-clause-cutter : goal.returns-in_default-clause-cutter
returns-in_default-clause-cutter c =
    let octets = c.args.octets.now in
    let i = c.loop-octet.octet-index in
    let old = c.loop-octet in
    c.feed_byte.ensures.rest ∙ sym (left_by_one c.args.cutter.now old.cutter octets i c.loop-octet-test.true old.invariant.cutter)
    ∙ ap (λ (n : ℕ). open_line_after c.args.cutter.now (take (n + 1) octets)) (sym old.invariant.counted)

pub returns-clause-notice : goal.returns-clause-notice
returns-clause-notice c =
    ap (λ (n : ℕ). said_from c.args.cutter.now (take n c.args.octets.now)) c.loop-octet.invariant.counted ∙ c.loop-octet.invariant.silent

pub returns-clause-cutter : goal.returns-clause-cutter
returns-clause-cutter c = c.loop-octet.invariant.cutter ∙ ap (λ (n : ℕ). open_line_after c.args.cutter.now (take n c.args.octets.now))
    (sym c.loop-octet.invariant.counted)
