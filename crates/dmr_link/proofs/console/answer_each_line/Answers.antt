use Rattle.std.proofs.Common.{◌≡◌, ℕ, ◌-◌, ◌≤◌, List, length, take, drop, vec_len, vec_capacity, sym, ap, ◌∙◌, arith}
use Rattle.std.specs.Prelude.{option_map}
use Rattle.std.proofs.lemmas.List.{length-drop, take_rest}
use Rattle.dmr_console.specs.Steps.{open_line_after}
use Rattle.dmr_link.specs.Console.{said_from}
use Rattle.dmr_link.specs.Notices.{list_of_notice}
use Rattle.dmr_link.specs.Notices.{notice_meant}
use Rattle.dmr_link.proofs.OperatorLineLemmas.{lines_go, line_fits, lines_fit, line_site, line_items}
use Rattle.dmr_link.proofs.console.answer_each_line.Goals as goal

pub answer_line-requires : goal.answer_line-requires
answer_line-requires c =
    let octets = c.args.octets.now in
    let i = c.loop-from.from in
    let n = c.receive_line-count.result.0 in
    let begun = c.loop-from.console in
    let it = option_map notice_meant c.receive_line-count.result.1 in
    let rest : take (length octets - i) (drop i octets) ≡ drop i octets = take_rest octets i in
    let brings : said_from begun (take n (drop i octets)) ≡ list_of_notice it =
    ap (λ (xs : List ℕ). said_from begun (take n xs)) (sym rest) ∙ c.receive_line-count.ensures.notice in
    let left = c.receive_line-count.ensures.cutter ∙ ap (λ (xs : List ℕ). open_line_after begun (take n xs)) rest in
    line_fits begun c.receive_line-count.new.cutter octets i n it brings left (vec_len c.loop-from.text)
    (vec_capacity c.loop-from.text) c.loop-from.invariant.fits

pub loop-from-preserved : goal.loop-from-preserved
loop-from-preserved c =
    let octets = c.args.octets.now in
    let i = c.loop-from.from in
    let n = c.receive_line-count.result.0 in
    let begun = c.loop-from.console in
    let later = c.receive_line-count.new.cutter in
    let it = option_map notice_meant c.receive_line-count.result.1 in
    let rest : take (length octets - i) (drop i octets) ≡ drop i octets = take_rest octets i in
    let count : n ≤ length (take (length octets - i) (drop i octets)) = c.receive_line-count.ensures.piece.1 in
    let brings : said_from begun (take n (drop i octets)) ≡ list_of_notice it =
    ap (λ (xs : List ℕ). said_from begun (take n xs)) (sym rest) ∙ c.receive_line-count.ensures.notice in
    let left = c.receive_line-count.ensures.cutter ∙ ap (λ (xs : List ℕ). open_line_after begun (take n xs)) rest in
    record {
      within = omega (arith, count, ap length rest, c.loop-from.invariant.within, length-drop {A = ℕ} i octets);
      console = lines_go begun later octets i n it brings left _ c.loop-from.invariant.console;
      site = line_site begun later octets i n it brings left c.loop-from.site c.answer_line.new.site c.answer_line.ensures.site _
          c.loop-from.invariant.site;
      items = line_items begun later octets i n it brings left c.loop-from.site c.answer_line.new.site c.answer_line.ensures.site
          c.loop-from.text.items c.answer_line.new.text.items _ c.answer_line.ensures.items c.loop-from.invariant.items;
      fits = lines_fit begun later octets i n it brings left (vec_len c.loop-from.text) (vec_capacity c.loop-from.text)
          (vec_len c.answer_line.new.text) (vec_capacity c.answer_line.new.text) c.loop-from.invariant.fits c.answer_line.ensures.few
          c.answer_line.ensures.room;
      room = c.answer_line.ensures.room ∙ c.loop-from.invariant.room;
    }
