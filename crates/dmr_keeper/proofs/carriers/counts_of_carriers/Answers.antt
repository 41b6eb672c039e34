use Rattle.std.proofs.Common.{◌≡◌, ◌++◌, ◌∙◌, ap, arith, sym}
use Rattle.std.specs.Prelude.{filter_map}
use Rattle.std.specs.List.{range_with_len}
use Rattle.std.specs.Option.{option_to_list}
use Rattle.dmr_keeper.specs.Carriers.{counts_if_any}
use Rattle.dmr_keeper.proofs.CarrierLemmas.{given_more}
use Rattle.dmr_keeper.proofs.carriers.counts_of_carriers.Goals as goal

pub loop-number-preserved : goal.loop-number-preserved
loop-number-preserved c =
    c.in_ok-add_counts.ensures
    ∙ (λ i. c.loop-number.invariant i ++ option_to_list (counts_if_any c.args.journal.now (c.new.ensures i)))
    ∙ sym (given_more (counts_if_any c.args.journal.now) c.loop-number.number)

pub returns : goal.returns
returns c =
    let all : c.loop-number.number ≡ 16 = omega arith in
    c.loop-number.invariant ∙ ap (λ n. filter_map (counts_if_any c.args.journal.now) (range_with_len 0 n)) all
