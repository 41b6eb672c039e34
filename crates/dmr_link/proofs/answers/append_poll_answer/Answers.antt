use Rattle.std.proofs.Common.{◌∙◌, ℕ, Option, List, [], ◌∷◌, sym, ap, refl, arith}
use Rattle.std.specs.Prelude.{is_some}
use Rattle.std.specs.List.{flat_map}
use Rattle.std.proofs.lemmas.List.{take_all}
use Rattle.arrayvec.specs.ArrayVec.{array_vec_len}
use Rattle.dmr_core.specs.declared.act.Act.{Act}
use Rattle.dmr_frames.specs.declared.frame.FrameOut.TheVariants.{Done}
use Rattle.dmr_link.specs.Numbering.{next_after_frames}
use Rattle.dmr_link.specs.Session.{transmissions}
use Rattle.dmr_link.proofs.NumberingLemmas.{next_item, put_item, write_done, next_after_frames-append}
use Rattle.dmr_link.proofs.RoomLemmas.{few_more, few_done, one_fits}
use Rattle.dmr_link.proofs.answers.append_poll_answer.Goals as goal

pub loop-act-preserved : goal.loop-act-preserved
loop-act-preserved c = record {
  items = put_item transmissions c.args.numbering.now c.loop-act.numbering c.args.acts.now c.loop-act.act-index c.act-item.result
      c.loop-act-test.true c.act-item.is c.loop-act.invariant.next
      [] c.loop-act.answer.items c.append_tx.new.answer.items c.loop-act.invariant.items c.append_tx.ensures.items;
  next = next_item transmissions c.args.numbering.now c.loop-act.numbering c.args.acts.now c.loop-act.act-index c.act-item.result
      c.loop-act-test.true c.act-item.is c.loop-act.invariant.next
      c.append_tx.new.numbering c.append_tx.ensures.next;
  few = few_more (is_some c.args.numbering.now) (is_some c.loop-act.numbering) c.loop-act.invariant.numbered
      (array_vec_len c.loop-act.answer) (array_vec_len c.append_tx.new.answer) c.loop-act.act-index c.append_tx.ensures.few
      c.loop-act.invariant.few;
  numbered = c.append_tx.ensures.numbered ∙ c.loop-act.invariant.numbered;
}

pub returns-clause-items : goal.returns-clause-items
returns-clause-items c =
    write_done c.args.numbering.now [] c.loop-act.answer.items _ c.append_frame.new.answer.items _ (flat_map transmissions c.args.acts.now)
    (ap (flat_map transmissions) (take_all c.loop-act.act-index c.args.acts.now c.loop-act-test.false)) c.loop-act.invariant.items refl
    c.append_frame.ensures.items

pub returns-clause-next : goal.returns-clause-next
returns-clause-next c =
    let all = take_all c.loop-act.act-index c.args.acts.now c.loop-act-test.false in
    c.append_frame.ensures.next
    ∙ ap (λ (n : Option ℕ). next_after_frames n (Done ∷ []))
    (c.loop-act.invariant.next ∙ ap (λ (acts : List Act). next_after_frames c.args.numbering.now (flat_map transmissions acts)) all)
    ∙ sym (next_after_frames-append c.args.numbering.now (flat_map transmissions c.args.acts.now) (Done ∷ []))

pub returns-clause-few : goal.returns-clause-few
returns-clause-few c = λ two.
    few_done (is_some c.args.numbering.now) (array_vec_len c.loop-act.answer) (array_vec_len c.append_frame.new.answer) c.loop-act.act-index
    (omega (arith, two, c.loop-act.auto.act-index-end)) c.append_frame.ensures.len c.loop-act.invariant.few

pub append_tx-requires : goal.append_tx-requires
append_tx-requires c = one_fits (is_some c.args.numbering.now) (array_vec_len c.loop-act.answer) c.loop-act.act-index
    (omega (arith, c.requires.most, c.loop-act.auto.act-index-end)) c.loop-act.invariant.few

pub append_frame-requires : goal.append_frame-requires
append_frame-requires c = one_fits (is_some c.args.numbering.now) (array_vec_len c.loop-act.answer) c.loop-act.act-index
    (omega (arith, c.requires.most, c.loop-act.auto.act-index-end)) c.loop-act.invariant.few
