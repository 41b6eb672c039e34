use Rattle.std.proofs.Common.{◌≡◌, ℕ, ◌+◌, ◌-◌, ◌∙◌, Bool, true, false, List, sym, subst, None, Option, arith}
use Rattle.std.specs.Prelude.{IsTrue}
use Rattle.std.proofs.lemmas.Option.{get_or_from_slice_get}
use Rattle.dmr_desk.specs.Audited.{AllFollow}
use Rattle.dmr_desk.proofs.SeatLemmas.{at_place}
use Rattle.dmr_desk.proofs.ViewLemmas.{all_follow_one, all_pass, view_at}
use Rattle.dmr_desk.proofs.audit.follow_block.Goals as goal
use Rattle.dmr_desk.proofs.audit.follow_block.Goals.{then-is_among, else-is_among}

pub loop-place-preserved : goal.loop-place-preserved
loop-place-preserved c =
    let views = c.args.views.now.items in
    let journal = c.args.journal.now in
    let place = c.loop-place.place in
    let turns = c.loop-place.turns in
    let entry = c.index-journal-place.result in
    let P : List (Option ℕ) → Type 0 = λ ts. AllFollow c.args.from c.args.to views journal (place + 1) ts in
    let known = c.actors_of-actors.ensures place entry (omega arith) (omega arith)
    (at_place journal place entry (omega arith) c.index-journal-place.is) in
    let own : c.from-actor.result ≡ entry.actor =
    c.from-actor.ensures ∙ get_or_from_slice_get c.actors_of-actors.result (place - c.args.start) entry.actor 0 known in
    elim c.if-is_among.branch [
      | then-is_among w ↦
          let among = c.is_among.ensures.0 w.if-is_among.true in
          let here = view_at views w.as_slice.result.now c.from-actor.result w.index-as_slice-actor.result
          w.as_slice-then-is_among.result.now w.as_slice.ensures.value
          (omega arith) w.index-as_slice-actor.is w.as_slice-then-is_among.ensures in
          subst P (sym w.turns-is) (all_follow_one c.args.from c.args.to views journal place turns entry c.from-actor.result
          w.as_slice-then-is_among.result.now None w.follow.result among.0 among.1 c.loop-place.invariant
          (omega arith) c.index-journal-place.is own here (w.follow.ensures journal place (omega arith) c.index-journal-place.is))
      | else-is_among w ↦
          subst P (sym w.turns-is) (all_pass c.args.from c.args.to views journal place turns entry c.loop-place.invariant
          (omega arith) c.index-journal-place.is
          (λ both. absurd (let no : false ≡ true = subst (λ (b : Bool). IsTrue b) w.if-is_among.false
          (c.is_among.ensures.1 (omega (arith, both.0, own), omega (arith, both.1, own))) in cc)))
    ]
