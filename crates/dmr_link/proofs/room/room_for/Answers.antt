use Rattle.std.proofs.Common.{◌≡◌, ℕ, ◌-◌, ◌≤◌, List, length, take, drop, sym, ap, ◌∙◌, arith}
use Rattle.std.proofs.lemmas.List.{length-drop, take_rest}
use Rattle.dmr_link.specs.Steps.{notices_of_octets, connection_after_octets}
use Rattle.dmr_link.proofs.RoomLemmas.{room_more, room_whole}
use Rattle.dmr_link.proofs.room.room_for.Goals as goal

pub loop-from-preserved : goal.loop-from-preserved
loop-from-preserved c =
    let who = c.args.who.now in
    let octets = c.args.octets.now in
    let i = c.loop-from.from in
    let n = c.receive-count.result.0 in
    let k = c.loop-from.trial in
    let rest : take (length octets - i) (drop i octets) ≡ drop i octets = take_rest octets i in
    let count : n ≤ length (take (length octets - i) (drop i octets)) = c.receive-count.ensures.piece.1 in
    let brings = ap (λ (xs : List ℕ). notices_of_octets who k (take n xs)) (sym rest) ∙ c.receive-count.ensures.notice in
    let left = c.receive-count.ensures.connection ∙ ap (λ (xs : List ℕ). connection_after_octets who k (take n xs)) rest in
    record {
      within = omega (arith, count, ap length rest, c.loop-from.invariant.within, length-drop {A = ℕ} i octets);
      room = room_more who c.loop-from.numbered c.is_numbered_after-numbered.result k c.receive-count.new.self octets i n _ c.loop-from.room
          c.most_for_notice.result c.saturating_add-room.result _
          brings left c.is_numbered_after-numbered.ensures c.most_for_notice.ensures c.saturating_add-room.ensures
          c.loop-from.invariant.room;
      fits = omega (arith, c.saturating_add-room.type_inv);
    }

pub returns : goal.returns
returns c = room_whole c.loop-from.room c.args.who.now c.loop-from.numbered c.loop-from.trial c.args.octets.now c.loop-from.from _
    c.loop-from-test.false c.loop-from.invariant.fits c.loop-from.invariant.room
