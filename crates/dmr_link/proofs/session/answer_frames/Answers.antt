use Rattle.std.proofs.Common.{◌≡◌, ℕ, ◌+◌, ◌-◌, ◌<◌, ◌≤◌, List, Option, length, take, drop, get_or, get_or-drop, sym, ap, subst, arith, ◌∙◌}
use Rattle.std.specs.Prelude.{is_some, option_map}
use Rattle.std.proofs.lemmas.List.{length-drop, take_rest}
use Rattle.dmr_link.specs.Notices.{list_of_notice}
use Rattle.dmr_link.specs.Notices.{Notice, notice_meant}
use Rattle.dmr_link.specs.Numbering.{next_after_frames}
use Rattle.dmr_link.specs.Session.{frames_said}
use Rattle.dmr_link.specs.Steps.{notices_of_octets, connection_after_octets}
use Rattle.dmr_link.specs.declared.connection.Connection.{Connection}
use Rattle.dmr_link.specs.Sound.{IsNumberingOf}
use Rattle.dmr_link.proofs.NumbersFollowVersions.{numbered_said}
use Rattle.dmr_link.proofs.OnePieceMore.{most_goes, connection_goes, site_goes, items_go, next_goes, room_goes}
use Rattle.dmr_link.proofs.WholePieces.{small-taken, octets-numbered}
use Rattle.dmr_link.proofs.session.answer_frames.Goals as goal

pub answer_notice-requires : goal.answer_notice-requires
answer_notice-requires c =
    let whose = c.loop-from.state.who in
    let k = c.loop-from.state.connection in
    let octets = c.args.octets.now in
    let i = c.loop-from.from in
    let n = c.receive-count.result.0 in
    let numbered = is_some c.loop-from.state.numbering in
    let brought = option_map notice_meant c.receive-count.result.1.notice in
    let rest : take (length octets - i) (drop i octets) ≡ drop i octets = take_rest octets i in
    let brings : notices_of_octets whose k (take n (drop i octets)) ≡ list_of_notice brought =
    ap (λ (ys : List ℕ). notices_of_octets whose k (take n ys)) (sym rest) ∙ c.receive-count.ensures.notice in
    let left = c.receive-count.ensures.connection ∙ ap (λ (ys : List ℕ). connection_after_octets whose k (take n ys)) rest in
    let most =
    most_goes c.args.state.now.who whose c.loop-from.invariant.who k c.receive-count.new.self octets i n brought brings left numbered in
    omega (arith, c.loop-from.invariant.fits, most)

pub loop-from-preserved : goal.loop-from-preserved
loop-from-preserved c =
    let same = c.loop-from.invariant.who in
    let who = c.args.state.now.who in
    let whose = c.loop-from.state.who in
    let k = c.loop-from.state.connection in
    let later = c.receive-count.new.self in
    let octets = c.args.octets.now in
    let i = c.loop-from.from in
    let n = c.receive-count.result.0 in
    let xs = take n (drop i octets) in
    let rest : take (length octets - i) (drop i octets) ≡ drop i octets = take_rest octets i in
    let count : n ≤ length (take (length octets - i) (drop i octets)) = c.receive-count.ensures.piece.1 in
    let brings : notices_of_octets whose k xs ≡ list_of_notice (option_map notice_meant c.receive-count.result.1.notice) =
    ap (λ (ys : List ℕ). notices_of_octets whose k (take n ys)) (sym rest) ∙ c.receive-count.ensures.notice in
    let left : later ≡ connection_after_octets whose k xs =
    c.receive-count.ensures.connection ∙ ap (λ (ys : List ℕ). connection_after_octets whose k (take n ys)) rest in
    let next = c.loop-from.state.numbering in
    let site = c.loop-from.site in
    let counts = c.answer_notice.ensures.next in
    let small : (j : ℕ) → get_or (drop i octets) j 0 < 256 = λ j. let at : get_or (drop i octets) j 0 ≡ get_or octets (i + j) 0 =
    get_or-drop i octets j 0 in omega (arith, at, c.type_inv.octets (i + j)) in
    let N : Option ℕ → Type 0 = λ m. IsNumberingOf (connection_after_octets whose k xs) m in
    let K : Connection → Type 0 = λ l. IsNumberingOf l c.answer_notice.new.numbering in
    record {
      within = omega (arith, count, ap length rest, c.loop-from.invariant.within, length-drop {A = ℕ} i octets);
      who = same;
      connection = connection_goes who whose same k later octets i n _ brings left _ c.loop-from.invariant.connection;
      sound = λ is.
          let was = c.loop-from.invariant.sound is in (
            c.receive-count.ensures.sound was.0,
            subst K (sym left) (subst N (ap (λ (ns : List Notice). next_after_frames next (frames_said site.plan site.facts ns)) brings
                ∙ sym counts)
                (octets-numbered whose site.plan site.facts next k xs
                (small-taken (drop i octets) n (omega (arith, count, ap length rest)) small) was.0 was.1)),
          );
      site = site_goes who whose same k later octets i n _ brings left site c.answer_notice.new.site c.answer_notice.ensures.site _
          c.loop-from.invariant.site;
      items = items_go who whose same k later octets i n _ brings left site c.answer_notice.new.site c.answer_notice.ensures.site next
          c.answer_notice.new.numbering counts
          c.loop-from.text.items c.answer_notice.new.text.items _ c.answer_notice.ensures.items c.loop-from.invariant.items;
      next = next_goes who whose same k later octets i n _ brings left site c.answer_notice.new.site c.answer_notice.ensures.site next
          c.answer_notice.new.numbering counts
          _ c.loop-from.invariant.next;
      fits = room_goes who whose same k later octets i n _ brings left _ _
          (ap (λ (m : Option ℕ). is_some m) counts ∙ numbered_said site.plan site.facts next
          (option_map notice_meant c.receive-count.result.1.notice)) _ _ _ _
          c.answer_notice.ensures.few c.answer_notice.ensures.room c.loop-from.invariant.fits;
      room = c.answer_notice.ensures.room ∙ c.loop-from.invariant.room;
    }
