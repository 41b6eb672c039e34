use Rattle.std.proofs.Common.{arith, ◌≡◌, ℕ, List, take, drop, take-append-drop, sym, ap, ◌∙◌}
use Rattle.std.specs.Prelude.{option_map}
use Rattle.std.proofs.lemmas.List.{length-drop}
use Rattle.dmr_link.specs.Notices.{list_of_notice}
use Rattle.dmr_link.specs.Notices.{notice_meant}
use Rattle.dmr_link.specs.Peers.{all_produce, left_after, closes_by}
use Rattle.dmr_link.specs.LinkSteps.{closing_then, kept_then}
use Rattle.dmr_link.proofs.link_state.LinkState.receive.Goals as goal

pub returns : goal.returns
returns c =
    let l = c.args.self.now in
    let n = c.receive-count.result.0 in
    let outcome = c.receive-count.result.1 in
    let brings : all_produce l.connection (take n l.unread) ≡ list_of_notice (option_map notice_meant outcome.notice) =
    ap (λ (xs : List ℕ). all_produce l.connection (take n xs)) (sym c.as_slice.ensures) ∙ c.receive-count.ensures.notice in
    let left : c.receive-count.new.self ≡ left_after l.connection (take n l.unread) =
    c.receive-count.ensures.stream ∙ ap (λ (xs : List ℕ). left_after l.connection (take n xs)) c.as_slice.ensures in
    let closes : outcome.closing ≡ closes_by l.connection (take n l.unread) =
    c.receive-count.ensures.closing ∙ ap (λ (xs : List ℕ). closes_by l.connection (take n xs)) c.as_slice.ensures in
    record {
      octets = take n l.unread;
      rest = drop n l.unread;
      notice = option_map notice_meant outcome.notice;
      few = omega (arith, c.requires, c.receive-count.ensures.piece.0, length-drop {A = ℕ} n l.unread);
      in_two = sym (take-append-drop n l.unread);
      means = brings;
      alone = c.keep_outcome.ensures.alone;
      leaves =
          c.keep_outcome.ensures.kept
          ∙ (λ i. record {
            who = l.who;
            connection = left i;
            pending = record { kept = kept_then l.pending.kept (option_map notice_meant outcome.notice); lost = l.pending.lost };
            is_cut = l.is_cut;
            unread = c.skip.ensures i;
            closing = closing_then l.closing (closes i);
          });
    }
