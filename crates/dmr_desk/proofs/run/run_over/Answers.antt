use Rattle.std.proofs.Common.{◌≡◌, ◌+◌, ℕ, ap, arith, subst, sym, vec_len, ◌∙◌}
use Rattle.dmr_desk.specs.Crew.{HasRoom}
use Rattle.dmr_desk.specs.Seats.{Opened, opened}
use Rattle.dmr_desk.proofs.CrewLemmas.{all_done_length}
use Rattle.dmr_desk.proofs.RefusalLemmas.{late_fault, nothing_left}
use Rattle.dmr_desk.proofs.run.run_over.Goals as goal

pub close_term-requires-clause-actors : goal.close_term-requires-clause-actors
close_term-requires-clause-actors g c κs within =
    let all = c.in-Some.all in
    let many : vec_len all.carriers ≡ vec_len c.args.service.stations =
    all.carriers.ok.0 ∙ all_done_length _ _ _ _ c.in-Some.ensures.carriers ∙ sym c.args.service.stations.ok.0 in
    let same = ap (λ (d : Opened). d.actors) c.in-Ok-open_with.ensures.desk in
    let count = c.len-count.ensures in omega arith

pub close_term-requires-clause-room : goal.close_term-requires-clause-room
close_term-requires-clause-room g c κs within =
    let all = c.in-Some.all in
    let many : vec_len all.carriers ≡ vec_len c.args.service.stations =
    all.carriers.ok.0 ∙ all_done_length _ _ _ _ c.in-Some.ensures.carriers ∙ sym c.args.service.stations.ok.0 in
    let P : ℕ → Type 0 = λ n. HasRoom n c.in-Ok.back in
    subst P (c.len-count.ensures ∙ sym many) c.in-Ok.ensures.back

pub returns-in-Ok-close_term-clause-term : goal.returns-in-Ok-close_term-clause-term
returns-in-Ok-close_term-clause-term g c =
    let count = ap (λ (n : ℕ). opened c.args.service.site c.args.limit (n + 2)) c.len-count.ensures in
    let named = c.requires.blank.desk_is ∙ sym count ∙ sym c.in-Ok-open_with.ensures.desk in
    rw named (c.in-Ok-close_term.ensures.term _ _ _ c.in-Some.ensures)

pub returns-in-Err-close_term-clause-fault : goal.returns-in-Err-close_term-clause-fault
returns-in-Err-close_term-clause-fault g c =
    let ended = rw c.in-Ok-open_with.ensures.desk at c.in-Err-close_term.ensures.ended _ _ _ c.in-Some.ensures in
    late_fault _ _ _ c.requires.limit c.in-Err-close_term.ensures.late ended

pub returns-in-Err-close_term-clause-left : goal.returns-in-Err-close_term-clause-left
returns-in-Err-close_term-clause-left g c = nothing_left _ _ c.in-Err-close_term.ensures.late

pub returns-in-Err-close_term-clause-ended : goal.returns-in-Err-close_term-clause-ended
returns-in-Err-close_term-clause-ended g c =
    let count = ap (λ (n : ℕ). opened c.args.service.site c.args.limit (n + 2)) c.len-count.ensures in
    let named = c.requires.blank.desk_is ∙ sym count ∙ sym c.in-Ok-open_with.ensures.desk in
    rw named (c.in-Err-close_term.ensures.ended _ _ _ c.in-Some.ensures)
