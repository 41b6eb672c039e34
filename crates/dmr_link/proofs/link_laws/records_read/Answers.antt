use Rattle.std.proofs.Common.{◌≡◌, ℕ, ◌+◌, ◌≤◌, ap, ◌∙◌, arith}
use Rattle.dmr_link.specs.Recorded.{of_progress}
use Rattle.dmr_link.specs.Sessions.{progress_at, progress_after_answers, reads_in}
use Rattle.dmr_link.proofs.RecordsReadAsCalls.{at, after, within}
use Rattle.dmr_link.proofs.link_laws.records_read.Goals as goal

pub returns-clause-begun : goal.returns-clause-begun
returns-clause-begun c = λ s ss answers wire few.
    let few0 : 0 + reads_in answers ≤ 64 = omega (arith, few) in
    let same : 0 + reads_in answers ≡ reads_in answers = omega arith in
    within ss answers (progress_at s 0) 0 wire few0 ∙ ap (λ (n : ℕ). of_progress ss n (progress_after_answers (progress_at s 0) answers))
    same

pub returns-clause-paused : goal.returns-clause-paused
returns-clause-paused c = λ s ss row answers wire few. (after ss answers (at s row 0) wire few).past

pub returns-clause-writing : goal.returns-clause-writing
returns-clause-writing c = λ s ss row answers wire few. (after ss answers (at s row 0) wire few).writing

pub returns-clause-reads : goal.returns-clause-reads
returns-clause-reads c = λ s ss row answers wire few. (after ss answers (at s row 0) wire few).reads_are
