use Rattle.std.proofs.Common.{◌≡◌, Err, rules}
use Rattle.dmr_records.proofs.RanLemmas.{ran_short, ran_then}
use Rattle.dmr_records.proofs.written.put_rest.Goals as goal

pub returns-in_err-put_calls-clause-ran : goal.returns-in_err-put_calls-clause-ran
returns-in_err-put_calls-clause-ran g c =
    let is : c.from_residual.result ≡ Err c.in_err-put_calls.field-0.0 = search rules in
    let calls = rw c.as_slice.ensures.value at c.in_err-put_calls.ensures.ran in
    rw is (ran_short g.S.Store _ _ _ _ _ calls)

pub returns-in_err-put_changes-clause-ran : goal.returns-in_err-put_changes-clause-ran
returns-in_err-put_changes-clause-ran g c =
    let is : c.from_residual-in_err-put_changes.result ≡ Err c.in_err-put_changes.field-0.0 = search rules in
    let calls = rw c.as_slice.ensures.value at c.in_ok-put_calls.ensures.ran in
    let changes = rw c.as_slice-2.ensures.value at c.in_err-put_changes.ensures.ran in
    rw is (ran_then g.S.Store _ _ _ _ _ _ calls (ran_short g.S.Store _ _ _ _ _ changes))

pub returns-in_err-put_notes-clause-ran : goal.returns-in_err-put_notes-clause-ran
returns-in_err-put_notes-clause-ran g c =
    let is : c.from_residual-in_err-put_notes.result ≡ Err c.in_err-put_notes.field-0.0 = search rules in
    let calls = rw c.as_slice.ensures.value at c.in_ok-put_calls.ensures.ran in
    let changes = rw c.as_slice-2.ensures.value at c.in_ok-put_changes.ensures.ran in
    let notes = rw c.as_slice-3.ensures.value at c.in_err-put_notes.ensures.ran in
    rw is (ran_then g.S.Store _ _ _ _ _ _ calls (ran_then g.S.Store _ _ _ _ _ _ changes (ran_short g.S.Store _ _ _ _ _ notes)))

pub returns-in_err-put_carriers-clause-ran : goal.returns-in_err-put_carriers-clause-ran
returns-in_err-put_carriers-clause-ran g c =
    let is : c.from_residual-in_err-put_carriers.result ≡ Err c.in_err-put_carriers.field-0.0 = search rules in
    let calls = rw c.as_slice.ensures.value at c.in_ok-put_calls.ensures.ran in
    let changes = rw c.as_slice-2.ensures.value at c.in_ok-put_changes.ensures.ran in
    let notes = rw c.as_slice-3.ensures.value at c.in_ok-put_notes.ensures.ran in
    let carriers = rw c.as_slice-4.ensures.value at c.in_err-put_carriers.ensures.ran in
    rw is (ran_then g.S.Store _ _ _ _ _ _ calls
    (ran_then g.S.Store _ _ _ _ _ _ changes (ran_then g.S.Store _ _ _ _ _ _ notes (ran_short g.S.Store _ _ _ _ _ carriers))))

pub returns-in_err-put_radios-clause-ran : goal.returns-in_err-put_radios-clause-ran
returns-in_err-put_radios-clause-ran g c =
    let is : c.from_residual-in_err-put_radios.result ≡ Err c.in_err-put_radios.field-0.0 = search rules in
    let calls = rw c.as_slice.ensures.value at c.in_ok-put_calls.ensures.ran in
    let changes = rw c.as_slice-2.ensures.value at c.in_ok-put_changes.ensures.ran in
    let notes = rw c.as_slice-3.ensures.value at c.in_ok-put_notes.ensures.ran in
    let carriers = rw c.as_slice-4.ensures.value at c.in_ok-put_carriers.ensures.ran in
    let radios = rw c.registered.ensures at c.in_err-put_radios.ensures.ran in
    rw is (ran_then g.S.Store _ _ _ _ _ _ calls
    (ran_then g.S.Store _ _ _ _ _ _ changes
    (ran_then g.S.Store _ _ _ _ _ _ notes (ran_then g.S.Store _ _ _ _ _ _ carriers (ran_short g.S.Store _ _ _ _ _ radios)))))

pub returns-clause-ran : goal.returns-clause-ran
returns-clause-ran g c =
    let calls = rw c.as_slice.ensures.value at c.in_ok-put_calls.ensures.ran in
    let changes = rw c.as_slice-2.ensures.value at c.in_ok-put_changes.ensures.ran in
    let notes = rw c.as_slice-3.ensures.value at c.in_ok-put_notes.ensures.ran in
    let carriers = rw c.as_slice-4.ensures.value at c.in_ok-put_carriers.ensures.ran in
    let radios = rw c.registered.ensures at c.in_ok-put_radios.ensures.ran in
    ran_then g.S.Store _ _ _ _ _ _ calls
    (ran_then g.S.Store _ _ _ _ _ _ changes
    (ran_then g.S.Store _ _ _ _ _ _ notes
    (ran_then g.S.Store _ _ _ _ _ _ carriers (ran_then g.S.Store _ _ _ _ _ _ radios c.prune_after.ensures.ran))))
