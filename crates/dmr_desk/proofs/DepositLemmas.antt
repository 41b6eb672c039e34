-- A desk without deposits has nothing to differ from.
use Rattle.std.proofs.Common.{◌≡◌, ℕ, zero, suc, ◌<◌, ◌≤◌, List, [], ◌∷◌, Some, length, slice_index_or, refl, sym, ◌∙◌, ap, arith}
use Rattle.std.specs.Prelude.{slice_get}
use Rattle.dmr_core.specs.declared.entry.Entry.{Entry}
use Rattle.dmr_link.specs.declared.desk.Deposit.{Deposit}
use Rattle.dmr_desk.specs.declared.fault.CloseFault.TheVariants.{Differs}
use Rattle.dmr_desk.specs.declared.report.Report.{Report}
use Rattle.dmr_desk.specs.Audited.{IsDiffering, IsFault, IsKept, deposits_of_seats}
use Rattle.dmr_desk.specs.Seats.{Opened, SeatState}
use Rattle.dmr_desk.specs.Views.{view_of}
use Rattle.dmr_desk.proofs.ClosingLemmas.{differing_is}

within_sum : (seats : List SeatState) (k : ℕ) (d : SeatState) → k < length seats →
    length (slice_index_or seats k d).deposits ≤ deposits_of_seats seats
within_sum [] k d h = absurd (omega arith)
within_sum (s ∷ ss) zero d h = omega arith
within_sum (s ∷ ss) (suc k) d h = let rest = within_sum ss k d (omega arith) in omega arith

is_empty : {A : Type 0} (xs : List A) → length xs ≡ 0 → xs ≡ []
is_empty [] none = refl
is_empty (x ∷ xs) none = absurd (omega arith)

no_difference : (desk : Opened) (seats : List SeatState) (report : Report) (actor n : ℕ) → deposits_of_seats seats ≡ n → n ≡ 0 →
    IsKept desk seats report → IsDiffering report.views.items report.journal actor → ⊥
no_difference desk seats report actor n sum none is differs =
    let found = is.gathered.has actor differs.0 in
    let counted : length report.journal ≡ deposits_of_seats seats = is.journal.counted in
    let empty : report.journal ≡ [] = is_empty report.journal (counted ∙ sum ∙ none) in
    let seat : slice_index_or seats found.1.0 found.0 ≡ found.0 = found.1.2 in
    let few = within_sum seats found.1.0 found.0 found.1.1 in
    let same : length (slice_index_or seats found.1.0 found.0).deposits ≡ length found.0.deposits =
    ap (λ (s : SeatState). length s.deposits) seat in
    let nothing : found.0.deposits ≡ [] = is_empty found.0.deposits (omega arith) in
    let seen : slice_get report.views.items found.0.actor ≡ Some found.0.deposits = is.gathered.each found.0 found.1 in
    let own : slice_get report.views.items actor ≡ slice_get report.views.items found.0.actor =
    ap (λ (k : ℕ). slice_get report.views.items k) (sym found.2) in
    differs.1 (own ∙ seen ∙ ap (λ (ds : List Deposit). Some ds) nothing ∙ ap (λ (j : List Entry). Some (view_of actor j)) (sym empty))

some_of : (n : ℕ) → (n ≡ 0 → ⊥) → 0 < n
some_of zero not = absurd (not refl)
some_of (suc n) not = omega arith

pub differing_has_deposits : (desk : Opened) (seats : List SeatState) (actor : ℕ) → IsFault desk seats (Differs actor) →
    0 < deposits_of_seats seats
differing_has_deposits desk seats actor fault =
    let is = differing_is desk seats actor fault in
    some_of (deposits_of_seats seats) (λ none. no_difference desk seats is.0 actor (deposits_of_seats seats) refl none is.1 is.2)
