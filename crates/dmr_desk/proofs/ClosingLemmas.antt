-- From seats and views to what closing shows.
use Rattle.std.proofs.Common.{◌≡◌, ℕ, List, length, reverse, Option, Some, None, refl, sym, ◌∙◌, subst}
use Rattle.std.specs.Prelude.{Contains}
use Rattle.std.proofs.lemmas.Option.{same_Some, slice_get_within}
use Rattle.dmr_desk.specs.declared.report.Report.{Report}
use Rattle.dmr_desk.specs.declared.fault.CloseFault.TheVariants.{SeatMissing, Differs}
use Rattle.dmr_desk.specs.BookState.{AreOfActors, BookState, IsSoundBook, site_after_entries}
use Rattle.dmr_link.specs.Runs.{IsSafe}
use Rattle.dmr_desk.specs.Seats.{SeatState, Opened}
use Rattle.dmr_desk.specs.Views.{view_of}
use Rattle.dmr_desk.specs.Audited.{AreGathered, IsAudited, IsDiffering, IsFault, IsKept, IsUnreported, count_of_deposits, deposits_of_seats}

-- what a desk keeps of a book, at exactly the site and limit that it was opened with
pub kept_of_book : (pages : BookState) (actors : ℕ) (seats : List SeatState) (report : Report) → IsSoundBook pages →
    IsSafe pages.opening.plan pages.opening.facts (reverse pages.entries) → AreOfActors actors pages.entries
    → report.site ≡ site_after_entries pages.opening pages.entries → report.journal ≡ pages.entries → AreGathered seats report.views.items →
    count_of_deposits report.views.items ≡ deposits_of_seats seats → length report.views.items ≡ actors →
    length pages.entries ≡ count_of_deposits report.views.items
    → IsKept (record { site = pages.opening; limit = pages.limit; actors = actors }) seats report
kept_of_book pages actors seats report sound safe known site journal gathered counted many count =
    let P : Report → Type 0 = λ r. IsKept (record { site = pages.opening; limit = pages.limit; actors = actors }) seats r in
    let base : P (record { site = site_after_entries pages.opening pages.entries; journal = pages.entries; views = report.views }) =
    record {
      journal = record { kept = sound; counted = count ∙ counted; known = known };
      safe = safe;
      site = refl;
      gathered = gathered;
      counted = counted;
      actors = many;
    } in
    subst P (λ i. record { site = sym site i; journal = sym journal i; views = report.views }) base

-- the deposits of a seat are the journal's list for its actor
pub seat_has_view : (desk : Opened) (seats : List SeatState) (report : Report) → IsAudited desk seats report → (seat : SeatState) →
    Contains seats seat → seat.deposits ≡ view_of seat.actor report.journal
seat_has_view desk seats report is seat has =
    let seen = is.kept.gathered.each seat has in
    same_Some seat.deposits (view_of seat.actor report.journal)
    (sym seen ∙ is.same seat.actor (slice_get_within report.views.items seat.actor seat.deposits seen))

-- a desk that misses a seat
pub missing_is : (desk : Opened) (seats : List SeatState) (actor : ℕ) → IsFault desk seats (SeatMissing actor) →
    IsUnreported desk seats (SeatMissing actor) None
missing_is desk seats actor fault = by fault.0 fault.1
  where
    by : (kept : Option Report) → IsUnreported desk seats (SeatMissing actor) kept → IsUnreported desk seats (SeatMissing actor) None
    by None is = is
    by (Some report) is = absurd is

-- a desk of which a view differs has kept something
pub differing_is : (desk : Opened) (seats : List SeatState) (actor : ℕ) → IsFault desk seats (Differs actor) → (report : Report) ×
    IsKept desk seats report × IsDiffering report.views.items report.journal actor
differing_is desk seats actor fault = by fault.0 fault.1
  where
    by : (kept : Option Report) → IsUnreported desk seats (Differs actor) kept → (report : Report) × IsKept desk seats report ×
        IsDiffering report.views.items report.journal actor
    by (Some report) is = (report, is.0, is.1)
    by None is = absurd is
