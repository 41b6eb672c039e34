-- What a store kept in steps.
use Rattle.std.proofs.Common.{◌≡◌, List, [], ◌∷◌, ◌++◌, Option, refl, sym, ◌∙◌, ap}
use Rattle.dmr_keeper.specs.declared.time.TimedRecords.{TimedRecords}
use Rattle.dmr_keeper.specs.Kept.{Kept, Keeps, kept_with, kept_with_all}

-- in no step nothing
pub keeps_nothing : (before : Option Kept) → Keeps before [] before
keeps_nothing before = record { follows = λ whole same. (whole, same, refl) }

kept_on : (kept : Kept) (first second : List TimedRecords) → kept_with_all kept (first ++ second) ≡ kept_with_all
    (kept_with_all kept first) second
kept_on kept [] second = refl
kept_on kept (term ∷ first) second = kept_on (kept_with kept term) first second

-- in two steps the records of the first, and then those of the second
pub keeps_more : (before between after : Option Kept) (first second : List TimedRecords) → Keeps before first between →
    Keeps between second after → Keeps before (first ++ second) after
keeps_more before between after first second one two = record {
  follows = λ whole same.
      let last = two.follows whole same in
      let begun = one.follows last.0 last.1 in
      (begun.0, begun.1, last.2 ∙ ap (λ (kept : Kept). kept_with_all kept second) begun.2 ∙ sym (kept_on begun.0 first second));
}
