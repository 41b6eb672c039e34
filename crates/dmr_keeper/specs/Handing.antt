-- Handing records over to a store.
use Rattle.std.specs.Prelude.{◌≡◌, ◌-◌, List, ◌∷◌, ◌++◌, Option, length, drop}
use Rattle.dmr_keeper.specs.declared.keeper.KeepFault.{KeepFault}
use Rattle.dmr_keeper.specs.declared.time.TimedRecords.{TimedRecords}
use Rattle.dmr_keeper.specs.Kept.{Kept, Keeps}

-- as many of these records as may wait: those of the newest 1,000 terms
abbrev pub newest : List TimedRecords → List TimedRecords
newest terms = drop (length terms - 1000) terms

-- of the records that waited, the store kept the oldest, each once and in their order; the others still wait
pub record AreHandedOver (before : Option Kept) (old new : List TimedRecords)
    (after : Option Kept) : Type 0 where
  pub handed : List TimedRecords
  pub all : old ≡ handed ++ new
  pub kept : Keeps before handed after

-- of the records that waited, the store kept the oldest, and then refused the next with this fault; those and the later
-- ones still wait
abbrev pub IsRefused : {K : Type 0} → (K → Option Kept) → (K → TimedRecords → KeepFault → Type 0)
    → K → List TimedRecords → List TimedRecords → KeepFault → Type 0
IsRefused {K} kept refuses before old new fault =
    (handed : List TimedRecords) × (store : K) × (term : TimedRecords) × (later : List TimedRecords)
    × (old ≡ handed ++ new) × Keeps (kept before) handed (kept store)
    × (new ≡ term ∷ later) × refuses store term fault
