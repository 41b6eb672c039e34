-- The store that the environment names, and the radios that were registered when a site was last served, as it has them.
use Rattle.std.specs.Prelude.{◌≡◌, ◌⊎◌, ℕ, List, [], Option, None, Some}
use Rattle.dmr_keeper.specs.declared.keeper.KeepFault.{KeepFault}
use Rattle.dmr_keeper.specs.declared.keeper.KeepFault.TheVariants.{InUse}
use Rattle.dmr_trunk.specs.declared.store.Stored.{Stored}
use Rattle.dmr_trunk.specs.declared.store.Stored.TheVariants.{In, NotText, Nowhere}

-- what is named, if anything is; `None` if its name is not text
abbrev pub named_in : {K : Type 0} → Stored K → Option (Option K)
named_in Nowhere = Some None
named_in (In store) = Some (Some store)
named_in NotText = None

-- the variable whose value is not text, if one is: that of the script, or else that of the folder of the records
abbrev pub unnamed_in : {K W : Type 0} → List ℕ → List ℕ → Stored K → Stored W → Option (List ℕ)
unnamed_in folder script records NotText = Some script
unnamed_in folder script NotText recording = Some folder
unnamed_in folder script records recording = None

-- a store was asked for them some times, and each time another program had its file open
pub data WasInUse {K : Type 0} (cannot_read : K → KeepFault → K → Type 0) : K → K → Type 0 where
  at_first : (store : K) → WasInUse cannot_read store store
  again : (before between after : K) → WasInUse cannot_read before between
      → cannot_read between InUse after → WasInUse cannot_read before after

-- then it was asked again, and these are the radios that it read
pub record AreFound {K : Type 0} (reads : K → List ℕ → K → Type 0)
    (cannot_read : K → KeepFault → K → Type 0) (before : K) (radios : List ℕ) (after : K) : Type 0 where
  pub asked : K
  pub was_in_use : WasInUse cannot_read before asked
  pub read : reads asked radios after

-- then it was asked again, and could not read them
pub record AreNotFound {K : Type 0} (cannot_read : K → KeepFault → K → Type 0) (before : K)
    (fault : KeepFault) (after : K) : Type 0 where
  pub asked : K
  pub was_in_use : WasInUse cannot_read before asked
  pub cannot : cannot_read asked fault after

-- a site begins with the radios that the store read, or with none if it could not read them
abbrev pub AreRestored : {K : Type 0} → (K → List ℕ → K → Type 0) → (K → KeepFault → K → Type 0)
    → K → List ℕ → K → Type 0
AreRestored reads cannot_read before radios after = AreFound reads cannot_read before radios after
    ⊎ ((radios ≡ []) × (fault : KeepFault) × AreNotFound cannot_read before fault after)
