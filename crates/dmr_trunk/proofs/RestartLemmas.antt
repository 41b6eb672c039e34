-- The radios that were registered when a site was last served.
use Rattle.std.proofs.Common.{ℕ, List, Result, Ok, Err, IfErr, IfOk}
use Rattle.dmr_keeper.specs.declared.keeper.KeepFault.{KeepFault}
use Rattle.dmr_trunk.specs.Restart.{WasInUse, AreFound, AreNotFound}

pub found : {K A : Type 0} (reads : K → List ℕ → K → Type 0) (cannot_read : K → KeepFault → K → Type 0) (before asked after : K)
    (items : A → List ℕ) (result : Result A KeepFault) → WasInUse cannot_read before asked →
    IfOk result (λ radios. reads asked (items radios) after) → IfOk result
    (λ radios. AreFound reads cannot_read before (items radios) after)
found reads cannot_read before asked after items (Ok radios) waited read = record { asked = asked; was_in_use = waited; read = read }
found reads cannot_read before asked after items (Err fault) waited read = tt

pub not_found : {K A : Type 0} (cannot_read : K → KeepFault → K → Type 0) (before asked after : K) (result : Result A KeepFault) →
    WasInUse cannot_read before asked → IfErr result (λ fault. cannot_read asked fault after) →
    IfErr result (λ fault. AreNotFound cannot_read before fault after)
not_found cannot_read before asked after (Ok radios) waited cannot = tt
not_found cannot_read before asked after (Err fault) waited cannot = record { asked = asked; was_in_use = waited; cannot = cannot }
