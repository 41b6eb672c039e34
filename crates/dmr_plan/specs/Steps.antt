-- Steps in order, up to the first fault.
use Rattle.std.specs.Prelude.{◌≡◌, Result, Ok, Err}
use Rattle.dmr_plan.specs.declared.fault.PlanFault.{PlanFault}
use Rattle.dmr_plan.specs.declared.fault.PlanFault.TheVariants.{NotToml, OutOfMemory}

-- the next step, unless this one is a fault
infixl 10 ◌>>=◌
abbrev pub ◌>>=◌ : {A B : Type 0} → Result A PlanFault → (A → Result B PlanFault)
    → Result B PlanFault
(Ok x) >>= f = f x
(Err e) >>= f = Err e

-- the result of a function, seen by view, is that of the definition
abbrev pub Returns : {X Y : Type 0} → (X → Y) → Result X PlanFault → Result Y PlanFault → Type 0
Returns view (Ok x) read = read ≡ Ok (view x)
Returns view (Err e) read = read ≡ Err e

-- the fault is that of a key, and not of the text as a whole
abbrev pub IsOfKey : PlanFault → Type 0
IsOfKey NotToml = ⊥
IsOfKey OutOfMemory = ⊥
IsOfKey _ = Unit {0}
