-- When there is no term.
use Rattle.std.specs.Prelude.{◌≡◌, ◌≢◌, ◌<◌, ℕ, zero, suc, ◌+◌, ltb, Bool, true, false, List, []}
use Rattle.std.specs.Prelude.{◌∷◌}
use Rattle.std.specs.Prelude.{Option, Some}
use Rattle.std.specs.Prelude.{None, map, length, slice_get, if◌then◌else◌}
use Rattle.dmr_core.specs.Facts.{has_carrier}
use Rattle.dmr_pdu.specs.Slots.{carriers_of_site}
use Rattle.dmr_plan.specs.declared.settings.Settings.{Settings}
use Rattle.dmr_link.specs.declared.stream.Peer.{Peer}
use Rattle.dmr_link.specs.declared.stream.Peer.TheVariants.{Carrier, Operator}
use Rattle.dmr_desk.specs.declared.ending.Ending.{Ending}
use Rattle.dmr_desk.specs.declared.ending.Ending.TheVariants as ending
use Rattle.dmr_desk.specs.declared.fault.CloseFault.TheVariants.{Differs}
use Rattle.dmr_desk.specs.declared.fault.OpenFault.TheVariants.{BadLimit, BadActors, OutOfMemory}
use Rattle.dmr_desk.specs.declared.fault.TermFault.{TermFault}
use Rattle.dmr_desk.specs.declared.fault.TermFault.TheVariants.{BadStations, Open, NoThread, Audit}
use Rattle.dmr_desk.specs.declared.fault.TermFault.TheVariants.{Early}
use Rattle.dmr_desk.specs.Audited.{IsDiffering}
use Rattle.dmr_desk.specs.Opening.{IsLimit}
use Rattle.dmr_desk.specs.Term.{Start, End, HasEnded, HasRun}
use Rattle.dmr_desk.specs.Work.{StationState}

-- the carrier numbers of the plan among the `many` numbers that begin with `n`, least first
abbrev pub numbers_from : Settings → ℕ → ℕ → List ℕ
numbers_from plan zero n = []
numbers_from plan (suc many) n =
    if has_carrier plan n then n ∷ numbers_from plan many (n + 1)
    else numbers_from plan many (n + 1)

-- the numbers of the plan's carriers, least first
abbrev pub carrier_numbers : Settings → List ℕ
carrier_numbers plan = numbers_from plan carriers_of_site 0

-- the carrier of a link
abbrev pub carrier_of_peer : Peer → Option ℕ
carrier_of_peer (Carrier who) = Some who.carrier
carrier_of_peer Operator = None

-- there is one station for each carrier of the plan, by number
abbrev pub AreStations : Settings → List StationState → Type 0
AreStations plan stations =
    map (λ (s : StationState). carrier_of_peer s.link.who) stations
    ≡ map (λ (n : ℕ). Some n) (carrier_numbers plan)

-- all actors have done their part, and this is the least actor that ended because the term was over although the
-- journal was below its limit
pub record IsEarly (start : Start) (end : End) (actor : ℕ) : Type 0 where
  pub run : HasRun start end
  pub below : length end.journal < start.limit
  pub reported : slice_get end.ends actor ≡ Some ending.TermOver
  pub least : (lower : ℕ) → lower < actor → slice_get end.ends lower ≢ Some ending.TermOver

-- all actors have done their part, and this is the least actor whose view differs from the journal's list for it
pub record IsUnaudited (start : Start) (end : End) (actor : ℕ) : Type 0 where
  pub ended : HasEnded start end
  pub differs : IsDiffering end.views end.journal actor

-- why a term that ended so is not returned
abbrev pub IsLate : Start → TermFault → End → Type 0
IsLate start (Audit (Differs actor)) end = IsUnaudited start end actor
IsLate start (Early actor) end = IsEarly start end actor
IsLate start fault end = ⊥

-- a fault that applies if the stations are right; the first one
abbrev pub IsFaultFor : Start → TermFault → Type 0
IsFaultFor start BadStations = ⊥
IsFaultFor start (Open BadLimit) = ¬ IsLimit start.limit
IsFaultFor start (Open BadActors) = ⊥
IsFaultFor start (Open OutOfMemory) = IsLimit start.limit
IsFaultFor start NoThread = IsLimit start.limit
IsFaultFor start fault = IsLimit start.limit × (end : End) × IsLate start fault end

-- why there is no term: the first fault that applies
abbrev pub IsTermFault : Start → TermFault → Type 0
IsTermFault start BadStations = ¬ AreStations start.site.plan start.stations
IsTermFault start fault = AreStations start.site.plan start.stations × IsFaultFor start fault

-- what is left of the arguments of a term: at a fault that is found before a thread is started, all of them; at the
-- others nothing
abbrev pub left_at : {A : Type 0} → TermFault → A → Option A
left_at BadStations given = Some given
left_at (Open fault) given = Some given
left_at NoThread given = None
left_at (Audit fault) given = None
left_at (Early actor) given = None

-- whether a fault is found when all workers have ended
abbrev pub is_late : TermFault → Bool
is_late (Audit fault) = true
is_late (Early actor) = true
is_late fault = false

-- the end of a term that is handed back with this fault: at a fault that is found when all workers have ended, the end
-- to which it applies; at the others nothing
abbrev pub IsEndAt : Start → TermFault → Option End → Type 0
IsEndAt start fault (Some end) = IsLate start fault end
IsEndAt start fault None = is_late fault ≡ false

-- ---- on the way

-- the first actor that ended because the term was over
abbrev pub first_over : ℕ → List Ending → Option ℕ
first_over n [] = None
first_over n (ending.TermOver ∷ es) = Some n
first_over n (e ∷ es) = first_over (n + 1) es

-- the least actor that ended because the term was over although the journal is below its limit
abbrev pub early_actor : ℕ → ℕ → List Ending → Option ℕ
early_actor entries limit ends = if ltb entries limit then first_over 0 ends else None
