-- What serving opens has a station for each carrier of the plan, by number, and its first term can begin.
use Rattle.std.proofs.Common.{◌≡◌, ℕ, zero, suc, ◌+◌, List, [], ◌∷◌, ◌++◌, Bool, true, false, Option, None, Some, IsSomeAnd, Result, Ok}
use Rattle.std.proofs.Common.{Err, IfOk, OnOk, map, refl, sym, ◌∙◌, ap, subst, arith, add-zero, if◌then◌else◌}
use Rattle.dmr_plan.specs.declared.carriers.CarrierRow.{CarrierRow}
use Rattle.dmr_plan.specs.declared.settings.Settings.{Settings}
use Rattle.dmr_plan.specs.Carriers.{row_with}
use Rattle.dmr_plan.specs.IsPlan.{IsPlan}
use Rattle.dmr_core.specs.Facts.{Facts, has_carrier}
use Rattle.dmr_core.specs.State.{SiteState}
use Rattle.dmr_link.specs.declared.desk.OpenGate.{OpenGate}
use Rattle.dmr_port.specs.declared.witness.NoWitness.{NoWitness}
use Rattle.dmr_port.specs.PortState.{PortState}
use Rattle.dmr_desk.specs.declared.station.Station.{Station}
use Rattle.dmr_desk.specs.Opening.{IsLimit}
use Rattle.dmr_desk.specs.Refusing.{AreStations, carrier_numbers, carrier_of_peer, numbers_from}
use Rattle.dmr_desk.specs.Service.{states_of}
use Rattle.dmr_desk.specs.Work.{StationState}
use Rattle.dmr_trunk.specs.Opened.{AreNewStations, IsNewStation, IsNewStationOf, with_number}

-- ---- the carriers by number

choices_on : (b c : Bool) (k x : ℕ) (ns : List ℕ) → (if b then k ∷ (if c then ns ++ x ∷ [] else ns) else (if c then ns ++ x ∷ [] else ns)) ≡
    (if c then (if b then k ∷ ns else ns) ++ x ∷ [] else (if b then k ∷ ns else ns))
choices_on true true k x ns = refl
choices_on true false k x ns = refl
choices_on false true k x ns = refl
choices_on false false k x ns = refl

-- one number more, at the end
pub numbers_on : (plan : Settings) (m k : ℕ) → numbers_from plan (suc m) k ≡ with_number plan (numbers_from plan m k) (k + m)
numbers_on plan zero k = ap (λ (n : ℕ). if has_carrier plan n then n ∷ [] else []) (sym (add-zero k))
numbers_on plan (suc m) k =
    let ns = numbers_from plan m (k + 1) in
    let same : k + 1 + m ≡ k + suc m = omega arith in
    ap (λ (rest : List ℕ). if has_carrier plan k then k ∷ rest else rest) (numbers_on plan m (k + 1))
    ∙ choices_on (has_carrier plan k) (has_carrier plan (k + 1 + m)) k (k + 1 + m) ns
    ∙ ap (with_number plan (numbers_from plan (suc m) k)) same

-- ---- stations

pub stations_more : (plan : Settings) (numbers : List ℕ) (stations : List (Station (PortState NoWitness) OpenGate)) (number : ℕ)
    (station : Station (PortState NoWitness) OpenGate) → AreNewStations plan numbers stations → IsNewStationOf plan number station
    → AreNewStations plan (numbers ++ number ∷ []) (stations ++ station ∷ [])
stations_more plan [] [] number station are is = (is, tt)
stations_more plan (n ∷ numbers) (s ∷ stations) number station are is = (are.0, stations_more plan numbers stations number station are.1 is)
stations_more plan [] (s ∷ stations) number station are is = absurd are
stations_more plan (n ∷ numbers) [] number station are is = absurd are

-- the carrier is not one of the plan's
pub no_station : (plan : Settings) (numbers : List ℕ) (stations : List (Station (PortState NoWitness) OpenGate)) (number : ℕ) →
    has_carrier plan number ≡ false → AreNewStations plan numbers stations → AreNewStations plan (with_number plan numbers number) stations
no_station plan numbers stations number none are =
    let P : Bool → Type 0 = λ has. AreNewStations plan (if has then numbers ++ number ∷ [] else numbers) stations in
    subst P (sym none) are

-- the carrier is one of the plan's, and this is its station
pub one_station : (plan : Settings) (numbers : List ℕ) (old new : List (Station (PortState NoWitness) OpenGate)) (number : ℕ)
    (station : Station (PortState NoWitness) OpenGate) → has_carrier plan number ≡ true → IsNewStationOf plan number station →
    new ≡ old ++ station ∷ []
    → AreNewStations plan numbers old → AreNewStations plan (with_number plan numbers number) new
one_station plan numbers old new number station has is same are =
    let P : Bool → Type 0 = λ has. AreNewStations plan (if has then numbers ++ number ∷ [] else numbers) new in
    let Q : List (Station (PortState NoWitness) OpenGate) → Type 0 = λ stations. AreNewStations plan (numbers ++ number ∷ []) stations in
    subst P (sym has) (subst Q (sym same) (stations_more plan numbers old number station are is))

-- a list with the station at its end, if it could be appended
pub station_then : {T E : Type 0} (plan : Settings) (old new : List (Station (PortState NoWitness) OpenGate)) (number : ℕ)
    (row : CarrierRow) (station : Station (PortState NoWitness) OpenGate) (result : Result T E) →
    Some row ≡ row_with plan.lists.carriers number → true ≡ has_carrier plan number → IsNewStation plan number row.lpcn station →
    OnOk result (new ≡ old ++ station ∷ [])
    → OnOk result ((numbers : List ℕ) → AreNewStations plan numbers old → AreNewStations plan (with_number plan numbers number) new)
station_then plan old new number row station (Ok done) found has is same =
    let P : Option CarrierRow → Type 0 = λ it. IsSomeAnd it (λ (r : CarrierRow). IsNewStation plan number r.lpcn station) in
    λ numbers are. one_station plan numbers old new number station (sym has) (subst P found is) same are
station_then plan old new number row station (Err fault) found has is same = tt

carrier_of_new : (plan : Settings) (number : ℕ) (found : Option CarrierRow) (station : Station (PortState NoWitness) OpenGate) →
    IsSomeAnd found (λ (row : CarrierRow). IsNewStation plan number row.lpcn station) → carrier_of_peer station.link.who ≡ Some number
carrier_of_new plan number None station is = absurd is
carrier_of_new plan number (Some row) station is = ap carrier_of_peer is.link.who

stations_by_number : (plan : Settings) (numbers : List ℕ) (stations : List (Station (PortState NoWitness) OpenGate)) →
    AreNewStations plan numbers stations
    → map (λ (s : StationState). carrier_of_peer s.link.who) (states_of (λ port. None) (λ gate. None) stations) ≡ map
    (λ (n : ℕ). Some n) numbers
stations_by_number plan [] [] are = refl
stations_by_number plan (n ∷ numbers) (station ∷ stations) are =
    let here = carrier_of_new plan n (row_with plan.lists.carriers n) station are.0 in
    let rest = stations_by_number plan numbers stations are.1 in
    (λ i. here i ∷ rest i)
stations_by_number plan [] (s ∷ stations) are = absurd are
stations_by_number plan (n ∷ numbers) [] are = absurd are

-- ---- the first term

-- what is ensured of a result, if it is this
pub at_ok : {A E : Type 0} (P : A → Type 0) (r : Result A E) (x : A) → r ≡ Ok x → IfOk r P → P x
at_ok P r x is given = subst (λ s. IfOk s P) is given

pub first_fits : (plan : Settings) (facts : Facts) (site : SiteState) (stations : List (Station (PortState NoWitness) OpenGate)) →
    IsPlan plan → site ≡ record { plan = plan; facts = facts } → AreNewStations plan (carrier_numbers plan) stations
    → AreStations site.plan (states_of (λ port. None) (λ gate. None) stations) × IsLimit site.plan.serving.term_entries
first_fits plan facts site stations whole same are =
    let P : Settings → Type 0 = λ p. AreStations p (states_of (λ port. None) (λ gate. None) stations) × IsLimit p.serving.term_entries in
    subst P (sym (ap (λ (s : SiteState). s.plan) same))
    (stations_by_number plan (carrier_numbers plan) stations are, whole.serving.term_entries)
