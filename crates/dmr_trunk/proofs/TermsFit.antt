-- If a term can begin, each later one can, and it fails for no other reason than `MayFail` says.
use Rattle.std.proofs.Common.{◌≡◌, ℕ, List, [], ◌∷◌, Option, Some, map, sym, ◌∙◌, ap, subst, arith}
use Rattle.std.proofs.lemmas.Option.{slice_get_within}
use Rattle.dmr_core.specs.declared.entry.Entry.{Entry}
use Rattle.dmr_core.specs.State.{SiteState}
use Rattle.dmr_plan.specs.declared.settings.Settings.{Settings}
use Rattle.dmr_desk.specs.declared.fault.CloseFault.TheVariants.{Differs, SeatMissing}
use Rattle.dmr_desk.specs.declared.fault.OpenFault.TheVariants.{BadActors, BadLimit, OutOfMemory}
use Rattle.dmr_desk.specs.declared.fault.TermFault.{TermFault}
use Rattle.dmr_desk.specs.declared.fault.TermFault.TheVariants.{Audit, BadStations, Early, NoThread, Open}
use Rattle.dmr_desk.specs.Refusing.{IsTermFault, carrier_numbers, carrier_of_peer}
use Rattle.dmr_desk.specs.Term.{End, IsTerm, Start}
use Rattle.dmr_desk.specs.Terms.{AreTerms, Fits, HaveStopped, next_start, start_after}
use Rattle.dmr_desk.specs.Work.{StationState}
use Rattle.dmr_trunk.specs.Faults.{MayFail}
use Rattle.dmr_pdu.proofs.ListLaws.{get_within, same_by_place}
use Rattle.dmr_desk.proofs.TermLaws.{limit_stays}

-- ---- lists by place

-- ---- terms

abbrev carrier : StationState → Option ℕ
carrier s = carrier_of_peer s.link.who

-- a worker's link stays that of its carrier
carriers_stay : (start : Start) (end : End) → IsTerm start end → map carrier end.stations ≡ map carrier start.stations
carriers_stay start end is =
    let run = is.run.ended in
    same_by_place carrier start.stations end.stations run.handed_back (λ k s t here there.
    let low = slice_get_within start.stations k s here in
    let ended = run.all_ended in
    let many = run.actors in
    let ending = get_within end.ends k (omega arith) in
    let view = get_within end.views k (omega arith) in
    ap carrier_of_peer (run.carriers k s t ending.0 view.0 here there ending.1 view.1).1.who)

next_fits : (start : Start) (end : End) → Fits start → IsTerm start end → Fits (next_start start.limit end)
next_fits start end fits is =
    let plan : end.site.plan ≡ start.site.plan = ap (λ (s : SiteState). s.plan) is.run.ended.site in (
      carriers_stay start end is ∙ fits.0 ∙ ap (λ (p : Settings). map (λ (n : ℕ). Some n) (carrier_numbers p)) (sym plan),
      fits.1,
    )

later_fits : (start : Start) (ends : List End) → AreTerms start ends → Fits start → Fits (start_after start ends)
later_fits start [] are fits = fits
later_fits start (end ∷ earlier) are fits =
    let P : ℕ → Type 0 = λ limit. Fits (next_start limit end) in
    subst P (limit_stays start earlier) (next_fits (start_after start earlier) end (later_fits start earlier are.1 fits) are.0)

fault_may_be : (start : Start) (fault : TermFault) → Fits start → IsTermFault start fault → MayFail fault
fault_may_be start BadStations fits is = is fits.0
fault_may_be start (Open BadLimit) fits is = is.1 fits.1
fault_may_be start (Open BadActors) fits is = is.1
fault_may_be start (Open OutOfMemory) fits is = tt
fault_may_be start NoThread fits is = tt
fault_may_be start (Audit (SeatMissing actor)) fits is = is.1.2
fault_may_be start (Audit (Differs actor)) fits is = tt
fault_may_be start (Early actor) fits is = tt

pub stopped_may_fail : (start : Start) (terms done : ℕ) (fault : TermFault) (before after : Option (List (List Entry))) → Fits start →
    HaveStopped start terms done fault before after → MayFail fault
stopped_may_fail start terms done fault before after fits stopped =
    let P : Start → Type 0 = λ s. Fits s in
    fault_may_be stopped.next fault (subst P (sym stopped.run.next_is) (later_fits start stopped.run.ends stopped.run.are fits)) stopped.why
