-- The site of a plan is served: what is opened for it, then the terms, and what remains.
use Rattle.std.proofs.Common.{◌≡◌, ℕ, List, [], Bool, Option, None, Result, Ok, Err, IfErr, IfOk, IsOk, IsOkAnd, MatchResult, OnOk, sym}
use Rattle.std.proofs.Common.{◌∙◌, ap, subst}
use Rattle.std.proofs.lemmas.Bool.{false≢true}
use Rattle.dmr_core.specs.Restored.{restored}
use Rattle.dmr_core.specs.State.{SiteState}
use Rattle.dmr_plan.specs.declared.settings.Settings.{Settings}
use Rattle.dmr_link.specs.declared.desk.OpenGate.{OpenGate}
use Rattle.dmr_port.specs.declared.witness.NoWitness.{NoWitness}
use Rattle.dmr_port.specs.PortState.{PortState}
use Rattle.dmr_desk.specs.declared.fault.OpenFault.TheVariants as open_fault
use Rattle.dmr_desk.specs.declared.fault.TermFault.TheVariants.{Open}
use Rattle.dmr_desk.specs.Term.{Start}
use Rattle.dmr_desk.specs.Terms.{Fits}
use Rattle.dmr_keeper.specs.declared.keeper.KeepFault.{KeepFault}
use Rattle.dmr_keeper.specs.declared.time.TimedRecords.{TimedRecords}
use Rattle.dmr_keeper.specs.Carried.{Carry}
use Rattle.dmr_keeper.specs.Kept.{Kept}
use Rattle.dmr_command.specs.declared.fault.ServeFault.{ServeFault}
use Rattle.dmr_command.specs.declared.fault.ServeFault.TheVariants.{Term}
use Rattle.dmr_trunk.specs.declared.holding.Keeping.{Keeping}
use Rattle.dmr_trunk.specs.declared.not_served.NotServed.{NotServed}
use Rattle.dmr_trunk.specs.declared.not_served.NotServed.TheVariants.{CannotListen, NoPoll, OutOfMemory}
use Rattle.dmr_trunk.specs.declared.pacer.ClockPacer.{ClockPacer}
use Rattle.dmr_trunk.specs.declared.row.Books.{Books}
use Rattle.dmr_trunk.specs.declared.row.Stopped.{Stopped}
use Rattle.dmr_trunk.specs.declared.serve.Remains.{Remains}
use Rattle.dmr_trunk.specs.Faults.{IsServeFault, MayFail, fault_of_opening}
use Rattle.dmr_trunk.specs.Opened.{IsFirstService, ProgramService, start_of}
use Rattle.dmr_trunk.specs.Restart.{AreRestored}
use Rattle.dmr_trunk.specs.Served.{HasLeft, HaveServed, HaveStoppedServing, IsSiteServed, IsServedAgain, start_in_row, terms_asked}
use Rattle.dmr_trunk.specs.Stored.{AreNewBooks, carried_by, carried_if_wanted, idle_store}
use Rattle.dmr_trunk.proofs.TermsFit.{stopped_may_fail}

-- ---- the terms

-- what is known of terms whose observer reports no record, when their last service has been dropped
abbrev AreRun : {S K : Type 0} → (K → Option Kept) → (K → TimedRecords → KeepFault → Type 0) → Start → ℕ → Option Carry → Keeping K →
    List TimedRecords → Result S Stopped → Keeping K → Type 0
AreRun kept refuses start terms carried first waiting result last =
    OnOk result ((next : Start) × HaveServed kept refuses start (terms_asked terms) next None None carried first waiting last)
    × IfErr result (λ (stopped : Stopped). HaveStoppedServing kept refuses start
    (terms_asked terms) stopped.done stopped.fault None None carried first waiting last)
    × IfErr result (λ (stopped : Stopped). stopped.fault ≡ Open open_fault.OutOfMemory → stopped.done ≡ 0)

module _ {K : Type 0} (kept : K → Option Kept) (refuses : K → TimedRecords → KeepFault → Type 0) (start : Start) (terms : ℕ)
    (carried : Option Carry) (first : Keeping K) (waiting : List TimedRecords) where
  run_of : {S : Type 0} (begin : S → Start) (result : Result S Stopped) (last : Keeping K) →
      IfOk result (λ (next : S). HaveServed kept refuses start (terms_asked terms) (begin next) None None carried first waiting last)
      → IfErr result (λ (stopped : Stopped). HaveStoppedServing kept refuses start
      (terms_asked terms) stopped.done stopped.fault None None carried first waiting last) →
      IfErr result (λ (stopped : Stopped). stopped.fault ≡ Open open_fault.OutOfMemory → stopped.done ≡ 0)
      → AreRun kept refuses start terms carried first waiting result last
  run_of begin (Ok next) last run fault memory = ((begin next, run), tt, tt)
  run_of begin (Err stopped) last run fault memory = (tt, fault, memory)

  run_left : {S T : Type 0} (result : Result S Stopped) (left : Result T Stopped) (last : Keeping K) →
      MatchResult result (λ (service : S). IsOk left) (λ (stopped : Stopped). left ≡ Err stopped) →
      AreRun kept refuses start terms carried first waiting result last
      → AreRun kept refuses start terms carried first waiting left last
  run_left (Ok service) (Ok done) last same run = (run.0, tt, tt)
  run_left (Ok service) (Err fault) last same run = absurd (false≢true same)
  run_left {T = T} (Err stopped) left last same run =
      let P : Result T Stopped → Type 0 = λ l. AreRun kept refuses start terms carried first waiting l last in
      subst P (sym same) (tt, run.1, run.2)

  may_fail : {S : Type 0} (result : Result S Stopped) (last : Keeping K) → Fits start →
      IfErr result (λ (stopped : Stopped). HaveStoppedServing kept refuses start
      (terms_asked terms) stopped.done stopped.fault None None carried first waiting last)
      → IfErr result (λ (stopped : Stopped). MayFail stopped.fault)
  may_fail (Ok left) last fits fault = tt
  may_fail (Err stopped) last fits fault = stopped_may_fail start (terms_asked terms) stopped.done stopped.fault None None fits fault.0

module _ {R O K : Type 0} (kept : K → Option Kept) (refuses : K → TimedRecords → KeepFault → Type 0) (wants : K → Bool) (plan : Settings)
    (radios : List ℕ) (store : K) (terms : ℕ) (first : ProgramService R) (opened : IsFirstService plan radios first)
    (fits : Fits (start_of first)) where
  -- what is left of a service of the program, whose ports, gates, clock and observer report no record
  abbrev IsLeftBy : Books K R → O → Remains K → Type 0
  IsLeftBy books observer left =
      HasLeft (λ (port : PortState NoWitness). None) (λ (gate : OpenGate). None) (λ (pacer : ClockPacer R). None)
      (λ (port : PortState NoWitness). None) (λ (seer : O). None) kept refuses first observer books terms left

  site_served : (books : Books K R) (observer : O) (left : Remains K) → AreNewBooks wants first.site.facts.registered store books →
      IsLeftBy books observer left → IsSiteServed R kept refuses wants plan radios store terms left
  site_served books observer left new is =
      let start = start_of first in
      let wanted = carried_if_wanted (wants store) (restored plan radios) in
      let last = is.ran.keeping in
      let ran : AreRun kept refuses start terms (carried_by books) books.keeping books.waiting.queue is.ran.result last =
      run_of kept refuses start terms (carried_by books) books.keeping books.waiting.queue
      (start_in_row (λ port. None) (λ gate. None) (λ pacer. None) (λ port. None) first) is.ran.result last is.served.run is.served.fault
      is.served.memory in
      let run : AreRun kept refuses start terms (carried_by books) books.keeping books.waiting.queue left.result last =
      run_left kept refuses start terms (carried_by books) books.keeping books.waiting.queue is.ran.result left.result last is.ended
      ran in
      let same : first.site.facts.registered ≡ restored plan radios = ap (λ (site : SiteState). site.facts.registered) opened.site in
      let P : Option Carry → Type 0 = λ carried. AreRun kept refuses start terms carried books.keeping books.waiting.queue left.result
      last in
      let Q : Keeping K → Type 0 = λ keeping. AreRun kept refuses start terms wanted keeping books.waiting.queue left.result last in
      let S : List TimedRecords → Type 0 = λ waiting. AreRun kept refuses start terms wanted (idle_store store) waiting left.result last in
      let T : Keeping K → Type 0 = λ keeping. AreRun kept refuses start terms wanted (idle_store store) [] left.result keeping in
      let all = subst T (sym is.keeping)
      (subst S new.waiting (subst Q new.keeping (subst P (new.carried ∙ ap (carried_if_wanted (wants store)) same) run))) in
      record {
        first = first;
        opened = opened;
        run = all.0;
        fault = all.1;
        memory = all.2;
        may_fail = may_fail kept refuses start terms wanted (idle_store store) [] left.result left.keeping fits all.1;
      }

  -- the same, if all was opened
  pub served_if_opened : {A E F : Type 0} (books : A → Books K R) (observer : A → O) (rest : Result A E) (result : Result (Remains K) F) →
      IfOk rest (λ (r : A). AreNewBooks wants first.site.facts.registered store (books r))
      → IfOk result (λ (left : Remains K). IsOkAnd rest (λ (r : A). IsLeftBy (books r) (observer r) left)) →
      IfOk result (IsSiteServed R kept refuses wants plan radios store terms)
  served_if_opened books observer (Ok r) (Ok left) new is = site_served (books r) (observer r) left new is
  served_if_opened books observer (Err fault) (Ok left) new is = absurd is
  served_if_opened books observer rest (Err fault) new is = tt

pub ok_and : {A E : Type 0} (P : A → Type 0) (result : Result A E) (x : A) → result ≡ Ok x → P x → IsOkAnd result P
ok_and P result x same holds = subst (λ r. IsOkAnd r P) (sym same) holds

-- the store was asked first which radios were registered before
pub served_again : {K E : Type 0} (R : Type 0) (reads : K → List ℕ → K → Type 0) (cannot_read : K → KeepFault → K → Type 0)
    (kept : K → Option Kept) (refuses : K → TimedRecords → KeepFault → Type 0) (wants : K → Bool) (plan : Settings) (store asked : K)
    (terms : ℕ) (radios slice : List ℕ) (result : Result (Remains K) E) → slice ≡ radios → AreRestored reads cannot_read store radios asked
    → IfOk result (IsSiteServed R kept refuses wants plan slice asked terms) →
    IfOk result (IsServedAgain R reads cannot_read kept refuses wants plan store terms)
served_again R reads cannot_read kept refuses wants plan store asked terms radios slice (Ok left) same read served =
    let P : List ℕ → Type 0 = λ these. IsSiteServed R kept refuses wants plan these asked terms left in
    record { radios = radios; asked = asked; read = read; served = subst P same served }
served_again R reads cannot_read kept refuses wants plan store asked terms radios slice (Err fault) same read served = tt

-- ---- the faults of serving

pub opening_may_fail : (fault : NotServed) → IsServeFault (fault_of_opening fault)
opening_may_fail (CannotListen port) = tt
opening_may_fail NoPoll = tt
opening_may_fail OutOfMemory = tt

pub left_may_fail : {S T : Type 0} (left : Result S Stopped) (result : Result T ServeFault) →
    MatchResult left (λ (done : S). IsOk result) (λ (stopped : Stopped). result ≡ Err (Term stopped.fault)) →
    IfErr left (λ (stopped : Stopped). MayFail stopped.fault) → IfErr result IsServeFault
left_may_fail (Ok done) (Ok nothing) same may = tt
left_may_fail (Ok done) (Err fault) same may = absurd (false≢true same)
left_may_fail {T = T} (Err stopped) result same may =
    let P : Result T ServeFault → Type 0 = λ r. IfErr r IsServeFault in
    subst P (sym same) may
