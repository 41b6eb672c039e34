-- Terms that are served in a row: how many, what the store received of them, and what became of them.
use Rattle.std.specs.Prelude.{◌≡◌, ℕ, zero, suc, List, [], ◌++◌, Bool, Option, None, Err, IfErr, IfOk, IsOk, MatchResult, OnOk}
use Rattle.dmr_core.specs.declared.entry.Entry.{Entry}
use Rattle.dmr_core.specs.Restored.{restored}
use Rattle.dmr_plan.specs.declared.settings.Settings.{Settings}
use Rattle.dmr_wire.specs.Answers.{Answer}
use Rattle.dmr_link.specs.Passages.{Passage}
use Rattle.dmr_desk.specs.declared.fault.OpenFault.TheVariants.{OutOfMemory}
use Rattle.dmr_desk.specs.declared.fault.TermFault.{TermFault}
use Rattle.dmr_desk.specs.declared.fault.TermFault.TheVariants.{Open}
use Rattle.dmr_desk.specs.declared.service.Service.{Service}
use Rattle.dmr_desk.specs.Pace.{Paced}
use Rattle.dmr_desk.specs.Service.{start_at}
use Rattle.dmr_desk.specs.Term.{Start}
use Rattle.dmr_desk.specs.Terms.{HaveRun, HaveStopped, journals_of}
use Rattle.dmr_keeper.specs.declared.keeper.KeepFault.{KeepFault}
use Rattle.dmr_keeper.specs.declared.time.TimedRecords.{TimedRecords}
use Rattle.dmr_keeper.specs.Carried.{Carry}
use Rattle.dmr_keeper.specs.Kept.{Kept}
use Rattle.dmr_trunk.specs.declared.holding.Keeping.{Keeping}
use Rattle.dmr_trunk.specs.declared.row.Books.{Books}
use Rattle.dmr_trunk.specs.declared.row.Ran.{Ran}
use Rattle.dmr_trunk.specs.declared.row.Stopped.{Stopped}
use Rattle.dmr_trunk.specs.declared.serve.Remains.{Remains}
use Rattle.dmr_trunk.specs.Faults.{MayFail}
use Rattle.dmr_trunk.specs.Opened.{IsFirstService, ProgramService, start_of}
use Rattle.dmr_trunk.specs.Restart.{AreRestored}
use Rattle.dmr_trunk.specs.Stored.{AreServed, carried_by, carried_if_wanted, idle_store}

-- how many terms `--terms` asks for. 0 asks for terms without end: for 2 ^ 64 - 1, which no run lives to see
abbrev pub terms_asked : ℕ → ℕ
terms_asked zero = 18446744073709551615
terms_asked (suc n) = suc n

-- this many terms have run. An observer saw their journals. The records of the same journals were made and passed on to
-- the store, as `AreServed` says
abbrev pub HaveServed : {K : Type 0} → (K → Option Kept) → (K → TimedRecords → KeepFault → Type 0)
    → Start → ℕ → Start → Option (List (List Entry)) → Option (List (List Entry)) → Option Carry
    → Keeping K → List TimedRecords → Keeping K → Type 0
HaveServed kept refuses start terms next seen seen_then carried first waiting last =
    (run : HaveRun start terms next seen seen_then)
    × AreServed kept refuses start.site.plan carried (journals_of run.ends)
    (first.queue ++ waiting) first.keeper last.queue last.fault last.keeper

-- of the terms that were asked for, this many have run, and there is not another for this reason. The records of those
-- that have run were made and passed on to the store, as `AreServed` says
abbrev pub HaveStoppedServing : {K : Type 0} → (K → Option Kept)
    → (K → TimedRecords → KeepFault → Type 0) → Start → ℕ → ℕ → TermFault
    → Option (List (List Entry)) → Option (List (List Entry)) → Option Carry
    → Keeping K → List TimedRecords → Keeping K → Type 0
HaveStoppedServing kept refuses start terms done fault seen seen_then carried first waiting last =
    (stopped : HaveStopped start terms done fault seen seen_then)
    × AreServed kept refuses start.site.plan carried (journals_of stopped.run.ends)
    (first.queue ++ waiting) first.keeper last.queue last.fault last.keeper

-- how terms that begin with the first of these services begin with the second. All have the limit of the first
abbrev pub start_in_row : {P G T C : Type 0} → (P → Option (List Answer)) → (G → Option (List Passage))
    → (T → Option Paced) → (C → Option (List Answer)) → Service P G T C → Service P G T C → Start
start_in_row reported passed paced of_console first service =
    start_at reported passed paced of_console first.site.plan.serving.term_entries service

-- what became of terms that were asked for, with this service, observer, and books: all have run, and a service is left;
-- or they stopped. The functions are what the ports, the gates, the pacer, the observer and the store report. Only the
-- first term fails for lack of memory
pub record HasServed {P G T C O K R : Type 0} (reported : P → Option (List Answer))
    (passed : G → Option (List Passage)) (paced : T → Option Paced)
    (of_console : C → Option (List Answer)) (seen : O → Option (List (List Entry)))
    (kept : K → Option Kept) (refuses : K → TimedRecords → KeepFault → Type 0)
    (service : Service P G T C) (observer : O) (books : Books K R) (terms : ℕ)
    (ran : Ran (Service P G T C) O K) : Type 0 where
  pub run : IfOk ran.result (λ (next : Service P G T C). HaveServed kept refuses
      (start_in_row reported passed paced of_console service service) (terms_asked terms)
      (start_in_row reported passed paced of_console service next)
      (seen observer) (seen ran.observer) (carried_by books) books.keeping
      books.waiting.queue ran.keeping)
  pub fault : IfErr ran.result (λ (stopped : Stopped). HaveStoppedServing kept refuses
      (start_in_row reported passed paced of_console service service) (terms_asked terms)
      stopped.done stopped.fault (seen observer) (seen ran.observer) (carried_by books)
      books.keeping books.waiting.queue ran.keeping)
  pub memory : IfErr ran.result (λ (stopped : Stopped).
      stopped.fault ≡ Open OutOfMemory → stopped.done ≡ 0)

-- this is left of terms that were asked for: the store, and why they stopped, if they did. The service that they left
-- and the observer are dropped
pub record HasLeft {P G T C O K R : Type 0} (reported : P → Option (List Answer))
    (passed : G → Option (List Passage)) (paced : T → Option Paced)
    (of_console : C → Option (List Answer)) (seen : O → Option (List (List Entry)))
    (kept : K → Option Kept) (refuses : K → TimedRecords → KeepFault → Type 0)
    (service : Service P G T C) (observer : O) (books : Books K R) (terms : ℕ)
    (left : Remains K) : Type 0 where
  pub ran : Ran (Service P G T C) O K
  pub served : HasServed reported passed paced of_console seen kept refuses service observer books
      terms ran
  pub keeping : left.keeping ≡ ran.keeping
  pub ended : MatchResult ran.result (λ (last : Service P G T C). IsOk left.result)
      (λ (stopped : Stopped). left.result ≡ Err stopped)

-- ---- the site of a plan

-- the site of a plan was served, on which these radios were registered before, with this store, to which nothing was to
-- be handed yet. The terms began with what was opened for the plan (`IsFirstService`). As many as were asked for have
-- run, or they stopped. Their records were made and passed on to the store, if it asks for any. The program's ports,
-- gates, clock and observer report no record, so the journals are known by their records alone
pub record IsSiteServed (R : Type 0) {K : Type 0} (kept : K → Option Kept)
    (refuses : K → TimedRecords → KeepFault → Type 0) (wants : K → Bool) (plan : Settings)
    (radios : List ℕ) (store : K) (terms : ℕ) (left : Remains K) : Type 0 where
  pub first : ProgramService R
  pub opened : IsFirstService plan radios first
  pub run : OnOk left.result ((next : Start) × HaveServed kept refuses (start_of first)
      (terms_asked terms) next None None
      (carried_if_wanted (wants store) (restored plan radios)) (idle_store store) []
      left.keeping)
  pub fault : IfErr left.result (λ (stopped : Stopped). HaveStoppedServing kept refuses
      (start_of first) (terms_asked terms) stopped.done stopped.fault None None
      (carried_if_wanted (wants store) (restored plan radios)) (idle_store store) []
      left.keeping)
  pub memory : IfErr left.result (λ (stopped : Stopped).
      stopped.fault ≡ Open OutOfMemory → stopped.done ≡ 0)
  pub may_fail : IfErr left.result (λ (stopped : Stopped). MayFail stopped.fault)

-- a store was asked which radios were registered before. Then the site was served with these, and with that store
pub record IsServedAgain (R : Type 0) {K : Type 0} (reads : K → List ℕ → K → Type 0)
    (cannot_read : K → KeepFault → K → Type 0) (kept : K → Option Kept)
    (refuses : K → TimedRecords → KeepFault → Type 0) (wants : K → Bool) (plan : Settings)
    (store : K) (terms : ℕ) (left : Remains K) : Type 0 where
  pub radios : List ℕ
  pub asked : K
  pub read : AreRestored reads cannot_read store radios asked
  pub served : IsSiteServed R kept refuses wants plan radios asked terms left
