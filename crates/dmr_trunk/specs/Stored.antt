-- What becomes of the records of terms: they are made from the journals, they wait, and they are handed to the store.
use Rattle.std.specs.Prelude.{◌≡◌, ℕ, ◌+◌, ◌≤◌, ◌<◌, ◌^◌, List, [], ◌∷◌, ◌++◌, length}
use Rattle.std.specs.Prelude.{Bool, true, false, Option, None, Some, IfSome, IsSomeAnd, option_map}
use Rattle.dmr_core.specs.declared.entry.Entry.{Entry}
use Rattle.dmr_plan.specs.declared.settings.Settings.{Settings}
use Rattle.dmr_keeper.specs.declared.keeper.KeepFault.{KeepFault}
use Rattle.dmr_keeper.specs.declared.time.TimedRecords.{TimedRecords}
use Rattle.dmr_keeper.specs.Carried.{Carry, carried_after, starting_with}
use Rattle.dmr_keeper.specs.Handing.{newest}
use Rattle.dmr_keeper.specs.Kept.{Kept, Keeps}
use Rattle.dmr_keeper.specs.Records.{AreRecords}
use Rattle.dmr_keeper.specs.Ticks.{ticks_in}
use Rattle.dmr_trunk.specs.declared.holding.Keeping.{Keeping}
use Rattle.dmr_trunk.specs.declared.holding.Writer.{Writer}
use Rattle.dmr_trunk.specs.declared.holding.Writer.TheVariants.{Idle, Busy}
use Rattle.dmr_trunk.specs.declared.recorded.RecordMaker.{RecordMaker}
use Rattle.dmr_trunk.specs.declared.row.Books.{Books}

-- ---- records that are made

-- the records of one term, by its journal and by what is carried to it. The length of a tick is the plan's. The time of
-- day comes from the clock
abbrev pub IsRecordOf : Settings → Carry → List Entry → TimedRecords → Type 0
IsRecordOf plan before journal term =
    AreRecords plan before journal term.records × (term.time.tick_ms ≡ plan.serving.tick_ms)

-- what is carried to the first term of a site with these radios, if the store asks for records
abbrev pub carried_if_wanted : Bool → List ℕ → Option Carry
carried_if_wanted true radios = Some (starting_with radios)
carried_if_wanted false radios = None

-- what a term hands to the store and to the next term, as long as the ticks of all terms fit in 64 bits
pub record HasMade (plan : Settings) (before : Carry) (journal : List Entry)
    (made : Option TimedRecords) (after : Carry) : Type 0 where
  pub records : before.ticks + ticks_in journal < 2 ^ 64
      → IsSomeAnd made (IsRecordOf plan before journal)
  pub carried : before.ticks + ticks_in journal < 2 ^ 64 → after ≡ carried_after plan before journal

-- the same of a maker of records, if there is one
abbrev pub HasMadeIfWanted : Settings → Option Carry → List Entry → Option TimedRecords
    → Option Carry → Type 0
HasMadeIfWanted plan None journal made None = made ≡ None
HasMadeIfWanted plan (Some before) journal made (Some after) = HasMade plan before journal made after
HasMadeIfWanted plan before journal made after = ⊥

-- what is carried on after terms with these journals, oldest first
abbrev pub carried_after_all : Settings → Carry → List (List Entry) → Carry
carried_after_all plan before [] = before
carried_after_all plan before (journal ∷ journals) =
    carried_after_all plan (carried_after plan before journal) journals

-- the records of terms with these journals, oldest first, by what is carried to the first of them
abbrev pub AreRecordsOf : Settings → Carry → List (List Entry) → List TimedRecords → Type 0
AreRecordsOf plan before [] [] = Unit {0}
AreRecordsOf plan before (journal ∷ journals) (term ∷ terms) =
    IsRecordOf plan before journal term
    × AreRecordsOf plan (carried_after plan before journal) journals terms
AreRecordsOf plan before journals terms = ⊥

-- ---- records that wait

-- of all records, oldest term first, which were handed to the store, and which still wait. Those of the oldest term are
-- handed over first. A term's records are lost only while those of 1,000 later terms wait
pub data Passage : List TimedRecords → List TimedRecords → List TimedRecords → Type 0 where
  at_first : (waiting : List TimedRecords) → Passage waiting [] waiting
  made : (all handed waiting : List TimedRecords) (term : TimedRecords)
      → Passage all handed waiting
      → Passage (all ++ term ∷ []) handed (waiting ++ term ∷ [])
  handed_over : (all handed oldest waiting : List TimedRecords)
      → Passage all handed (oldest ++ waiting) → Passage all (handed ++ oldest) waiting
  lost : (all handed earlier later : List TimedRecords) (term : TimedRecords)
      → 1000 ≤ length later → Passage all handed (earlier ++ term ∷ later)
      → Passage all handed (earlier ++ later)

-- of all records, the store kept those that were handed to it, and no others; these still wait
pub record ArePassedOn (before : Option Kept) (all waiting : List TimedRecords)
    (after : Option Kept) : Type 0 where
  pub handed : List TimedRecords
  pub way : Passage all handed waiting
  pub kept : Keeps before handed after

-- records go on: whatever all the records are, of which these wait, some may have been handed over since, and these
-- wait then
abbrev pub GoOn : List TimedRecords → Option Kept → List TimedRecords → Option Kept → Type 0
GoOn waiting kept waiting_then kept_then =
    (before : Option Kept) (all : List TimedRecords) → ArePassedOn before all waiting kept
    → ArePassedOn before all waiting_then kept_then

-- what waits after the records of a term, if any were made
abbrev pub waiting_with : List TimedRecords → Option TimedRecords → List TimedRecords
waiting_with waiting None = waiting
waiting_with waiting (Some term) = newest (waiting ++ term ∷ [])

-- the store, with what it is to keep next. If a thread writes, this is what it received
abbrev pub held : {K : Type 0} → Writer K → Keeping K
held (Idle keeping) = keeping
held (Busy child) = child.promise.0.value

-- no thread writes
abbrev pub is_idle : {K : Type 0} → Writer K → Bool
is_idle (Idle keeping) = true
is_idle (Busy child) = false

-- a store to which nothing is to be handed
abbrev pub idle_store : {K : Type 0} → K → Keeping K
idle_store keeper = record { keeper = keeper; queue = []; fault = None }

-- what is carried to the next term, if records are made
abbrev pub carried_by : {K R : Type 0} → Books K R → Option Carry
carried_by {R = R} books =
    option_map (λ (maker : RecordMaker R). maker.recorder.carried) books.maker

-- the books with which a site begins that has these radios: records are made if this store asks for any, and none wait
pub record AreNewBooks {K R : Type 0} (wants : K → Bool) (radios : List ℕ) (store : K)
    (books : Books K R) : Type 0 where
  pub keeping : books.keeping ≡ idle_store store
  pub waiting : books.waiting.queue ≡ []
  pub carried : carried_by books ≡ carried_if_wanted (wants store) radios

-- ---- the whole

-- the records of terms with these journals were made, one after another, and passed on after those that waited before.
-- That they are these records is said if the ticks of all terms fit in 64 bits. Without a maker of records none are
-- made
pub record HaveStored (plan : Settings) (carried : Option Carry) (journals : List (List Entry))
    (before : Option Kept) (waiting left : List TimedRecords) (after : Option Kept) : Type 0 where
  pub made : List TimedRecords
  pub records : IfSome carried (λ begun. (carried_after_all plan begun journals).ticks < 2 ^ 64
      → AreRecordsOf plan begun journals made)
  pub unwanted : carried ≡ None → made ≡ []
  pub passed : ArePassedOn before (waiting ++ made) left after

-- the store refused the oldest of the records that are left with this fault, after it had kept those before
pub record IsRefusedAtEnd {K : Type 0} (kept : K → Option Kept)
    (refuses : K → TimedRecords → KeepFault → Type 0) (before : Option Kept)
    (all left : List TimedRecords) (fault : KeepFault) : Type 0 where
  pub store : K
  pub passed : ArePassedOn before all left (kept store)
  pub term : TimedRecords
  pub later : List TimedRecords
  pub oldest : left ≡ term ∷ later
  pub refused : refuses store term fault

-- at the end no records are left, or else the store refused them with this fault
abbrev pub IsAtEnd : {K : Type 0} → (K → Option Kept) → (K → TimedRecords → KeepFault → Type 0)
    → Option Kept → List TimedRecords → List TimedRecords → Option KeepFault → Type 0
IsAtEnd kept refuses before all left None = left ≡ []
IsAtEnd kept refuses before all left (Some fault) = IsRefusedAtEnd kept refuses before all left fault

-- the records of terms with these journals were made and passed on to the store, as `HaveStored` says. At the end none
-- are left, or else the store refused the oldest of those that are left
pub record AreServed {K : Type 0} (kept : K → Option Kept)
    (refuses : K → TimedRecords → KeepFault → Type 0) (plan : Settings) (carried : Option Carry)
    (journals : List (List Entry)) (waiting : List TimedRecords) (store : K)
    (left : List TimedRecords) (fault : Option KeepFault) (store_then : K) : Type 0 where
  pub stored : HaveStored plan carried journals (kept store) waiting left (kept store_then)
  pub end : IsAtEnd kept refuses (kept store) (waiting ++ stored.made) left fault
