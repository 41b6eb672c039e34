-- A pacer's reports, and the ticker's work.
use Rattle.std.specs.Prelude.{◌≡◌, ℕ, ◌+◌, ◌⊎◌, Bool, true, false, List, ◌++◌, Option, Some, None}
use Rattle.std.specs.Prelude.{length, All}
use Rattle.dmr_core.specs.declared.event.Event.TheVariants.{Tick}
use Rattle.dmr_link.specs.declared.desk.Deposit.{Deposit}
use Rattle.dmr_desk.specs.declared.ending.Ending.{Ending}
use Rattle.dmr_desk.specs.declared.ending.Ending.TheVariants as ending
use Rattle.dmr_desk.specs.declared.pace.Pace.{Pace}
use Rattle.dmr_desk.specs.declared.pace.Pace.TheVariants as pace

-- the number of ticks that a pacer gave, and whether its last answer was that there are no more
pub record Paced : Type 0 where
  pub ticks : ℕ
  pub finished : Bool

-- the report of a pacer after an answer
abbrev pub paced_after : Paced → Pace → Paced
paced_after p pace.Tick = record { ticks = p.ticks + 1; finished = false }
paced_after p pace.NotYet = record { ticks = p.ticks; finished = false }
paced_after p pace.Finished = record { ticks = p.ticks; finished = true }

-- the report after an answer, if there is one, follows from the report before it
abbrev pub FollowsPace : Option Paced → Pace → Option Paced → Type 0
FollowsPace before x None = Unit {0}
FollowsPace None x (Some after) = ⊥
FollowsPace (Some before) x (Some after) = after ≡ paced_after before x

-- if there is a second report, there is a first, and the pacer gave `n` ticks between the two
abbrev pub Answered : Option Paced → Option Paced → ℕ → Type 0
Answered before None n = Unit {0}
Answered None (Some after) n = ⊥
Answered (Some before) (Some after) n = after.ticks ≡ before.ticks + n

-- the last answer that the pacer reports, if it reports any, was that there are no more ticks
abbrev pub ReportsFinished : Option Paced → Type 0
ReportsFinished None = Unit {0}
ReportsFinished (Some p) = p.finished ≡ true

-- each deposit is a tick
abbrev pub AreTicks : List Deposit → Type 0
AreTicks deposits = All (λ (deposit : Deposit). deposit.event ≡ Tick) deposits

-- the desk took as many ticks as the pacer gave, if it reports them; when the term is over, one tick may have been
-- dropped. A ticker that finished had the answer that there are no more ticks, and none ends at a shut gate
abbrev pub TicksTo : Option Paced → Option Paced → ℕ → Ending → Type 0
TicksTo before after taken ending.Finished = Answered before after taken × ReportsFinished after
TicksTo before after taken ending.GateShut = ⊥
TicksTo before after taken ending.TermOver =
    Answered before after taken ⊎ Answered before after (taken + 1)

-- the ticker's desk took ticks alone: one for each that the pacer gave, if it reports them, except one that may have
-- been dropped when the term was over
abbrev pub Ticks : Option Paced → List Deposit → Option Paced → List Deposit → Ending → Type 0
Ticks before calls after later e =
    (took : List Deposit) × (later ≡ calls ++ took) × AreTicks took
    × TicksTo before after (length took) e

-- ---- on the way

-- so far the ticker's desk took a tick for each that the pacer gave
abbrev pub Ticking : Option Paced → List Deposit → Option Paced → List Deposit → Type 0
Ticking before calls after later =
    (took : List Deposit) × (later ≡ calls ++ took) × AreTicks took
    × Answered before after (length took)

-- after a step the ticker continues, or its work has ended with this ending
abbrev pub TicksOn : Option Paced → List Deposit → Option Paced → List Deposit → Option Ending
    → Type 0
TicksOn before calls after later None = Ticking before calls after later
TicksOn before calls after later (Some e) = Ticks before calls after later e
