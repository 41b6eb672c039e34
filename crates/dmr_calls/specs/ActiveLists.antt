-- The asks, lines and calls of a site.
use Rattle.std.specs.Prelude.{◌≤◌, List, [], length}
use Rattle.dmr_calls.specs.declared.ask.ActiveAsk.{ActiveAsk}
use Rattle.dmr_calls.specs.declared.line.Line.{Line}
use Rattle.dmr_calls.specs.declared.call.ActiveCall.{ActiveCall}
use Rattle.dmr_calls.specs.Limits.{most_asks, most_calls, most_lines}

-- the asks, lines and calls of a site
pub record ActiveLists : Type 0 where
  pub asks : List ActiveAsk  -- in the order of their last C_AHOY, oldest first
  pub lines : List Line  -- in the order in which they were added
  pub calls : List ActiveCall  -- in the order in which they began

-- no asks, no lines, no calls
abbrev pub no_active_lists : ActiveLists
no_active_lists = record { asks = []; lines = []; calls = [] }

-- at most 32 asks, 32 lines and 31 calls are active
pub record AreWithinLimits (now : ActiveLists) : Type 0 where
  pub asks : length now.asks ≤ most_asks
  pub lines : length now.lines ≤ most_lines
  pub calls : length now.calls ≤ most_calls
