-- The size of an answer.
use Rattle.std.specs.Prelude.{ℕ, ◌≤◌, length, List, cond}
use Rattle.dmr_plan.specs.declared.settings.Settings.{Settings}
use Rattle.dmr_pool.specs.Free.{is_control}
use Rattle.dmr_core.specs.declared.act.Act.{Act}
use Rattle.dmr_core.specs.declared.act.Act.TheVariants.{Queue}
use Rattle.dmr_core.specs.Sound.{total}

-- 1 for an act that queues a PDU on the control slot, else 0
abbrev pub on_control : Settings → Act → ℕ
on_control plan (Queue slot pdu) = cond (is_control plan.lists slot) 1 0
on_control plan _ = 0

-- 1 for an act that queues a PDU on another slot, else 0
abbrev pub elsewhere : Settings → Act → ℕ
elsewhere plan (Queue slot pdu) = cond (is_control plan.lists slot) 0 1
elsewhere plan _ = 0

-- an answer has at most `most` acts; at most `control` of them queue a PDU on the control slot, and at most `others`
-- elsewhere
pub record AreFewActs (plan : Settings) (acts : List Act) (most control others : ℕ) : Type 0 where
  pub size : length acts ≤ most
  pub waiting : total (on_control plan) acts ≤ control
  pub apart : total (elsewhere plan) acts ≤ others
