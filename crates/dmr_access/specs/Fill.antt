-- The PDU that is sent on the control slot when no PDU waits.
use Rattle.std.specs.Prelude.{ℕ, ◌+◌, ◌-◌, ◌%◌, List, Bool, ◌==◌, true, Option, Some, None}
use Rattle.std.specs.Prelude.{unwrap_or, if◌then◌else◌}
use Rattle.dmr_pdu.specs.declared.pdu.Pdu.{Pdu}
use Rattle.dmr_pdu.specs.declared.pdu.Pdu.TheVariants.{Aloha, Move}
use Rattle.dmr_plan.specs.declared.sections.SystemSection.{SystemSection}
use Rattle.dmr_plan.specs.declared.sections.AlohaSection.{AlohaSection}
use Rattle.dmr_plan.specs.declared.sections.CallSection.{CallSection}
use Rattle.dmr_plan.specs.declared.settings.Settings.{Settings}
use Rattle.dmr_access.specs.Limits.{late_entry_interval}
use Rattle.dmr_access.specs.Noise.{backoff_of}

-- the sections of the plan that it reads, the noise numbers, and the Fills since the control carrier came up, modulo 4
pub record Window : Type 0 where
  pub system : SystemSection
  pub aloha : AlohaSection
  pub calls : CallSection
  pub noise : List ℕ
  pub fills : ℕ

-- random access by a plan, with these noise numbers and Fills
abbrev pub window_of : Settings → List ℕ → ℕ → Window
window_of plan noise fills = record {
  system = plan.system;
  aloha = plan.aloha;
  calls = plan.calls;
  noise = noise;
  fills = fills;
}

-- C_ALOHA to all radios (mask 0) for all services (function 0), which must register, with the backoff of the noise
abbrev pub aloha_pdu : Window → Pdu
aloha_pdu w =
    Aloha w.aloha.sync w.aloha.version w.aloha.offset w.aloha.active 0 0 w.aloha.nrand_wait true
    (backoff_of w.calls w.noise) w.system.system 0

-- C_MOVE to a channel on which radios must register, with the same backoff
abbrev pub move_to : Window → ℕ → Pdu
move_to w lpcn = Move true (backoff_of w.calls w.noise) lpcn

-- the count after one more Fill, modulo 4
abbrev pub next_fill_count : ℕ → ℕ
next_fill_count fills = (fills + 1) % late_entry_interval

-- a late entry is due: the next Fill is the fourth, the eighth and so on
abbrev pub is_late_due : ℕ → Bool
is_late_due fills = fills == (late_entry_interval - 1)

-- the Fill of the control slot, the first that applies: C_MOVE if there is a move, the late entry if one is due and
-- there is one, C_ALOHA
abbrev pub fill_of : Window → Option ℕ → Option Pdu → Pdu
fill_of w (Some lpcn) late = move_to w lpcn
fill_of w None late = if is_late_due w.fills then unwrap_or late (aloha_pdu w) else aloha_pdu w
