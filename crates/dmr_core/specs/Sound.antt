-- The facts of a site fit together.
use Rattle.std.specs.Prelude.{◌≡◌, ◌≤◌, ◌<◌, ℕ, ◌+◌, length, List, [], ◌∷◌, Bool, true, false, not}
use Rattle.std.specs.Prelude.{cond, ◌==◌, ◌&&◌, ◌||◌, Option, Some, None, slice_index_or}
use Rattle.std.specs.List.{list_any, list_all, All}
use Rattle.dmr_pdu.specs.declared.slots.Slot.{Slot}
use Rattle.dmr_pdu.specs.declared.pdu.Pdu.{Pdu}
use Rattle.dmr_pdu.specs.declared.pdu.Pdu.TheVariants.{PvGrant, TvGrant}
use Rattle.dmr_plan.specs.declared.settings.Settings.{Settings}
use Rattle.dmr_plan.specs.Plan.{lists_group}
use Rattle.dmr_registry.specs.Radios.{AreDistinct, is_registered_in}
use Rattle.dmr_calls.specs.declared.ask.ActiveAsk.{ActiveAsk}
use Rattle.dmr_calls.specs.declared.line.Line.{Line}
use Rattle.dmr_calls.specs.declared.call.Call.{Call}
use Rattle.dmr_calls.specs.declared.call.ActiveCall.{ActiveCall}
use Rattle.dmr_calls.specs.Calls.{call_on}
use Rattle.dmr_calls.specs.Lines.{has_group_line}
use Rattle.dmr_registry.specs.Limits.{most_radios}
use Rattle.dmr_calls.specs.Limits.{most_asks, most_calls, most_lines, most_ticks}
use Rattle.dmr_access.specs.Limits.{polls_of_window, late_entry_interval}
use Rattle.dmr_pdu.specs.Slots.{carriers_of_site, slots_of_site}
use Rattle.dmr_pool.specs.Limits.{most_pdus_of_a_slot}
use Rattle.dmr_pool.specs.Slots.{box, is_up as is_up_in}
use Rattle.dmr_pool.specs.Free.{control_slot, is_control}
use Rattle.dmr_core.specs.declared.named.NamedSlot.{NamedSlot}
use Rattle.dmr_core.specs.Facts.{Facts, has_carrier}
use Rattle.dmr_core.specs.Words.{is_up, lpcn_of, has_call_on}

-- no two calls are on one slot
abbrev pub AreOnDistinctSlots : List ActiveCall → Type 0
AreOnDistinctSlots [] = Unit {0}
AreOnDistinctSlots (s ∷ calls) = (has_call_on calls s.call.slot ≡ false) × AreOnDistinctSlots calls

-- the sum of f over a list
abbrev pub total : {X : Type 0} → (X → ℕ) → List X → ℕ
total f [] = 0
total f (x ∷ xs) = f x + total f xs

-- how many parties of a thing the radio is: its source, and its target if it is individual
abbrev pub party : ℕ → Bool → ℕ → ℕ → ℕ
party r group source target = cond (source == r) 1 0 + cond (not group && (target == r)) 1 0

-- how often a radio is a party of a call
abbrev pub engagements_in_call : ℕ → ActiveCall → ℕ
engagements_in_call r s = party r s.call.group s.call.source s.call.target

-- how often a radio is a party of a line
abbrev pub engagements_in_line : ℕ → Line → ℕ
engagements_in_line r l = party r l.group l.source l.target

-- how often a radio is a party of an ask
abbrev pub engagements_in_ask : ℕ → ActiveAsk → ℕ
engagements_in_ask r a = party r false a.ask.source a.ask.target

-- how often a radio is engaged by calls, asks and lines
abbrev pub engagements : List ActiveCall → List ActiveAsk → List Line → ℕ → ℕ
engagements calls asks lines r =
    total (engagements_in_call r) calls + total (engagements_in_ask r) asks
    + total (engagements_in_line r) lines

-- a call to the talkgroup is active
abbrev pub has_group_call : List ActiveCall → ℕ → Bool
has_group_call calls group = list_any (λ s. s.call.group && (s.call.target == group)) calls

-- the PDU is a grant: PV_GRANT or TV_GRANT
abbrev pub is_grant : Pdu → Bool
is_grant (PvGrant l s target source) = true
is_grant (TvGrant l s late target source) = true
is_grant _ = false

-- if the PDU is a grant that names the call's slot, it is a grant of this call
abbrev pub is_own : Settings → Call → Pdu → Bool
is_own plan call (PvGrant l s target source) =
    not ((l == lpcn_of plan call.slot.carrier) && (s == call.slot.slot))
    || (not call.group && ((source == call.source) && (target == call.target)))
is_own plan call (TvGrant l s late target source) =
    not ((l == lpcn_of plan call.slot.carrier) && (s == call.slot.slot))
    || (call.group && ((source == call.source) && (target == call.target)))
is_own plan call _ = true

-- the slot belongs to a carrier that is up, and is not the control slot
pub record IsPayload (plan : Settings) (up : List Bool) (slot : Slot) : Type 0 where
  pub known : has_carrier plan slot.carrier ≡ true
  pub is_up : slice_index_or up slot.carrier false ≡ true
  pub small : slot.slot < 2
  pub apart : is_control plan.lists slot ≡ false

-- the carriers that are up and the PDUs that wait are sound
pub record IsPoolSound (plan : Settings) (up : List Bool) (outboxes : List (List Pdu)) : Type 0 where
  -- there are 16 carrier numbers and 32 slots, and only carriers of the plan are up
  pub carriers : length up ≡ carriers_of_site
  pub slots : length outboxes ≡ slots_of_site
  pub known : (c : ℕ) → is_up_in up c ≡ true → has_carrier plan c ≡ true
  -- no PDU waits for a carrier that is not up
  pub down : (slot : Slot) → slot.slot < 2 → is_up_in up slot.carrier ≡ false
      → box outboxes slot ≡ []
  -- grants wait for the control slot alone
  pub elsewhere : (slot : Slot) → slot.slot < 2 → is_control plan.lists slot ≡ false
      → list_any is_grant (box outboxes slot) ≡ false
  pub few : (slot : Slot) → slot.slot < 2 → length (box outboxes slot) ≤ most_pdus_of_a_slot

-- the calls are sound
pub record AreCallsSound (plan : Settings) (up : List Bool) (outboxes : List (List Pdu))
    (calls : List ActiveCall) : Type 0 where
  -- calls are on distinct payload slots whose outboxes are empty
  pub apart : AreOnDistinctSlots calls
  pub payload : (slot : Slot) → has_call_on calls slot ≡ true → IsPayload plan up slot
  pub quiet : (slot : Slot) → has_call_on calls slot ≡ true → box outboxes slot ≡ []
  -- each grant that waits is that of the call on the slot that it names, if a call is active there
  pub own : (slot : Slot) (call : Call) → call_on calls slot ≡ Some call
      → list_all (is_own plan call) (box outboxes (control_slot plan.lists)) ≡ true
  pub listed : (g : ℕ) → has_group_call calls g ≡ true → lists_group plan g ≡ true
  pub few : length calls ≤ most_calls
  -- ages and quiet times are at most 65,535 ticks
  pub ages : All (λ s. (s.age ≤ most_ticks) × (s.quiet ≤ most_ticks)) calls

-- the asks are sound: there are none while the control carrier is down, for which `up` is false, at most 32 else, and
-- waiting times are at most 65,535 ticks
pub record AreAsksSound (up : Bool) (asks : List ActiveAsk) : Type 0 where
  pub none : up ≡ false → asks ≡ []
  pub few : length asks ≤ most_asks
  pub waits : All (λ a. a.waited ≤ most_ticks) asks

-- the lines are sound: there are none while the control carrier is down, at most 32 else, and groups are listed
pub record AreLinesSound (plan : Settings) (up : Bool) (lines : List Line) : Type 0 where
  pub none : up ≡ false → lines ≡ []
  pub listed : (g : ℕ) → has_group_line lines g ≡ true → lists_group plan g ≡ true
  pub few : length lines ≤ most_lines

-- the radios are sound: none is registered twice, parties are registered, and each is engaged at most once
pub record AreRadiosSound (radios : List ℕ) (calls : List ActiveCall) (asks : List ActiveAsk)
    (lines : List Line) : Type 0 where
  pub distinct : AreDistinct radios
  pub parties : (r : ℕ) → 0 < engagements calls asks lines r → is_registered_in radios r ≡ true
  pub once : (r : ℕ) → engagements calls asks lines r ≤ 1
  pub few : length radios ≤ most_radios

-- the noise numbers, Fills and last late entry are sound
pub record IsAccessSound (up : Bool) (noise : List ℕ) (fills : ℕ)
    (late : Option NamedSlot) : Type 0 where
  -- there are 32 noise numbers while the control carrier is up, and none while it is not
  pub noiseless : up ≡ false → noise ≡ []
  pub window : up ≡ true → length noise ≡ polls_of_window
  -- Fills are counted modulo 4; while the control carrier is down, the count is 0 and there is no last late entry
  pub counted : fills < late_entry_interval
  pub unfilled : up ≡ false → fills ≡ 0
  pub unnamed : up ≡ false → late ≡ None

-- the facts are sound: they fit together, as each field says
pub record IsSound (plan : Settings) (facts : Facts) : Type 0 where
  pub pool : IsPoolSound plan facts.up facts.outboxes
  pub calls : AreCallsSound plan facts.up facts.outboxes facts.calls
  pub asks : AreAsksSound (is_up facts plan.lists.control) facts.asks
  pub lines : AreLinesSound plan (is_up facts plan.lists.control) facts.lines
  pub radios : AreRadiosSound facts.registered facts.calls facts.asks facts.lines
  pub access : IsAccessSound (is_up facts plan.lists.control) facts.noise facts.fills facts.late
