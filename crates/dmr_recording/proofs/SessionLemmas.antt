-- The session in which radios register, played on a site that has just started.
use Rattle.std.proofs.Common.{◌≡◌, ◌<◌, ℕ, zero, suc, Bool, true, false, not, List, [], ◌∷◌, ◌++◌, None, Some, Option, IfSome, replicate}
use Rattle.std.proofs.Common.{refl, sym, ◌∙◌, ap, arith}
use Rattle.std.specs.Prelude.{fold, filter, flat_map, reverse, length, nat_le, ◌==◌, if◌then◌else◌}
use Rattle.std.specs.List.{list_any, slice_set}
use Rattle.std.proofs.lemmas.Grind.{fold-append}
use Rattle.std.proofs.lemmas.List.{reverse-append, reverse-reverse}
use Rattle.dmr_pdu.specs.Reasons.{reg_accepted, reg_denied, reg_refused}
use Rattle.dmr_plan.specs.declared.settings.Settings.{Settings}
use Rattle.dmr_plan.specs.declared.key.Key.TheVariants as key
use Rattle.dmr_plan.specs.Keys.{IsNumberOf}
use Rattle.dmr_plan.specs.IsPlan.{IsPlan}
use Rattle.dmr_plan.specs.Plan.{lists_radio}
use Rattle.dmr_plan.specs.Carriers.{has_number_in}
use Rattle.dmr_core.specs.declared.event.Event.{Event}
use Rattle.dmr_core.specs.declared.event.Event.TheVariants.{Up, Lost, Heard, Poll}
use Rattle.dmr_core.specs.declared.act.Act.{Act}
use Rattle.dmr_core.specs.declared.act.Act.TheVariants.{Joined}
use Rattle.dmr_core.specs.declared.act.Acts.{Acts}
use Rattle.dmr_core.specs.declared.entry.Entry.{Entry}
use Rattle.dmr_core.specs.Facts.{Facts, facts_after, no_facts, noise_by_event}
use Rattle.dmr_core.specs.Journal.{IsLegal, answer_after_entries, events_of, unattributed_entry}
use Rattle.dmr_core.specs.Restored.{facts_with, restored}
use Rattle.dmr_core.specs.Rules.{ack, acts_of, acts_for_leaving, acts_for_pdu, acts_for_registration, acts_for_request, acts_for_slot}
use Rattle.dmr_core.specs.Rules.{is_leaving}
use Rattle.dmr_core.specs.Replies.{reply_to}
use Rattle.dmr_recording.specs.Restored.{options_to_stay, registers, registration_of, session_of}

-- ---- steps

-- an event with its legal answer
abbrev next : Settings → Facts → Event → Facts
next plan now event = facts_after plan now (unattributed_entry event (answer_after_entries plan now [] event) ∷ [])

one_step : (plan : Settings) (facts : Facts) (entry : Entry) (earlier : List Entry) →
    entry.acts ≡ answer_after_entries plan facts earlier entry.event → facts_after plan facts (entry ∷ earlier) ≡ next plan
    (facts_after plan facts earlier) entry.event
one_step plan facts entry earlier legal =
    ap (λ (acts : Acts). facts_after plan facts (record { actor = entry.actor; event = entry.event; acts = acts } ∷ earlier)) legal

all_steps : (plan : Settings) (facts : Facts) (journal : List Entry) → IsLegal plan facts journal →
    facts_after plan facts journal ≡ fold (next plan) facts (reverse (events_of journal))
all_steps plan facts [] legal = refl
all_steps plan facts (entry ∷ earlier) legal =
    one_step plan facts entry earlier legal.0 ∙ ap (λ (now : Facts). next plan now entry.event) (all_steps plan facts earlier legal.1)
    ∙ sym (fold-append (next plan) facts (reverse (events_of earlier)) (entry.event ∷ []))
    ∙ ap (fold (next plan) facts) (sym (reverse-append (entry.event ∷ []) (events_of earlier)))

-- ---- each carrier number

-- the definitions compute for each number alone, so a statement is shown for all of them in turn
abbrev AllTo : (ℕ → Type 0) → ℕ → Type 0
AllTo P zero = Unit {0}
AllTo P (suc n) = P zero × AllTo (λ c. P (suc c)) n

at_place : (P : ℕ → Type 0) (n c : ℕ) → AllTo P n → c < n → P c
at_place P zero c all small = absurd (omega (arith, small))
at_place P (suc n) zero all small = all.0
at_place P (suc n) (suc c) all small = at_place (λ c. P (suc c)) n c all.1 (omega (arith, small))

-- the control carrier is up, these radios are registered, and nothing else has happened than Polls
abbrev ready : Settings → List ℕ → List ℕ → Facts
ready plan radios noise = record {
  up = slice_set (replicate 16 false) plan.lists.control true;
  registered = radios;
  asks = [];
  lines = [];
  calls = [];
  outboxes = replicate 32 [];
  noise = noise;
  moving = None;
  fills = 0;
  late = None;
}

-- the noise numbers after the control carrier came up, and after its Poll
abbrev noise_at_up : Settings → List ℕ
noise_at_up plan = noise_by_event plan [] (Up plan.lists.control)

abbrev polled : Settings → List ℕ → List ℕ
polled plan noise = noise_by_event plan noise (Poll plan.lists.control)

-- a plan with another control carrier
abbrev with_control : Settings → ℕ → Settings
with_control plan c = record plan { lists = record plan.lists { control = c } }

-- the site after the control carrier came up, if the plan has it
abbrev up_if : Settings → Bool → Facts
up_if plan has = record (ready plan [] (noise_at_up plan))
    { up = if has then slice_set (replicate 16 false) plan.lists.control true else replicate 16 false }

abbrev Begins : Settings → ℕ → Type 0
Begins plan c = next (with_control plan c) no_facts (Up c) ≡ up_if (with_control plan c) (has_number_in plan.lists.carriers c)

begins : (plan : Settings) (c : ℕ) → c < 16 → Begins plan c
begins plan c small = at_place (Begins plan) 16 c
    (refl, (refl, (refl, (refl, (refl, (refl, (refl, (refl, (refl, (refl, (refl, (refl, (refl, (refl, (refl, (refl, tt)))))))))))))))) small

abbrev Ends : Settings → List ℕ → List ℕ → ℕ → Type 0
Ends plan radios noise c = next (with_control plan c) (ready (with_control plan c) radios noise) (Lost c) ≡ facts_with radios

ends : (plan : Settings) (radios noise : List ℕ) (c : ℕ) → c < 16 → Ends plan radios noise c
ends plan radios noise c small = at_place (Ends plan radios noise) 16 c
    (refl, (refl, (refl, (refl, (refl, (refl, (refl, (refl, (refl, (refl, (refl, (refl, (refl, (refl, (refl, (refl, tt)))))))))))))))) small

-- ---- a radio registers

-- its request
abbrev request_of : Settings → ℕ → Event
request_of plan radio = Heard (record { carrier = plan.lists.control; slot = 0 }) (registration_of plan radio)

-- the facts after a request that was answered by these acts, and a Poll
abbrev answered : Settings → List ℕ → List ℕ → ℕ → List Act → Facts
answered plan radios noise radio acts =
    let now = ready plan radios noise in
    next plan (facts_after plan now
    (unattributed_entry (request_of plan radio) (record { list = acts; said = reply_to plan now (request_of plan radio) }) ∷ []))
    (Poll plan.lists.control)

-- the acts that answer a registration request, by what is known of the radio
abbrev acts_by : Settings → ℕ → List Act → Bool → Bool → Bool → Bool → List Act
acts_by plan radio others leaves listed here full =
    if leaves then others else
    if not listed then ack plan radio plan.system.regi reg_denied else
    if here then ack plan radio plan.system.regi reg_accepted else
    if full then ack plan radio plan.system.regi reg_refused else
    (Joined radio ∷ ack plan radio plan.system.regi reg_accepted)

-- what is known of the radio
abbrev is_registered_in : List ℕ → ℕ → Bool
is_registered_in radios radio = list_any (λ r. r == radio) radios

abbrev is_full : List ℕ → Bool
is_full radios = nat_le 4096 (length radios)

-- the radios that are registered then
abbrev radios_by : List ℕ → ℕ → Bool → Bool → Bool → List ℕ
radios_by radios radio listed here full =
    if listed then (if here then radios else if full then radios else radios ++ radio ∷ []) else radios

abbrev Answers : Settings → List ℕ → List ℕ → ℕ → ℕ → Type 0
Answers plan radios noise radio c =
    let it = with_control plan c in
    (answered it radios noise radio (ack it radio plan.system.regi reg_denied) ≡ ready it radios (polled it noise))
    × (answered it radios noise radio (ack it radio plan.system.regi reg_accepted) ≡ ready it radios (polled it noise))
    × (answered it radios noise radio (ack it radio plan.system.regi reg_refused) ≡ ready it radios (polled it noise))
    × (answered it radios noise radio (Joined radio ∷ ack it radio plan.system.regi reg_accepted) ≡ ready it (radios ++ radio ∷ [])
    (polled it noise))

answers : (plan : Settings) (radios noise : List ℕ) (radio c : ℕ) → c < 16 → Answers plan radios noise radio c
unfolding acts_for_slot
answers plan radios noise radio c small = at_place (Answers plan radios noise radio) 16 c (
  (refl, refl, refl, refl),
  (
    (refl, refl, refl, refl),
    (
      (refl, refl, refl, refl),
      (
        (refl, refl, refl, refl),
        (
          (refl, refl, refl, refl),
          (
            (refl, refl, refl, refl),
            (
              (refl, refl, refl, refl),
              (
                (refl, refl, refl, refl),
                (
                  (refl, refl, refl, refl),
                  (
                    (refl, refl, refl, refl),
                    (
                      (refl, refl, refl, refl),
                      (
                        (refl, refl, refl, refl),
                        ((refl, refl, refl, refl), ((refl, refl, refl, refl), ((refl, refl, refl, refl), ((refl, refl, refl, refl), tt)))),
                      ),
                    ),
                  ),
                ),
              ),
            ),
          ),
        ),
      ),
    ),
  ),
) small

by_answer : (plan : Settings) (radios noise : List ℕ) (radio : ℕ) (others : List Act) (listed here full : Bool) →
    Answers plan radios noise radio plan.lists.control → answered plan radios noise radio
    (acts_by plan radio others false listed here full) ≡ ready plan (radios_by radios radio listed here full) (polled plan noise)
by_answer plan radios noise radio others false here full each = each.0
by_answer plan radios noise radio others true true full each = each.1
by_answer plan radios noise radio others true false true each = each.2
by_answer plan radios noise radio others true false false each = each.3

-- the acts are those, by the rules
abbrev Acts_at : Settings → List ℕ → List ℕ → ℕ → ℕ → Type 0
Acts_at plan radios noise radio c =
    let it = with_control plan c in
    let now = ready it radios noise in
    acts_of it now (request_of it radio) ≡ acts_by it radio
    (acts_for_leaving it now (record { options = options_to_stay it; source = radio; target = it.system.regi }))
    (is_leaving it (options_to_stay it)) (lists_radio it radio) (is_registered_in radios radio) (is_full radios)

acts_at : (plan : Settings) (radios noise : List ℕ) (radio c : ℕ) → c < 16 → Acts_at plan radios noise radio c
unfolding acts_for_pdu acts_for_request acts_for_registration
acts_at plan radios noise radio c small = at_place (Acts_at plan radios noise radio) 16 c
    (refl, (refl, (refl, (refl, (refl, (refl, (refl, (refl, (refl, (refl, (refl, (refl, (refl, (refl, (refl, (refl, tt)))))))))))))))) small

-- the request is not one to leave
abbrev Stays : Settings → Option ℕ → Type 0
Stays plan bit =
    let it = record plan { system = record plan.system { leave_bit = bit } } in
    is_leaving it (options_to_stay it) ≡ false

stays : (plan : Settings) (bit : Option ℕ) → IfSome bit (IsNumberOf key.LeaveBit) → Stays plan bit
unfolding is_leaving
stays plan None within = refl
stays plan (Some k) within =
    at_place (λ k. Stays plan (Some k)) 7 k (refl, (refl, (refl, (refl, (refl, (refl, (refl, tt))))))) (omega (arith, within.1))

-- a radio registers, if the plan lists it and there is a place
registers_one : (plan : Settings) (radios noise : List ℕ) (radio : ℕ) → plan.lists.control < 16 →
    IfSome plan.system.leave_bit (IsNumberOf key.LeaveBit) → next plan (next plan (ready plan radios noise) (request_of plan radio))
    (Poll plan.lists.control) ≡ ready plan
    (radios_by radios radio (lists_radio plan radio) (is_registered_in radios radio) (is_full radios)) (polled plan noise)
registers_one plan radios noise radio small within =
    let now = ready plan radios noise in
    let others = acts_for_leaving plan now (record { options = options_to_stay plan; source = radio; target = plan.system.regi }) in
    let listed = lists_radio plan radio in
    let here = is_registered_in radios radio in
    let full = is_full radios in
    ap (answered plan radios noise radio)
    (acts_at plan radios noise radio plan.lists.control small ∙ ap
    (λ (leaves : Bool). acts_by plan radio others leaves listed here full) (stays plan plan.system.leave_bit within))
    ∙ by_answer plan radios noise radio others listed here full (answers plan radios noise radio plan.lists.control small)

-- ---- all radios

abbrev radios_after_join : List ℕ → ℕ → List ℕ
radios_after_join radios radio = radios_by radios radio true (is_registered_in radios radio) (is_full radios)

joins : (radios : List ℕ) (radio : ℕ) (later : List ℕ) (listed : Bool) →
    fold radios_after_join (radios_by radios radio listed (is_registered_in radios radio) (is_full radios)) later ≡ fold radios_after_join
    radios (if listed then radio ∷ later else later)
joins radios radio later true = refl
joins radios radio later false = refl

registers_all : (plan : Settings) (earlier noise radios : List ℕ) → plan.lists.control < 16 →
    IfSome plan.system.leave_bit (IsNumberOf key.LeaveBit) → fold (next plan) (ready plan earlier noise)
    (flat_map (registers plan) radios ++ Lost plan.lists.control ∷ []) ≡ facts_with
    (fold radios_after_join earlier (filter (lists_radio plan) radios))
registers_all plan earlier noise [] small within = ends plan earlier noise plan.lists.control small
registers_all plan earlier noise (radio ∷ radios) small within =
    let joined = radios_by earlier radio (lists_radio plan radio) (is_registered_in earlier radio) (is_full earlier) in
    ap (λ (now : Facts). fold (next plan) now (flat_map (registers plan) radios ++ Lost plan.lists.control ∷ []))
    (registers_one plan earlier noise radio small within)
    ∙ registers_all plan joined (polled plan noise) radios small within
    ∙ ap facts_with (joins earlier radio (filter (lists_radio plan) radios) (lists_radio plan radio))

-- after the session the site is one that starts with these radios registered
pub session_registers : (plan : Settings) (radios : List ℕ) (journal : List Entry) → plan.lists.control < 16 → IsPlan plan →
    IsLegal plan no_facts journal → events_of journal ≡ reverse (session_of plan radios) →
    facts_after plan no_facts journal ≡ facts_with (restored plan radios)
session_registers plan radios journal small known legal are =
    all_steps plan no_facts journal legal ∙ ap (fold (next plan) no_facts) (ap reverse are ∙ reverse-reverse (session_of plan radios))
    ∙ ap (λ (now : Facts). fold (next plan) now (flat_map (registers plan) radios ++ Lost plan.lists.control ∷ []))
    (begins plan plan.lists.control small ∙ ap (up_if plan) known.lists.control)
    ∙ registers_all plan [] (noise_at_up plan) radios small known.system.leave_bit
