-- The inputs of events in a row mean these events, and are read back from their lines.
use Rattle.std.proofs.Common.{◌≡◌, ℕ, zero, suc, ◌+◌, Bool, true, false, if◌then◌else◌, List, [], ◌∷◌, ◌++◌, length, Option, Some, None, Ok}
use Rattle.std.proofs.Common.{map, replicate, refl, sym, ap, subst, ◌∙◌, append_assoc, append-nil, arith, length-set, get_or, eqb-true}
use Rattle.std.specs.Prelude.{◌==◌, nat_lt}
use Rattle.std.proofs.lemmas.Grind.{flat_map-append}
use Rattle.std.proofs.lemmas.List.{map-append}
use Rattle.dmr_bptc.specs.Functions.{encoding_of, grid_with_parities, information_grid}
use Rattle.dmr_csbk.specs.Check.{with_check}
use Rattle.dmr_pdu.specs.Functions.{octets_of}
use Rattle.dmr_burst.specs.Functions.{burst_of, meaning_of}
use Rattle.dmr_pdu.specs.declared.pdu.Pdu.{Pdu}
use Rattle.dmr_plan.specs.declared.settings.Settings.{Settings}
use Rattle.dmr_core.specs.declared.event.Event.{Event}
use Rattle.dmr_core.specs.declared.event.Event.TheVariants as event
use Rattle.dmr_core.specs.CommandWords.{command_text}
use Rattle.dmr_frames.specs.declared.frame.FrameIn.TheVariants as frame
use Rattle.dmr_link.specs.Identities.{who_of}
use Rattle.dmr_link.specs.Input.{Input, Ticking}
use Rattle.dmr_link.specs.Meaning.{event_of_burst}
use Rattle.dmr_link.specs.Notices.{Notice, Happened}
use Rattle.dmr_link.specs.declared.connection.Connection.TheVariants.{Closed}
use Rattle.dmr_link.specs.Records.{no_past}
use Rattle.dmr_replay.specs.Script.{RepeatedInput, inputs_of_script, script_of}
use Rattle.dmr_recording.specs.Events.{inputs_after_ticks, inputs_of_event, inputs_of_events, noise_word, notice_of_event, ticks_together}
use Rattle.dmr_recording.specs.Recordable.{AreRecordable, IsRecordable, up_after, up_after_all}
use Rattle.dmr_recording.specs.Lines.{line_of, text_of}
use Rattle.dmr_recording.specs.Records.{IsConnectionOf, Matches, Records}
use Rattle.dmr_recording.proofs.ConnectionsAreMeant.{ConnectionLaws, active_quiet, poll_quiet, rx_quiet}
use Rattle.dmr_recording.proofs.EventLines.{all_lines, command_means}
use Rattle.dmr_recording.proofs.EventsAreMeant.{AreMeant, LineLaws, frame_meant, lost_meant, say_meant, some_who, then_meant, ticks_meant}
use Rattle.dmr_recording.proofs.EventsAreMeant.{up_meant, who_is}
use Rattle.dmr_recording.proofs.CommandsAreRead.{command_free}
use Rattle.dmr_recording.proofs.LinesAreRead.{text_read}
use Rattle.dmr_recording.proofs.NoiseMeansNothing.{CodeLaws, noise_means_nothing}
use Rattle.dmr_bptc.proofs.Laws.{length-grid_word}

encoding_length : (octets : List ℕ) → length (encoding_of octets) ≡ 196
unfolding encoding_of
encoding_length octets = length-grid_word (grid_with_parities (information_grid octets))

burst_length : (pdu : Pdu) → length (burst_of pdu) ≡ 196
unfolding burst_of
burst_length pdu = encoding_length (with_check (octets_of pdu))

abbrev tick : Notice
tick = Happened event.Tick

-- the lines of these inputs mean these notices
abbrev Meant : Settings → List Bool → List Bool → List RepeatedInput → List Notice → Type 0
Meant plan up later given notices = AreMeant plan up later (inputs_of_script given) notices

inputs-append : (gs hs : List RepeatedInput) → inputs_of_script (gs ++ hs) ≡ inputs_of_script gs ++ inputs_of_script hs
inputs-append gs hs = flat_map-append (λ (g : RepeatedInput). replicate g.times g.input) gs hs

then_lines : (plan : Settings) (up more later : List Bool) (gs hs : List RepeatedInput) (ns ms : List Notice) → Meant plan up more gs ns →
    Meant plan more later hs ms → Meant plan up later (gs ++ hs) (ns ++ ms)
then_lines plan up more later gs hs ns ms first second =
    subst (λ (is : List Input). AreMeant plan up later is (ns ++ ms)) (sym (inputs-append gs hs))
    (then_meant plan up more later (inputs_of_script gs) (inputs_of_script hs) ns ms first second)

ticks_lines_meant : (plan : Settings) (up : List Bool) (n : ℕ) → Meant plan up up (ticks_together n) (replicate n tick)
ticks_lines_meant plan up n = by n (n == 0) refl
  where
    by : (m : ℕ) (b : Bool) → (m == 0) ≡ b → Meant plan up up (if b then [] else record { input = Ticking; times = m } ∷ [])
        (replicate m tick)
    by zero true e = ticks_meant plan up 0
    by zero false e = absurd (cc)
    by (suc m) true e = absurd (omega (arith, eqb-true (suc m) 0 e))
    by (suc m) false e = subst (λ (is : List Input). AreMeant plan up up is (replicate (suc m) tick))
        (sym (append-nil (replicate (suc m) Ticking))) (ticks_meant plan up (suc m))

module _ (laws : ConnectionLaws) (lines : LineLaws) (code : CodeLaws) (plan : Settings) where
  -- a frame of a carrier that is up
  module _ (up : List Bool) where
    -- the event of an RX
    heard_is : (slot : _) (pdu : Pdu) → meaning_of (burst_of pdu) ≡ Some pdu →
        Happened (event_of_burst slot (meaning_of (burst_of pdu))) ≡ Happened (event.Heard slot pdu)
    heard_is slot pdu means = ap (λ (o : Option Pdu). Happened (event_of_burst slot o)) means

  event_meant : (up : List Bool) (e : Event) → length up ≡ 16 → IsRecordable plan up e →
      Meant plan up (up_after up e) (inputs_of_event plan e) (notice_of_event e ∷ [])
  event_meant up (event.Up c) len is =
      let who = some_who (who_of plan c) is.2 in
      up_meant laws plan up c who.0 who.1 is.0 is.3 (omega (arith, (who_is plan c who.0 who.1).1, is.1)) (omega (arith, len, is.0))
  event_meant up (event.Lost c) len is =
      let who = some_who (who_of plan c) is.2 in
      lost_meant laws plan up c who.0 who.1 is.0 is.3 (omega (arith, len, is.0))
  event_meant up (event.Heard slot pdu) len is =
      let who = some_who (who_of plan slot.carrier) is.0.2 in
      subst (λ (n : Notice). Meant plan up up (inputs_of_event plan (event.Heard slot pdu)) (n ∷ [])) (heard_is up slot pdu is.2)
      (frame_meant laws plan up slot.carrier who.0 who.1 is.0.0 is.0.3 (frame.Rx None slot.slot (burst_of pdu))
      (rx_quiet slot.slot (burst_of pdu) is.1 (burst_length pdu)) (omega (arith, (who_is plan slot.carrier who.0 who.1).1, is.0.1)))
  event_meant up (event.Noise slot) len is =
      let who = some_who (who_of plan slot.carrier) is.0.2 in
      subst (λ (n : Notice). Meant plan up up (inputs_of_event plan (event.Noise slot)) (n ∷ []))
      (ap (λ (o : Option Pdu). Happened (event_of_burst slot o)) (noise_means_nothing code))
      (frame_meant laws plan up slot.carrier who.0 who.1 is.0.0 is.0.3 (frame.Rx None slot.slot noise_word)
      (rx_quiet slot.slot noise_word is.1 refl) (omega (arith, (who_is plan slot.carrier who.0 who.1).1, is.0.1)))
  event_meant up (event.Active slot) len is =
      let who = some_who (who_of plan slot.carrier) is.0.2 in
      frame_meant laws plan up slot.carrier who.0 who.1 is.0.0 is.0.3 (frame.Active slot.slot) (active_quiet slot.slot is.1)
      (omega (arith, (who_is plan slot.carrier who.0 who.1).1, is.0.1))
  event_meant up (event.Poll c) len is =
      let who = some_who (who_of plan c) is.2 in
      frame_meant laws plan up c who.0 who.1 is.0 is.3 frame.Poll poll_quiet (omega (arith, (who_is plan c who.0 who.1).1, is.1))
  event_meant up event.Tick len is = ticks_meant plan up 1
  event_meant up (event.Say command) len is = say_meant lines plan up (command_text command) (command_free command is 10 (omega arith))
      (notice_of_event (event.Say command) ∷ []) (command_means command is)

  up_length : (up : List Bool) (e : Event) → length up ≡ 16 → length (up_after up e) ≡ 16
  up_length up (event.Up c) len = length-set up c true ∙ len
  up_length up (event.Lost c) len = length-set up c false ∙ len
  up_length up e len = len

  replicate_more : (n : ℕ) (ns : List Notice) → replicate (n + 1) tick ++ ns ≡ replicate n tick ++ tick ∷ ns
  replicate_more zero ns = refl
  replicate_more (suc n) ns = let e : suc n + 1 ≡ suc (n + 1) =
      omega arith in ap (λ (k : ℕ). replicate k tick ++ ns) e ∙ ap (λ (ms : List Notice). tick ∷ ms) (replicate_more n ns)

  all_meant : (up : List Bool) (n : ℕ) (events : List Event) → length up ≡ 16 → AreRecordable plan up events
      → Meant plan up (up_after_all up events) (inputs_after_ticks plan n events) (replicate n tick ++ map notice_of_event events)
  all_meant up n [] len are = subst (λ (ns : List Notice). Meant plan up up (ticks_together n) ns) (sym (append-nil (replicate n tick)))
      (ticks_lines_meant plan up n)
  all_meant up n (event.Tick ∷ es) len are = by (all_meant up (n + 1) es len are.1) (all_meant up 1 es len are.1) (nat_lt n 100000)
    where
      by : Meant plan up (up_after_all up es) (inputs_after_ticks plan (n + 1) es) (replicate (n + 1) tick ++ map notice_of_event es) →
          Meant plan up (up_after_all up es) (inputs_after_ticks plan 1 es) (replicate 1 tick ++ map notice_of_event es) → (b : Bool)
          → Meant plan up (up_after_all up es)
          (if b then inputs_after_ticks plan (n + 1) es else ticks_together n ++ inputs_after_ticks plan 1 es)
          (replicate n tick ++ tick ∷ map notice_of_event es)
      by more others true = subst (λ (ns : List Notice). Meant plan up (up_after_all up es) (inputs_after_ticks plan (n + 1) es) ns)
          (replicate_more n (map notice_of_event es)) more
      by more others false = then_lines plan up up (up_after_all up es) (ticks_together n) (inputs_after_ticks plan 1 es) (replicate n tick)
          (tick ∷ map notice_of_event es) (ticks_lines_meant plan up n) others
  all_meant up n (e ∷ es) len are =
      subst (λ (ns : List Notice). Meant plan up (up_after_all (up_after up e) es)
      (ticks_together n ++ inputs_of_event plan e ++ inputs_after_ticks plan 0 es) ns)
      (append_assoc (replicate n tick) (notice_of_event e ∷ []) (map notice_of_event es))
      (then_lines plan up (up_after up e) (up_after_all (up_after up e) es) (ticks_together n ++ inputs_of_event plan e)
      (inputs_after_ticks plan 0 es) (replicate n tick ++ notice_of_event e ∷ []) (map notice_of_event es)
      (then_lines plan up up (up_after up e) (ticks_together n) (inputs_of_event plan e) (replicate n tick) (notice_of_event e ∷ [])
      (ticks_lines_meant plan up n) (event_meant up e len are.0))
      (all_meant (up_after up e) 0 es (up_length up e len) are.1))

  pub recorded : (up : List Bool) (events : List Event) → length up ≡ 16 → AreRecordable plan up events →
      Records plan up (up_after_all up events) events (inputs_of_events plan events)
  recorded up events len are =
      let meant = all_meant up 0 events len are in
      record {
        script = text_read (inputs_of_events plan events) (all_lines plan up 0 events (omega arith) are);
        means = meant.means;
        leaves = meant.leaves;
      }

-- ---- recordings

pub all_false : (n k : ℕ) → get_or (replicate n false) k false ≡ false
all_false zero k = refl
all_false (suc n) zero = refl
all_false (suc n) (suc k) = all_false n k

-- nothing matches that no carrier is up
pub nothing_matches : (plan : Settings) → Matches plan (replicate 16 false) no_past
nothing_matches plan = record {
  carriers = λ c who is. subst (λ (b : Bool). IsConnectionOf who b Closed) (sym (all_false 16 c)) refl;
  console = refl;
}

-- one recording after another
pub joined : (plan : Settings) (up more later : List Bool) (es fs : List Event) (gs hs : List RepeatedInput) → Records plan up more es gs →
    Records plan more later fs hs → Records plan up later (es ++ fs) (gs ++ hs)
joined plan up more later es fs gs hs first second =
    let one : Meant plan up more gs (map notice_of_event es) = record { means = first.means; leaves = first.leaves } in
    let two : Meant plan more later hs (map notice_of_event fs) = record { means = second.means; leaves = second.leaves } in
    let both : Meant plan up later (gs ++ hs) (map notice_of_event es ++ map notice_of_event fs) =
    then_lines plan up more later gs hs (map notice_of_event es) (map notice_of_event fs) one two in
    record {
      script = λ text after ok.
          ap script_of (ap (λ (t : List ℕ). t ++ text) (flat_map-append line_of gs hs) ∙ append_assoc (text_of gs) (text_of hs) text)
          ∙ first.script (text_of hs ++ text) (hs ++ after) (second.script text after ok)
          ∙ ap (λ (l : List RepeatedInput). Ok l) (sym (append_assoc gs hs after));
      means = λ past matches. both.means past matches ∙ sym (map-append notice_of_event es fs);
      leaves = both.leaves;
    }
