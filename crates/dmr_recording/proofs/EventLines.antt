-- The inputs of an event have lines.
use Rattle.std.proofs.Common.{◌≡◌, ℕ, zero, suc, ◌+◌, ◌/◌, ◌%◌, ◌<◌, ◌≤◌, Bool, true, false, if◌then◌else◌, List, [], ◌∷◌, ◌++◌, length}
use Rattle.std.proofs.Common.{Option, None, refl, ap, ◌∙◌, arith, ltb-true, le-ltb, take, ◌-◌}
use Rattle.std.specs.Prelude.{◌==◌, nat_lt}
use Rattle.hex.specs.Hex.{IsBytes}
use Rattle.dmr_bits.specs.Words.{word_octets}
use Rattle.dmr_bits.proofs.Laws.{word_octets-octets}
use Rattle.dmr_burst.specs.Functions.{burst_of}
use Rattle.dmr_plan.specs.declared.settings.Settings.{Settings}
use Rattle.dmr_core.specs.declared.command.Command.{Command}
use Rattle.dmr_core.specs.declared.event.Event.{Event}
use Rattle.dmr_core.specs.declared.event.Event.TheVariants as event
use Rattle.dmr_core.specs.CommandWords.{IsSaid, command_text}
use Rattle.dmr_frames.specs.declared.frame.FrameIn.TheVariants as frame
use Rattle.dmr_console.specs.Lines.{line_step_of, without_cr}
use Rattle.dmr_console.specs.declared.line_cutter.LineStep.TheVariants.{Line, TooLong}
use Rattle.dmr_link.specs.Console.{line_means, notice_of_command}
use Rattle.dmr_link.specs.Input.{Ticking}
use Rattle.dmr_link.specs.Notices.{Happened}
use Rattle.dmr_replay.specs.Script.{RepeatedInput}
use Rattle.dmr_recording.specs.Events.{lpcn_of, frame_from, noise_word, inputs_of_event, inputs_after_ticks, ticks_together}
use Rattle.dmr_recording.specs.Recordable.{IsRecordable, AreRecordable, up_after}
use Rattle.dmr_recording.proofs.CommandsAreRead.{command_free, command_read, command_short}
use Rattle.dmr_recording.proofs.FreeWords.{IsFree, free-at}
use Rattle.dmr_recording.proofs.LinesAreRead.{AreLines, lines-append, open_line, cut_line, tick_line, say_line, bytes_line}

-- ---- commands

-- the line of a command is its words
line_is : (t : List ℕ) → IsFree 13 t → length t ≤ 80 → line_step_of t ≡ Line (record { items = t })
line_is t free few =
    ap (λ (b : Bool). if b then TooLong else Line (record { items = without_cr t })) (le-ltb 80 (length t) few)
    ∙ ap (λ (b : Bool). Line (record { items = if b then take (length t - 1) t else t })) (free-at 13 t (length t - 1) (omega arith) free)

pub command_means : (command : Command) → IsSaid command → line_means (line_step_of (command_text command)) ≡ Happened
    (event.Say command) ∷ []
command_means command is =
    ap line_means (line_is (command_text command) (command_free command is 13 (omega arith)) (command_short command is))
    ∙ ap (λ (o : Option Command). notice_of_command o ∷ []) (command_read command is)

-- ---- frames

-- octets before octets
small-cons : (x : ℕ) (xs : List ℕ) → x < 256 → IsBytes xs → IsBytes (x ∷ xs)
small-cons x xs first others zero = first
small-cons x xs first others (suc k) = others k

small-none : IsBytes []
small-none k = omega arith

word_small : (word : List Bool) → IsBytes (word_octets word)
word_small word = (word_octets-octets word).small

rx_line : (c slot : ℕ) (word : List Bool) → c < 16 → slot < 2 → AreLines (frame_from c (frame.Rx None slot word))
rx_line c slot word small few = (
  bytes_line c 2 (26 ∷ slot ∷ word_octets word) small
      (small-cons 2 (26 ∷ slot ∷ word_octets word) (omega arith)
      (small-cons 26 (slot ∷ word_octets word) (omega arith) (small-cons slot (word_octets word) (omega arith) (word_small word)))),
  tt,
)

pub event_lines : (plan : Settings) (up : List Bool) (e : Event) → IsRecordable plan up e → AreLines (inputs_of_event plan e)
event_lines plan up (event.Up c) is =
    let l : ℕ = lpcn_of plan c in (
      open_line c is.0,
      (
        bytes_line c 1 (4 ∷ 1 ∷ c ∷ (l / 256) ∷ (l % 256) ∷ []) is.0
            (small-cons 1 (4 ∷ 1 ∷ c ∷ (l / 256) ∷ (l % 256) ∷ []) (omega arith)
            (small-cons 4 (1 ∷ c ∷ (l / 256) ∷ (l % 256) ∷ []) (omega arith)
            (small-cons 1 (c ∷ (l / 256) ∷ (l % 256) ∷ []) (omega arith)
            (small-cons c ((l / 256) ∷ (l % 256) ∷ []) (omega (arith, is.0))
            (small-cons (l / 256) ((l % 256) ∷ []) (omega (arith, is.1))
            (small-cons (l % 256) [] (omega arith) small-none)))))),
        tt,
      ),
    )
event_lines plan up (event.Lost c) is = (cut_line c is.0, tt)
event_lines plan up (event.Heard slot pdu) is = rx_line slot.carrier slot.slot (burst_of pdu) is.0.0 is.1
event_lines plan up (event.Noise slot) is = rx_line slot.carrier slot.slot noise_word is.0.0 is.1
event_lines plan up (event.Active slot) is = (
  bytes_line slot.carrier 4 (1 ∷ slot.slot ∷ []) is.0.0
      (small-cons 4 (1 ∷ slot.slot ∷ []) (omega arith)
      (small-cons 1 (slot.slot ∷ []) (omega arith) (small-cons slot.slot [] (omega (arith, is.1)) small-none))),
  tt,
)
event_lines plan up (event.Poll c) is =
    (bytes_line c 3 (0 ∷ []) is.0 (small-cons 3 (0 ∷ []) (omega arith) (small-cons 0 [] (omega arith) small-none)), tt)
event_lines plan up event.Tick is = (tick_line 1 (omega arith) (omega arith), tt)
event_lines plan up (event.Say command) is = (say_line (command_text command) (command_free command is 10 (omega arith)), tt)

-- ---- ticks, and events in a row

ticks_lines : (n : ℕ) → n ≤ 100000 → AreLines (ticks_together n)
ticks_lines n few = by (n == 0) refl
  where
    some : (m : ℕ) → (m == 0) ≡ false → 1 ≤ m
    some zero e = absurd (cc)
    some (suc m) e = omega arith

    by : (b : Bool) → (n == 0) ≡ b → AreLines (if b then [] else record { input = Ticking; times = n } ∷ [])
    by true e = tt
    by false e = (tick_line n (some n e) few, tt)

after : (n : ℕ) (few : n ≤ 100000) (gs hs : List RepeatedInput) → AreLines gs → AreLines hs → AreLines (ticks_together n ++ gs ++ hs)
after n few gs hs first second =
    lines-append (ticks_together n ++ gs) hs (lines-append (ticks_together n) gs (ticks_lines n few) first) second

pub all_lines : (plan : Settings) (up : List Bool) (n : ℕ) (events : List Event) → n ≤ 100000 → AreRecordable plan up events →
    AreLines (inputs_after_ticks plan n events)
all_lines plan up n [] few are = ticks_lines n few
all_lines plan up n (event.Tick ∷ es) few are =
    by (λ small. all_lines plan up (n + 1) es small are.1) (all_lines plan up 1 es (omega arith) are.1) (nat_lt n 100000) refl
  where
    by : (n + 1 ≤ 100000 → AreLines (inputs_after_ticks plan (n + 1) es)) → AreLines (inputs_after_ticks plan 1 es) → (b : Bool) →
        nat_lt n 100000 ≡ b
        → AreLines (if b then inputs_after_ticks plan (n + 1) es else ticks_together n ++ inputs_after_ticks plan 1 es)
    by more rest true e = more (omega (arith, ltb-true n 100000 e))
    by more rest false e = lines-append (ticks_together n) (inputs_after_ticks plan 1 es) (ticks_lines n few) rest
all_lines plan up n (e ∷ es) few are = after n few (inputs_of_event plan e) (inputs_after_ticks plan 0 es) (event_lines plan up e are.0)
    (all_lines plan (up_after up e) 0 es (omega arith) are.1)
