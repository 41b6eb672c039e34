-- The text that a replay prints, or the reason why it prints nothing.
use Rattle.std.specs.Prelude.{◌≡◌, ⊤, ℕ, Bool, true, false, List, [], ◌∷◌, ◌++◌, Option, Some, None}
use Rattle.std.specs.Prelude.{Result, Ok, Err, if◌then◌else◌, codes, flat_map}
use Rattle.std.specs.List.{range_with_len}
use Rattle.std.specs.Fmt.{decimal}
use Rattle.std.specs.Io.KnownBytes.{Appends}
use Rattle.std.specs.Str.{is_utf8}
use Rattle.hex.specs.Hex.{encode_upper}
use Rattle.dmr_pdu.specs.Slots.{carriers_of_site}
use Rattle.dmr_plan.specs.declared.fault.PlanFault.{PlanFault}
use Rattle.dmr_plan.specs.declared.fault.PlanFault.TheVariants.{NotToml}
use Rattle.dmr_plan.specs.declared.settings.Settings.{Settings}
use Rattle.dmr_plan.specs.Carriers.{has_number_in}
use Rattle.dmr_plan.specs.Plan.{plan_of_text}
use Rattle.dmr_replay.specs.declared.replaying.ReplayFault.{ReplayFault}
use Rattle.dmr_replay.specs.declared.replaying.ReplayFault.TheVariants as fault
use Rattle.dmr_replay.specs.Inputs.{octets_written, operators_text}
use Rattle.dmr_replay.specs.Script.{RepeatedInput, inputs_of_script, script_of}

-- ---- the text

-- octets in upper case hexadecimal digits; `-` if there are none
abbrev pub digits_or_dash : List ℕ → List ℕ
digits_or_dash [] = codes "-"
digits_or_dash (octet ∷ octets) = encode_upper (octet ∷ octets)

-- the line of a carrier: its number, and the octets written for it
abbrev pub carrier_line : ℕ → List ℕ → List ℕ
carrier_line number octets =
    codes "carrier " ++ decimal number ++ codes " " ++ digits_or_dash octets ++ codes "\n"

-- the line of a carrier of the plan; empty if the plan does not have the number
abbrev pub line_of_number : Settings → (ℕ → List ℕ) → ℕ → List ℕ
line_of_number plan octets_written number =
    if has_number_in plan.lists.carriers number then carrier_line number (octets_written number)
    else []

-- a line for each carrier of the plan, by number
abbrev pub lines_to : Settings → (ℕ → List ℕ) → ℕ → List ℕ
lines_to plan octets_written numbers =
    flat_map (line_of_number plan octets_written) (range_with_len 0 numbers)

-- the whole text: the carriers' lines, and then the operators' text unchanged
abbrev pub printed_text : Settings → (ℕ → List ℕ) → List ℕ → List ℕ
printed_text plan octets_written console = lines_to plan octets_written carriers_of_site ++ console

-- ---- the outcome for two files

-- the outcome of a replay: a text to print, or the first fault, the site file's before the script's
pub data Outcome : Type 0 where
  Prints : (text : List ℕ) → Outcome
  SiteNotRead : Outcome
  NoPlan : (fault : PlanFault) → Outcome
  ScriptNotRead : Outcome
  NoLine : (number : ℕ) → Outcome

-- the plan of a site file, or its first fault; octets that are not UTF-8 are not TOML
abbrev pub plan_in : List ℕ → Result Settings PlanFault
plan_in site = if is_utf8 site then plan_of_text site else Err NotToml

-- the outcome for the lines of a script: the output for their inputs, or the number of the first line at fault
abbrev pub of_lines : Settings → Result (List RepeatedInput) ℕ → Outcome
of_lines plan (Err number) = NoLine number
of_lines plan (Ok given) =
    Prints (printed_text plan (octets_written plan (inputs_of_script given))
    (operators_text plan (inputs_of_script given)))

-- the outcome for a script: a fault if it could not be read
abbrev pub of_script : Settings → Option (List ℕ) → Outcome
of_script plan None = ScriptNotRead
of_script plan (Some script) = of_lines plan (script_of script)

-- the outcome for a plan and a script, or the fault of the site file
abbrev pub of_plan : Result Settings PlanFault → Option (List ℕ) → Outcome
of_plan (Err fault) script = NoPlan fault
of_plan (Ok plan) script = of_script plan script

-- the outcome for the octets of the two files, with none for a file that could not be read
abbrev pub outcome : Option (List ℕ) → Option (List ℕ) → Outcome
outcome None script = SiteNotRead
outcome (Some site) script = of_plan (plan_in site) script

-- ---- the report of the outcome

-- whether there is a text to print
abbrev pub is_printed : Outcome → Bool
is_printed (Prints text) = true
is_printed other = false

-- there is a text to print, and the writer, if its octets are known, received the whole of it
abbrev pub IsPrinted : Outcome → Option (List ℕ) → Option (List ℕ) → Type 0
IsPrinted (Prints text) old new = Appends old new text
IsPrinted other old new = ⊥

-- the reported fault is the first one, with the name of a file that could not be read; running out of memory may always
-- be reported instead
abbrev pub ReportsFault : List ℕ → List ℕ → Outcome → ReplayFault → Type 0
ReportsFault site script SiteNotRead (fault.CannotRead name) = name.now ≡ site
ReportsFault site script ScriptNotRead (fault.CannotRead name) = name.now ≡ script
ReportsFault site script (NoPlan plan_fault) (fault.SiteFile told) = told ≡ plan_fault
ReportsFault site script (NoLine line) (fault.ScriptLine told) = told ≡ line
ReportsFault site script outcome fault.OutOfMemory = ⊤
ReportsFault site script outcome fault = ⊥

-- the exit status of a fault: 4 if memory ran out, else 1
abbrev pub status_of : ReplayFault → ℕ
status_of fault.OutOfMemory = 4
status_of fault = 1
