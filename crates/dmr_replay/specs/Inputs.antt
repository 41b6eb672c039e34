-- The output for the inputs of a script.
use Rattle.std.specs.Prelude.{ℕ, List, None, reverse}
use Rattle.dmr_plan.specs.declared.settings.Settings.{Settings}
use Rattle.dmr_core.specs.declared.entry.Entry.{Entry}
use Rattle.dmr_core.specs.Facts.{no_facts}
use Rattle.dmr_core.specs.Journal.{journal_of}
use Rattle.dmr_link.specs.Notices.{Notice}
use Rattle.dmr_link.specs.Input.{Input}
use Rattle.dmr_link.specs.Console.{console_text}
use Rattle.dmr_link.specs.Records.{all_mean, no_past}
use Rattle.dmr_link.specs.Session.{events_in, session_text}

-- the meaning of inputs if nothing came before them
abbrev pub meaning_of_inputs : Settings → List Input → List Notice
meaning_of_inputs plan inputs = all_mean plan no_past inputs

-- the one legal journal of the inputs' events, from a new site; the newest entry first
abbrev pub journal : Settings → List Input → List Entry
journal plan inputs = journal_of plan no_facts (reverse (events_in (meaning_of_inputs plan inputs)))

-- the octets written for a carrier: its session text
unfoldable pub octets_written : Settings → List Input → ℕ → List ℕ
octets_written plan inputs carrier =
    session_text None carrier (meaning_of_inputs plan inputs) (reverse (journal plan inputs))

-- the octets written for operators: the console text
unfoldable pub operators_text : Settings → List Input → List ℕ
operators_text plan inputs =
    console_text (meaning_of_inputs plan inputs) (reverse (journal plan inputs))
