-- The job that the words of the command line ask for.
use Rattle.std.specs.Prelude.{◌≡◌, ◌≢◌, ◌⊎◌, ℕ, List, [], ◌∷◌, Option, Some, None, true, is_some}
use Rattle.std.specs.Prelude.{codes, pos, ◌^◌, ◌<◌}
use Rattle.std.specs.Str.Parse.{IsNumeral, digits_value, without_leading_plus}
pub use Rattle.clap.specs.Words.{Text}
use Rattle.clap.specs.Words.{App, Kinds, Rule, fault_of, first_of, first_value, found_of}
use Rattle.clap.specs.Words.{matches_of, new_app, new_rule, one_of, one_text, with_rule}
use Rattle.clap.specs.declared.builder.action.ArgAction.TheVariants.{Set, SetTrue}
use Rattle.clap.specs.declared.builder.value_parser.ValueParser.TheVariants.{Signed}
use Rattle.clap.specs.declared.parser.matches.ArgMatches.{ArgMatches}
use Rattle.dmr_command.specs.declared.words.Job.{Job}
use Rattle.dmr_command.specs.declared.words.Job.TheVariants.{Script, Serve}

-- an option `--NAME FILE`
abbrev file_option : Text → Rule
file_option name = record (new_rule name) {
  long = Some name;
  action = Some Set;
  value_names = 1;
}

-- `--site FILE`, which is required
abbrev pub site_option : Rule
site_option = record (file_option (codes "site")) { required = true }

-- `--script FILE`
abbrev pub script_option : Rule
script_option = file_option (codes "script")

-- `--serve`
abbrev pub serve_flag : Rule
serve_flag = record (new_rule (codes "serve")) {
  long = Some (codes "serve");
  action = Some SetTrue;
}

-- `--terms N`, N from 0 to 1,000,000, and 0 if it is not given
abbrev pub terms_option : Rule
terms_option = record (new_rule (codes "terms")) {
  long = Some (codes "terms");
  action = Some Set;
  value_names = 1;
  defaults = codes "0" ∷ [];
  parser = Some (Signed (pos 0) (pos 1000000));
}

-- a command line of this name, with a version and no option yet
abbrev pub titled_command : App
titled_command =
    let app = new_app (codes "dmr_trunk") in
    record app { top = record app.top { has_version = true } }

-- the program's command line: `dmr_trunk --site FILE [--script FILE] [--serve]
-- [--terms N]`, and `--help` and `--version`
abbrev pub command : App
command =
    with_rule (with_rule (with_rule (with_rule titled_command site_option) script_option)
    serve_flag) terms_option

-- the kinds of fault that a parse of the words finds; none if the words are accepted. A request for help or for the
-- version is one
unfoldable pub faults_in : List Text → Kinds
faults_in words = fault_of command words

-- the value of an option in a parse of the words
unfoldable pub value_in : List Text → Text → Option Text
value_in words option = first_of option (matches_of command words)

-- the same, as a flag or a number is read from it
unfoldable pub one_in : List Text → Text → Option Text
one_in words option = one_of option (matches_of command words)

-- a flag is set; a flag is not set
abbrev pub IsSet : Option Text → Type 0
IsSet text = (text ≢ None) × (text ≢ Some (codes "false"))

abbrev pub IsUnset : Option Text → Type 0
IsUnset text = text ≢ Some (codes "true")

-- a text spells a number in decimal
abbrev pub SpellsNumber : Text → ℕ → Type 0
SpellsNumber text number =
    IsNumeral 10 (without_leading_plus text)
    × (digits_value 10 (without_leading_plus text) ≡ number) × (number < 2 ^ 32)

-- the number that a text spells; 0 if there is no text, or it does not spell a number
abbrev pub AreTerms : Option Text → ℕ → Type 0
AreTerms None terms = terms ≡ 0
AreTerms (Some text) terms =
    SpellsNumber text terms ⊎ ((terms ≡ 0) × ((number : ℕ) → SpellsNumber text number → ⊥))

-- options of these values ask for this job
abbrev pub IsAsked : (Text → Option Text) → (Text → Option Text) → Job → Type 0
IsAsked value one (Script site script) =
    (value (codes "site") ≡ Some site.now) × (value (codes "script") ≡ Some script.now)
    × IsUnset (one (codes "serve"))
IsAsked value one (Serve site terms) =
    (value (codes "site") ≡ Some site.now) × (value (codes "script") ≡ None)
    × IsSet (one (codes "serve")) × AreTerms (one (codes "terms")) terms

-- there is neither a script nor `--serve`, or there are both
abbrev pub IsNotOne : (Text → Option Text) → (Text → Option Text) → Type 0
IsNotOne value one =
    ((value (codes "script") ≡ None) × IsUnset (one (codes "serve")))
    ⊎ ((is_some (value (codes "script")) ≡ true) × IsSet (one (codes "serve")))

-- the values found are those of a parse of the words; there is a site file
pub record HasRead (words : List Text) (found : ArgMatches) : Type 0 where
  pub taken : faults_in words ≡ []
  pub values : (option : Text) → first_value (found_of found) option ≡ value_in words option
  pub ones : (option : Text) → one_text (found_of found) option ≡ one_in words option
  pub site : is_some (first_value (found_of found) (codes "site")) ≡ true

-- the words are accepted, and ask for this job
abbrev pub AskFor : List Text → Job → Type 0
AskFor words job = (faults_in words ≡ []) × IsAsked (value_in words) (one_in words) job

-- the words are refused: by the word reader, or because they do not ask for exactly one job
abbrev pub AreRefused : List Text → Type 0
AreRefused words = (faults_in words ≢ []) ⊎ IsNotOne (value_in words) (one_in words)
