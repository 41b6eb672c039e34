-- Worked values of command lines. The first word is the program's name.
use Rattle.std.proofs.Common.{◌≡◌, List, [], ◌∷◌, Some, None, codes, refl}
use Rattle.clap.specs.Words.{Text}
use Rattle.clap.proofs.OnLiterals.{clap_on_literals}
use Rattle.clap.specs.declared.error.kind.ErrorKind.TheVariants.{ArgumentConflict, DisplayHelp, DisplayVersion, InvalidValue}
use Rattle.clap.specs.declared.error.kind.ErrorKind.TheVariants.{MissingRequiredArgument, UnknownArgument, ValueValidation}
use Rattle.dmr_command.specs.Words.{faults_in, one_in, value_in}

abbrev both : List Text
both = codes "dmr_trunk" ∷ codes "--site" ∷ codes "a.toml" ∷ codes "--script" ∷ codes "b.txt" ∷ []

abbrev by_equals : List Text
by_equals = codes "dmr_trunk" ∷ codes "--script=b.txt" ∷ codes "--site=a.toml" ∷ []

taken : faults_in both ≡ []
unfolding clap_on_literals faults_in
taken = refl

site_of_both : value_in both (codes "site") ≡ Some (codes "a.toml")
unfolding clap_on_literals value_in
site_of_both = refl

script_of_both : value_in both (codes "script") ≡ Some (codes "b.txt")
unfolding clap_on_literals value_in
script_of_both = refl

taken_by_equals : faults_in by_equals ≡ []
unfolding clap_on_literals faults_in
taken_by_equals = refl

site_by_equals : value_in by_equals (codes "site") ≡ Some (codes "a.toml")
unfolding clap_on_literals value_in
site_by_equals = refl

no_site : faults_in (codes "dmr_trunk" ∷ codes "--script" ∷ codes "b.txt" ∷ []) ≡ MissingRequiredArgument ∷ []
unfolding clap_on_literals faults_in
no_site = refl

-- if a script is given without `--serve`, the flag is false, and there are 0 terms
flag_of_both : one_in both (codes "serve") ≡ Some (codes "false")
unfolding clap_on_literals one_in
flag_of_both = refl

terms_of_both : one_in both (codes "terms") ≡ Some (codes "0")
unfolding clap_on_literals one_in
terms_of_both = refl

abbrev served : List Text
served = codes "dmr_trunk" ∷ codes "--site" ∷ codes "a.toml" ∷ codes "--serve" ∷ codes "--terms" ∷ codes "12" ∷ []

taken_served : faults_in served ≡ []
unfolding clap_on_literals faults_in
taken_served = refl

flag_of_served : one_in served (codes "serve") ≡ Some (codes "true")
unfolding clap_on_literals one_in
flag_of_served = refl

terms_of_served : one_in served (codes "terms") ≡ Some (codes "12")
unfolding clap_on_literals one_in
terms_of_served = refl

script_of_served : value_in served (codes "script") ≡ None
unfolding clap_on_literals value_in
script_of_served = refl

most_terms : faults_in (codes "dmr_trunk" ∷ codes "--site" ∷ codes "a.toml" ∷ codes "--serve" ∷ codes "--terms" ∷ codes "1000000" ∷ []) ≡ []
unfolding clap_on_literals faults_in
most_terms = refl

too_many_terms : faults_in (codes "dmr_trunk" ∷ codes "--site" ∷ codes "a.toml" ∷ codes "--serve" ∷ codes "--terms" ∷ codes "1000001" ∷ [])
    ≡ ValueValidation ∷ []
unfolding clap_on_literals faults_in
too_many_terms = refl

no_file : faults_in (codes "dmr_trunk" ∷ codes "--script" ∷ codes "b.txt" ∷ codes "--site" ∷ []) ≡ InvalidValue ∷ []
unfolding clap_on_literals faults_in
no_file = refl

two_sites : faults_in (codes "dmr_trunk" ∷ codes "--site" ∷ codes "a.toml" ∷ codes "--site" ∷ codes "c.toml" ∷ []) ≡ ArgumentConflict ∷ []
unfolding clap_on_literals faults_in
two_sites = refl

another_word : faults_in (codes "dmr_trunk" ∷ codes "now" ∷ []) ≡ UnknownArgument ∷ []
unfolding clap_on_literals faults_in
another_word = refl

-- a request for help is a refusal
help : faults_in (codes "dmr_trunk" ∷ codes "--help" ∷ []) ≡ DisplayHelp ∷ []
unfolding clap_on_literals faults_in
help = refl

-- a request for the version is a refusal
versioned : faults_in (codes "dmr_trunk" ∷ codes "--version" ∷ []) ≡ DisplayVersion ∷ []
unfolding clap_on_literals faults_in
versioned = refl
