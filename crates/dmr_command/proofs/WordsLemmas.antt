-- A parse of the program's command finds a value for its site file, and its values are those of the words.
use Rattle.std.proofs.Common.{◌≡◌, ◌⊎◌, ℕ, zero, suc, List, [], ◌∷◌, codes, is_some, true, false, refl, sym, ap, ◌∙◌, subst, inl, inr}
use Rattle.std.proofs.Common.{arith}
use Rattle.std.specs.Prelude.{All, Result, Ok, Err, IfOk, IfErr}
use Rattle.std.specs.Str.{bytes_eq}
use Rattle.std.proofs.lemmas.Bool.{false≢true}
use Rattle.std.proofs.lemmas.Slice.Eq.{bytes_eq-Decides}
use Rattle.clap.specs.Facts.{args_of, groups_of}
use Rattle.clap.specs.Built.{AddsArg, AddsInTurn, FitsChain, HasDistinctIds, IsParsedFrom, IsPlainArg, TakesValue}
use Rattle.clap.specs.Words.{App, FailsBy, HasKind, HasMatchesOf, IsAmong, Kinds, Text, fault_of, first_of, first_value, found_of}
use Rattle.clap.specs.Words.{is_simple, is_simple_and_free, kind_of, matches_of, one_of, one_text, Rule, rule_of, app_of, with_rule}
use Rattle.clap.proofs.OnLiterals.{clap_on_literals}
use Rattle.clap.proofs.WalkLemmas.{first_value-rows, one_text-rows}
use Rattle.clap.specs.declared.error.Error.{Error}
use Rattle.clap.specs.declared.error.kind.ErrorKind.TheVariants.{OutOfMemory}
use Rattle.clap.proofs.CallerLemmas.{required_in_chain}
use Rattle.clap.specs.declared.builder.arg.Arg.{Arg}
use Rattle.clap.specs.declared.builder.command.Command.{Command}
use Rattle.clap.specs.declared.builder.command.Command.TheViews.{out-Command}
use Rattle.clap.specs.declared.parser.matches.ArgMatches.{ArgMatches}
use Rattle.dmr_command.specs.Words.{HasRead, command, faults_in, one_in, script_option, serve_flag, site_option, terms_option}
use Rattle.dmr_command.specs.Words.{titled_command, value_in}

-- an option of this id
pub record IsOption (a : Arg) (id : List ℕ) : Type 0 where
  pub id_is : a.id.now ≡ id
  pub plain : IsPlainArg a
  pub local : a.global ≡ false

fits : (a : Arg) (id : List ℕ) → IsOption a id → (id ≡ [] → ⊥) → (id ≡ codes "help" → ⊥) → (id ≡ codes "version" → ⊥) → FitsChain a
fits a id is some no_help no_version = (
  is.plain,
  is.local,
  (λ e. some (sym is.id_is ∙ e)),
  (λ auto. elim auto [ inl e ↦ no_help (sym is.id_is ∙ e) | inr e ↦ no_version (sym is.id_is ∙ e) ]),
)

apart : (xs ys : List ℕ) → bytes_eq xs ys ≡ false → xs ≡ ys → ⊥
apart xs ys unequal e = false≢true (sym unequal ∙ (bytes_eq-Decides xs ys).1 e)

ids_apart : (a b : Arg) (x y : List ℕ) → a.id.now ≡ x → b.id.now ≡ y → bytes_eq x y ≡ false → bytes_eq a.id.now b.id.now ≡ true → ⊥
ids_apart a b x y is other unequal e = apart x y unequal (sym is ∙ (bytes_eq-Decides a.id.now b.id.now).0 e ∙ other)

module _ (a b d f : Arg) (is_site : IsOption a (codes "site")) (is_script : IsOption b (codes "script"))
    (is_serve : IsOption d (codes "serve")) (is_terms : IsOption f (codes "terms")) where
  all : All FitsChain (a ∷ b ∷ d ∷ f ∷ [])
  all zero x lt = fits a (codes "site") is_site (apart _ _ refl) (apart _ _ refl) (apart _ _ refl)
  all (suc zero) x lt = fits b (codes "script") is_script (apart _ _ refl) (apart _ _ refl) (apart _ _ refl)
  all (suc (suc zero)) x lt = fits d (codes "serve") is_serve (apart _ _ refl) (apart _ _ refl) (apart _ _ refl)
  all (suc (suc (suc zero))) x lt = fits f (codes "terms") is_terms (apart _ _ refl) (apart _ _ refl) (apart _ _ refl)
  all (suc (suc (suc (suc k)))) x lt = absurd (omega arith)

  distinct : HasDistinctIds (a ∷ b ∷ d ∷ f ∷ [])
  distinct zero zero x y p q same = refl
  distinct zero (suc zero) x y p q same = absurd (ids_apart a b _ _ is_site.id_is is_script.id_is refl same)
  distinct zero (suc (suc zero)) x y p q same = absurd (ids_apart a d _ _ is_site.id_is is_serve.id_is refl same)
  distinct zero (suc (suc (suc zero))) x y p q same = absurd (ids_apart a f _ _ is_site.id_is is_terms.id_is refl same)
  distinct (suc zero) zero x y p q same = absurd (ids_apart b a _ _ is_script.id_is is_site.id_is refl same)
  distinct (suc zero) (suc zero) x y p q same = refl
  distinct (suc zero) (suc (suc zero)) x y p q same = absurd (ids_apart b d _ _ is_script.id_is is_serve.id_is refl same)
  distinct (suc zero) (suc (suc (suc zero))) x y p q same = absurd (ids_apart b f _ _ is_script.id_is is_terms.id_is refl same)
  distinct (suc (suc zero)) zero x y p q same = absurd (ids_apart d a _ _ is_serve.id_is is_site.id_is refl same)
  distinct (suc (suc zero)) (suc zero) x y p q same = absurd (ids_apart d b _ _ is_serve.id_is is_script.id_is refl same)
  distinct (suc (suc zero)) (suc (suc zero)) x y p q same = refl
  distinct (suc (suc zero)) (suc (suc (suc zero))) x y p q same = absurd (ids_apart d f _ _ is_serve.id_is is_terms.id_is refl same)
  distinct (suc (suc (suc zero))) zero x y p q same = absurd (ids_apart f a _ _ is_terms.id_is is_site.id_is refl same)
  distinct (suc (suc (suc zero))) (suc zero) x y p q same = absurd (ids_apart f b _ _ is_terms.id_is is_script.id_is refl same)
  distinct (suc (suc (suc zero))) (suc (suc zero)) x y p q same = absurd (ids_apart f d _ _ is_terms.id_is is_serve.id_is refl same)
  distinct (suc (suc (suc zero))) (suc (suc (suc zero))) x y p q same = refl
  distinct (suc (suc (suc (suc j)))) k x y lt l same = absurd (omega arith)
  distinct j (suc (suc (suc (suc k)))) x y l lt same = absurd (omega arith)

  module _ (start one two three cmd : Command) (first : AddsArg start a one) (second : AddsArg one b two) (third : AddsArg two d three)
      (fourth : AddsArg three f cmd)
      (args : args_of start ≡ []) (groups : groups_of start ≡ []) (globals : (out-Command start).has_globals ≡ false)
      (negates : (out-Command start).subcommand_negates_reqs ≡ false) where
    chain : AddsInTurn AddsArg start (a ∷ b ∷ d ∷ f ∷ []) cmd
    chain = (one, first, (two, second, (three, third, (cmd, fourth, refl))))

    pub site_given : TakesValue a → (m : ArgMatches) → IsParsedFrom cmd m → is_some (first_value (found_of m) (codes "site")) ≡ true
    site_given value m parsed =
        rw (← is_site.id_is) (required_in_chain start cmd (a ∷ b ∷ d ∷ f ∷ []) 0 a m chain args groups globals negates all distinct
        (omega arith) value parsed)

    app_step : (x y : App) (r t : Rule) → x ≡ y → r ≡ t → with_rule x r ≡ with_rule y t
    app_step x y r t e same = ap (λ (z : App). with_rule z r) e ∙ ap (λ (u : Rule). with_rule y u) same

    pub app_given : app_of start ≡ titled_command → rule_of a ≡ site_option → rule_of b ≡ script_option → rule_of d ≡ serve_flag →
        rule_of f ≡ terms_option → app_of cmd ≡ command
    app_given named site script serve terms =
        fourth.shape is_terms.local
        ∙ app_step _ _ _ _ (third.shape is_serve.local
        ∙ app_step _ _ _ _ (second.shape is_script.local
        ∙ app_step _ _ _ _ (first.shape is_site.local ∙ app_step _ _ _ _ named site) script) serve) terms

-- ---- the program's command

is_simple_command : is_simple command ≡ true
unfolding clap_on_literals
is_simple_command = refl

is_free_command : is_simple_and_free command ≡ true
unfolding clap_on_literals
is_free_command = refl

module _ (app : App) (app_is : app ≡ command) (words : List Text) where
  pub is_free : is_simple_and_free app ≡ true
  is_free = ap is_simple_and_free app_is ∙ is_free_command

  -- a parse's fault is out of memory, or one of those that the parse finds in the words
  pub refused_by : (e : Error) → HasKind (fault_of app words) e → (kind_of e ≡ OutOfMemory) ⊎ (faults_in words ≡ [] → ⊥)
  unfolding faults_in
  refused_by e (inl memory) = inl memory
  refused_by e (inr among) =
      inr (λ none. (let P : Kinds → Type 0 = IsAmong (kind_of e) in subst P (ap (λ (a : App). fault_of a words) app_is ∙ none) among))

  taken_by : fault_of app words ≡ [] → faults_in words ≡ []
  unfolding faults_in
  taken_by none = ap (λ (a : App). fault_of a words) (sym app_is) ∙ none

  values_by : (m : ArgMatches) → HasMatchesOf app words m → (option : Text) → first_value (found_of m) option ≡ value_in words option
  unfolding value_in
  values_by m matches option =
      first_value-rows (found_of m) option ∙ ap (first_of option) (matches (ap is_simple app_is ∙ is_simple_command)).0
      ∙ ap (λ (a : App). first_of option (matches_of a words)) app_is

  ones_by : (m : ArgMatches) → HasMatchesOf app words m → (option : Text) → one_text (found_of m) option ≡ one_in words option
  unfolding one_in
  ones_by m matches option =
      one_text-rows (found_of m) option ∙ ap (one_of option) (matches (ap is_simple app_is ∙ is_simple_command)).0
      ∙ ap (λ (a : App). one_of option (matches_of a words)) app_is

  -- the values read by a command that requires a site file
  pub read_by : (m : ArgMatches) → fault_of app words ≡ [] → HasMatchesOf app words m →
      is_some (first_value (found_of m) (codes "site")) ≡ true → HasRead words m
  read_by m none matches site = record { taken = taken_by none; values = values_by m matches; ones = ones_by m matches; site = site }

  -- the same of a result
  pub all_read : (r : Result ArgMatches Error) → FailsBy (fault_of app words) r → IfOk r (HasMatchesOf app words) →
      IfOk r (λ m. is_some (first_value (found_of m) (codes "site")) ≡ true) → IfOk r (HasRead words)
  all_read (Ok m) none matches site = read_by m none matches site
  all_read (Err e) why matches site = tt

  pub all_refused : (r : Result ArgMatches Error) → FailsBy (fault_of app words) r →
      IfErr r (λ e. (kind_of e ≡ OutOfMemory) ⊎ (faults_in words ≡ [] → ⊥))
  all_refused (Ok m) none = tt
  all_refused (Err e) why = refused_by e why
