-- The octets of an operator, line by line.
use Rattle.std.proofs.Common.{◌≡◌, ℕ, ◌+◌, ◌*◌, ◌<◌, ◌≤◌, List, [], ◌∷◌, ◌++◌, Bool, true, false, cond, Option, length, take, drop, get_or}
use Rattle.std.proofs.Common.{drop-drop, take-append-drop, refl, sym, ap, ◌∙◌, arith, append_assoc}
use Rattle.std.specs.Prelude.{◌==◌, filter, flat_map}
use Rattle.std.proofs.lemmas.List.{append-nil, length-append, take_more}
use Rattle.std.proofs.lemmas.List.Sums.{fold-append, fold_push}
use Rattle.dmr_console.specs.declared.line_cutter.LineStep.{LineStep}
use Rattle.dmr_console.specs.declared.line_cutter.LineStep.TheVariants.{Need, Line, TooLong}
use Rattle.dmr_console.specs.Lines.{line_step_of}
use Rattle.dmr_console.specs.Steps.{line_step_at, open_line_after_octet, line_produced, line_steps_from, open_line_after}
use Rattle.dmr_core.specs.State.{SiteState as Site}
use Rattle.dmr_link.specs.Notices.{Notice}
use Rattle.dmr_link.specs.Answering.{facts_from, site_after_notices, facts_after_notice}
use Rattle.dmr_link.specs.Console.{line_means, said_from, ends_in, console_from}
use Rattle.dmr_link.specs.Notices.{list_of_notice}
use Rattle.dmr_link.proofs.PiecesInTwo.{console_from-append}
use Rattle.dmr_link.proofs.PastsOfEngines.{said_from-append}

-- ---- the notices of octets

said_step : (step : LineStep) (lines : List LineStep) → flat_map line_means
    (line_produced step ++ lines) ≡ line_means step ++ flat_map line_means lines
said_step Need lines = refl
said_step TooLong lines = refl
said_step (Line line) lines = refl

said_cons : (begun : List ℕ) (x : ℕ) (xs : List ℕ) → said_from begun (x ∷ xs) ≡ line_means (line_step_at begun x) ++ said_from
    (open_line_after_octet begun x) xs
said_cons begun x xs = said_step (line_step_at begun x) (line_steps_from (open_line_after_octet begun x) xs)

-- ---- each notice is of a line that the octets end

ends_cons : (x : ℕ) (xs : List ℕ) → ends_in (x ∷ xs) ≡ ends_in (x ∷ []) + ends_in xs
ends_cons x xs = either (x == 10) (filter (λ octet. octet == 10) xs)
  where
    either : (b : Bool) (ys : List ℕ) → length (cond b (x ∷ ys) ys) ≡ length (cond b (x ∷ []) []) + length ys
    either true ys = omega arith
    either false ys = omega arith

ends-append : (a b : List ℕ) → ends_in (a ++ b) ≡ ends_in a + ends_in b
ends-append [] b = omega arith
ends-append (x ∷ a) b = omega (arith, ends_cons x (a ++ b), ends_cons x a, ends-append a b)

one_notice : (step : LineStep) → length (line_means step) ≤ 1
one_notice Need = omega arith
one_notice TooLong = omega arith
one_notice (Line line) = omega arith

one_end : (begun : List ℕ) (x : ℕ) → length (line_means (line_step_at begun x)) ≤ ends_in (x ∷ [])
one_end begun x = either (x == 10)
  where
    either : (b : Bool) → length (line_means (cond b (line_step_of begun) Need)) ≤ length (cond b (x ∷ []) [])
    either true = one_notice (line_step_of begun)
    either false = omega arith

few_said : (begun xs : List ℕ) → length (said_from begun xs) ≤ ends_in xs
few_said begun [] = omega arith
few_said begun (x ∷ xs) =
    let first : List Notice = line_means (line_step_at begun x) in
    let later : List Notice = said_from (open_line_after_octet begun x) xs in
    let both : length (said_from begun (x ∷ xs)) ≡ length first + length later =
    ap length (said_cons begun x xs) ∙ length-append first later in
    omega (arith, both, one_end begun x, few_said (open_line_after_octet begun x) xs, ends_cons x xs)

-- ---- octets up to the end of a line

-- octets that produce nothing, and one more
module _ (begun left octets : List ℕ) (i : ℕ) (within : i < length octets) (left_is : left ≡ open_line_after begun (take i octets)) where
  abbrev it : ℕ
  it = get_or octets i 0

  pub left_by_one : open_line_after begun (take (i + 1) octets) ≡ open_line_after_octet left it
  left_by_one =
      ap (open_line_after begun) (take_more octets i 0 within)
      ∙ fold_push open_line_after_octet begun (take i octets) it
      ∙ ap (λ (b : List ℕ). open_line_after_octet b it) (sym left_is)

  pub said_by_one : said_from begun (take i octets) ≡ [] → said_from begun (take (i + 1) octets) ≡ line_means (line_step_at left it)
  said_by_one silent =
      ap (said_from begun) (take_more octets i 0 within)
      ∙ said_from-append begun (take i octets) (it ∷ [])
      ∙ ap (λ (ns : List Notice). ns ++ said_from (open_line_after begun (take i octets)) (it ∷ [])) silent
      ∙ said_cons (open_line_after begun (take i octets)) it []
      ∙ append-nil (line_means (line_step_at (open_line_after begun (take i octets)) it))
      ∙ ap (λ (b : List ℕ). line_means (line_step_at b it)) (sym left_is)

-- ---- the octets after a line

module _ (begun left octets : List ℕ) (i n : ℕ) (it : Option Notice) (brings : said_from begun (take n (drop i octets)) ≡ list_of_notice it)
    (left_is : left ≡ open_line_after begun (take n (drop i octets))) where
  abbrev more : List ℕ
  more = drop (i + n) octets

  in_two : drop i octets ≡ take n (drop i octets) ++ more
  in_two = sym (take-append-drop n (drop i octets)) ∙ ap (λ (xs : List ℕ). take n (drop i octets) ++ xs) (drop-drop n i octets)

  pub lines_go : (whole : List ℕ) → open_line_after begun (drop i octets) ≡ whole → open_line_after left more ≡ whole
  lines_go whole e =
      ap (λ (b : List ℕ). open_line_after b more) left_is
      ∙ sym (fold-append open_line_after_octet begun (take n (drop i octets)) more)
      ∙ sym (ap (open_line_after begun) in_two)
      ∙ e

  said_go : said_from begun (drop i octets) ≡ list_of_notice it ++ said_from left more
  said_go =
      ap (said_from begun) in_two ∙ said_from-append begun (take n (drop i octets)) more ∙ (λ j. brings j ++ said_from (sym left_is j) more)

  few_here : length (list_of_notice it) + ends_in more ≤ ends_in (drop i octets)
  few_here =
      let two : ends_in (drop i octets) ≡ ends_in (take n (drop i octets)) + ends_in more =
      ap ends_in in_two ∙ ends-append (take n (drop i octets)) more in
      let few : length (said_from begun (take n (drop i octets))) ≤ ends_in (take n (drop i octets)) =
      few_said begun (take n (drop i octets)) in
      let same : length (said_from begun (take n (drop i octets))) ≡ length (list_of_notice it) = ap length brings in
      omega (arith, two, few, same)

  -- there is room for the answer to the line
  pub line_fits : (len room : ℕ) → len + 1024 * ends_in (drop i octets) ≤ room → len + 1024 * length (list_of_notice it) ≤ room
  line_fits len room h = omega (arith, few_here, h)

  -- after that there is room for the answers to the lines after it
  pub lines_fit : (len room longer kept : ℕ) → len + 1024 * ends_in (drop i octets) ≤ room →
      longer ≤ len + 1024 * length (list_of_notice it) → kept ≡ room → longer + 1024 * ends_in more ≤ kept
  lines_fit len room longer kept h few same = omega (arith, few_here, h, few, same)

  -- the site after the line
  module _ (old new : Site) (new_is : new ≡ site_after_notices old (list_of_notice it)) where
    pub line_site : (whole : Site) → site_after_notices old (said_from begun (drop i octets)) ≡ whole →
        site_after_notices new (said_from left more) ≡ whole
    line_site whole e =
        ap (λ (s : Site). site_after_notices s (said_from left more)) new_is
        ∙ (λ j. record {
          plan = old.plan;
          facts = sym
              (fold-append (facts_after_notice old.plan) old.facts (list_of_notice it) (said_from left more)) j;
        })
        ∙ ap (site_after_notices old) (sym said_go)
        ∙ e

    pub line_items : (text longer whole : List ℕ) → longer ≡ text ++ console_from old.plan old.facts (list_of_notice it) →
        text ++ console_from old.plan old.facts (said_from begun (drop i octets)) ≡ whole →
        longer ++ console_from new.plan new.facts (said_from left more) ≡ whole
    line_items text longer whole longer_is e =
        let first : List ℕ = console_from old.plan old.facts (list_of_notice it) in
        let then : List ℕ = console_from old.plan (facts_from old.plan old.facts (list_of_notice it)) (said_from left more) in
        (λ j. longer_is j ++ console_from (new_is j).plan (new_is j).facts (said_from left more))
        ∙ append_assoc text first then
        ∙ ap (λ (t : List ℕ). text ++ t)
        (sym (console_from-append old.plan old.facts (list_of_notice it) (said_from left more))
        ∙ ap (console_from old.plan old.facts) (sym said_go))
        ∙ e
