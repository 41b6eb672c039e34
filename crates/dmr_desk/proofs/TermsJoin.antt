-- Rows of terms, one after another.
use Rattle.std.proofs.Common.{◌≡◌, ℕ, ◌+◌, ◌<◌, List, [], ◌∷◌, ◌++◌, Option, refl, sym, ◌∙◌, ap, subst, append_assoc, length, length-append}
use Rattle.std.proofs.Common.{arith}
use Rattle.std.proofs.lemmas.List.{append-nil}
use Rattle.dmr_core.specs.declared.entry.Entry.{Entry}
use Rattle.dmr_desk.specs.Term.{Start, End, IsTerm}
use Rattle.dmr_desk.specs.Terms.{next_start, start_after, AreTerms, journals_of, Sees, Fits, HaveRun}

-- ---- the chain

pub limit_stays : (start : Start) (ends : List End) → (start_after start ends).limit ≡ start.limit
limit_stays start [] = refl
limit_stays start (end ∷ ends) = refl

pub start_on : (start : Start) (earlier later : List End) → start_after start (later ++ earlier) ≡ start_after
    (start_after start earlier) later
start_on start earlier [] = refl
start_on start earlier (end ∷ later) = ap (λ (limit : ℕ). next_start limit end) (sym (limit_stays start earlier))

pub terms_join : (start : Start) (earlier later : List End) → AreTerms start earlier → AreTerms (start_after start earlier) later →
    AreTerms start (later ++ earlier)
terms_join start earlier [] first second = first
terms_join start earlier (end ∷ later) first second =
    let P : Start → Type 0 = λ s. IsTerm s end in (
      subst P (sym (start_on start earlier later)) second.0,
      terms_join start earlier later first second.1,
    )

-- ---- what an observer saw

journals_on : (earlier later : List End) → journals_of (later ++ earlier) ≡ journals_of earlier ++ journals_of later
journals_on earlier [] = sym (append-nil (journals_of earlier))
journals_on earlier (end ∷ later) = ap (λ (js : List (List Entry)). js ++ end.journal ∷ []) (journals_on earlier later)
    ∙ append_assoc (journals_of earlier) (journals_of later) (end.journal ∷ [])

sees_more : (before between after : Option (List (List Entry))) (first second : List (List Entry)) → Sees before first between →
    Sees between second after → Sees before (first ++ second) after
sees_more before between after first second one two = record {
  follows = λ whole same.
      let last = two.follows whole same in
      let begun = one.follows last.0 last.1 in
      (begun.0, begun.1, last.2 ∙ ap (λ (js : List (List Entry)). js ++ second) begun.2 ∙ append_assoc begun.0 first second);
}

-- ---- runs

fits_on : (start middle : Start) (ends : List End) (n m : ℕ) → length ends ≡ n → middle ≡ start_after start ends → (0 < n → Fits start) →
    (0 < m → Fits middle) → 0 < n + m → Fits start
fits_on start middle [] n m count is first second some = let P : Start → Type 0 = λ s. Fits s in subst P is (second (omega arith))
fits_on start middle (end ∷ ends) n m count is first second some = first (omega arith)

pub ran_on : (start middle next : Start) (n m : ℕ) (before between after : Option (List (List Entry))) →
    HaveRun start n middle before between → HaveRun middle m next between after → HaveRun start (n + m) next before after
ran_on start middle next n m before between after one two =
    let P : Start → Type 0 = λ s. AreTerms s two.ends in
    let Q : List (List Entry) → Type 0 = λ js. Sees before js after in
    let l : length (two.ends ++ one.ends) ≡ length two.ends + length one.ends = length-append two.ends one.ends in
    let a = one.count in
    let b = two.count in
    record {
      ends = two.ends ++ one.ends;
      are = terms_join start one.ends two.ends one.are (subst P one.next_is two.are);
      count = omega arith;
      next_is = two.next_is ∙ ap (λ (s : Start). start_after s two.ends) one.next_is ∙ sym (start_on start one.ends two.ends);
      seen = subst Q (sym (journals_on one.ends two.ends))
          (sees_more before between after (journals_of one.ends) (journals_of two.ends) one.seen two.seen);
      fits = fits_on start middle one.ends n m one.count one.next_is one.fits two.fits;
    }
