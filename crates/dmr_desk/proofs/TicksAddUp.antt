-- The ticks of terms in a row.
use Rattle.std.proofs.Common.{◌≡◌, ℕ, ◌+◌, ◌≤◌, inl, inr, List, [], ◌∷◌, ◌++◌, Option, Some, None, sym, ◌∙◌, ap, subst, length}
use Rattle.std.proofs.Common.{length-append, arith}
use Rattle.std.proofs.lemmas.List.Elements.{All-nil, All-append}
use Rattle.dmr_core.specs.declared.event.Event.TheVariants.{Tick}
use Rattle.dmr_link.specs.declared.desk.Deposit.{Deposit}
use Rattle.dmr_desk.specs.declared.ending.Ending.{Ending}
use Rattle.dmr_desk.specs.declared.ending.Ending.TheVariants as ending
use Rattle.dmr_desk.specs.Life.{HasTickedOn, joined_journal}
use Rattle.dmr_desk.specs.Pace.{Paced, Answered, AreTicks}
use Rattle.dmr_desk.specs.Term.{Start, End, HasTicked}
use Rattle.dmr_desk.specs.Terms.{start_after, AreTerms}
use Rattle.dmr_desk.specs.Views.{view_of}
use Rattle.dmr_desk.proofs.JournalsJoin.{stations_stay, view_append}
use Rattle.dmr_desk.proofs.TickerLemmas.{gave_nothing}
use Rattle.dmr_pdu.proofs.ListLaws.{get_within}

gave_on : (a b c : Option Paced) (n m : ℕ) → Answered a b n → Answered b c m → Answered a c (n + m)
gave_on a b None n m g h = tt
gave_on a None (Some z) n m g h = absurd h
gave_on None (Some y) (Some z) n m g h = absurd g
gave_on (Some x) (Some y) (Some z) n m g h = omega arith

-- ---- one term

ticked_with : (before after : Option Paced) (view took : List Deposit) (given : ℕ) → view ≡ took → AreTicks took →
    Answered before after given → length took ≤ given → given ≤ length took + 1 → HasTickedOn 1 before after view
ticked_with before after view took given same ticks gave least most =
    let P : List Deposit → Type 0 = λ v. HasTickedOn 1 before after v in
    subst P (sym same) (record { given = given; gave = gave; ticks = ticks; at_least = least; at_most = most })

ticked_once : (before after : Option Paced) (view : List Deposit) (e : Ending) → HasTicked before after view e →
    HasTickedOn 1 before after view
ticked_once before after view ending.Finished h = ticked_with before after view h.0 (length h.0) h.1 h.2 h.3.0 (omega arith) (omega arith)
ticked_once before after view ending.GateShut h = absurd h.3
ticked_once before after view ending.TermOver h = elim h.3 [
  | inl gave ↦ ticked_with before after view h.0 (length h.0) h.1 h.2 gave (omega arith) (omega arith)
  | inr gave ↦ ticked_with before after view h.0 (length h.0 + 1) h.1 h.2 gave (omega arith) (omega arith)
]

-- ---- all terms

ticked_on : (a b c : Option Paced) (n m : ℕ) (first second : List Deposit) → HasTickedOn n a b first → HasTickedOn m b c second →
    HasTickedOn (n + m) a c (first ++ second)
ticked_on a b c n m first second one two =
    let l : length (first ++ second) ≡ length first + length second = length-append first second in
    let p = one.at_least in
    let q = two.at_least in
    let r = one.at_most in
    let s = two.at_most in
    record {
      given = one.given + two.given;
      gave = gave_on a b c one.given two.given one.gave two.gave;
      ticks = All-append (λ (d : Deposit). d.event ≡ Tick) first second one.ticks two.ticks;
      at_least = omega arith;
      at_most = omega arith;
    }

pub ticker_works : (start : Start) (ends : List End) → AreTerms start ends →
    HasTickedOn (length ends) start.pacer (start_after start ends).pacer (view_of (length start.stations) (joined_journal ends))
ticker_works start [] are = record {
  given = 0;
  gave = gave_nothing start.pacer;
  ticks = All-nil (λ (d : Deposit). d.event ≡ Tick);
  at_least = omega arith;
  at_most = omega arith;
}
ticker_works start (end ∷ earlier) are =
    let run = are.0.run in
    let middle = start_after start earlier in
    let stay = stations_stay start earlier are.1 in
    let ended = run.ended.all_ended in
    let many = run.ended.actors in
    let ending = get_within end.ends (length (start_after start earlier).stations) (omega arith) in
    let own : view_of (length (start_after start earlier).stations) end.journal ≡ view_of (length start.stations) end.journal =
    ap (λ (n : ℕ). view_of n end.journal) stay in
    let view : view_of (length start.stations) (joined_journal earlier) ++ view_of
    (length (start_after start earlier).stations) end.journal ≡ view_of (length start.stations)
    (joined_journal earlier ++ end.journal) =
    ap (λ (ds : List Deposit). view_of (length start.stations) (joined_journal earlier) ++ ds) own
    ∙ sym (view_append (length start.stations) (joined_journal earlier) end.journal) in
    let count : length earlier + 1 ≡ length (end ∷ earlier) = omega arith in
    let P : List Deposit → Type 0 = λ v. HasTickedOn (length earlier + 1) start.pacer end.pacer v in
    let Q : ℕ → Type 0 = λ n. HasTickedOn n start.pacer end.pacer (view_of (length start.stations) (joined_journal earlier ++ end.journal))
    in
    subst Q count (subst P view (ticked_on start.pacer middle.pacer end.pacer (length earlier) 1
    (view_of (length start.stations) (joined_journal earlier)) (view_of (length (start_after start earlier).stations) end.journal)
    (ticker_works start earlier are.1)
    (ticked_once middle.pacer end.pacer (view_of (length (start_after start earlier).stations) end.journal) ending.0
    (run.ended.ticker ending.0 (view_of (length (start_after start earlier).stations) end.journal) ending.1
    (run.views (length (start_after start earlier).stations) (omega arith))))))
