-- The ticker's steps.
use Rattle.std.proofs.Common.{◌≡◌, ℕ, ◌+◌, inl, inr, List, [], ◌∷◌, ◌++◌, Option, Some, None, refl, sym, ◌∙◌, ap, append_assoc, length}
use Rattle.std.proofs.Common.{length-append, arith}
use Rattle.std.proofs.lemmas.List.{append-nil}
use Rattle.std.proofs.lemmas.List.Elements.{All-nil, All-push}
use Rattle.dmr_core.specs.declared.act.Acts.{Acts}
use Rattle.dmr_core.specs.declared.event.Event.TheVariants.{Tick}
use Rattle.dmr_link.specs.declared.desk.Deposit.{Deposit}
use Rattle.dmr_desk.specs.declared.ending.Ending.TheVariants as ending
use Rattle.dmr_desk.specs.declared.pace.Pace.TheVariants as pace
use Rattle.dmr_desk.specs.Pace.{Paced, FollowsPace, Answered, ReportsFinished, Ticking, Ticks}

gave_one_more : (before after next : Option Paced) (n : ℕ) → Answered before after n → FollowsPace after pace.Tick next →
    Answered before next (n + 1)
gave_one_more before after None n g f = tt
gave_one_more before None (Some z) n g f = absurd f
gave_one_more None (Some y) (Some z) n g f = absurd g
gave_one_more (Some x) (Some y) (Some z) n g f = ap (λ p. p.ticks) f ∙ (omega arith)

gave_none : (before after next : Option Paced) (n : ℕ) → Answered before after n → FollowsPace after pace.NotYet next →
    Answered before next n
gave_none before after None n g f = tt
gave_none before None (Some z) n g f = absurd f
gave_none None (Some y) (Some z) n g f = absurd g
gave_none (Some x) (Some y) (Some z) n g f = ap (λ p. p.ticks) f ∙ g

gave_last : (before after next : Option Paced) (n : ℕ) → Answered before after n → FollowsPace after pace.Finished next →
    Answered before next n × ReportsFinished next
gave_last before after None n g f = (tt, tt)
gave_last before None (Some z) n g f = absurd f
gave_last None (Some y) (Some z) n g f = absurd g
gave_last (Some x) (Some y) (Some z) n g f = (ap (λ p. p.ticks) f ∙ g, ap (λ p. p.finished) f)

pub gave_nothing : (p : Option Paced) → Answered p p 0
gave_nothing None = tt
gave_nothing (Some p) = omega arith

pub ticking_from : (p : Option Paced) (calls : List Deposit) → Ticking p calls p calls
ticking_from p calls = ([], sym (append-nil calls), All-nil (λ (d : Deposit). d.event ≡ Tick), gave_nothing p)

pub one_tick : (before after next : Option Paced) (calls calls1 calls2 later : List Deposit) (a : Acts) → Ticking before calls after calls1
    → FollowsPace after pace.Tick next → calls2 ≡ calls1 → later ≡ calls2 ++ record { event = Tick; acts = a } ∷ [] →
    Ticking before calls next later
one_tick before after next calls calls1 calls2 later a b f same e =
    let d : Deposit = record { event = Tick; acts = a } in
    let l : length (b.0 ++ d ∷ []) ≡ length b.0 + 1 = length-append b.0 (d ∷ []) in (
      b.0 ++ d ∷ [],
      e ∙ ap (λ (c : List Deposit). c ++ d ∷ []) (same ∙ b.1) ∙ append_assoc calls b.0 (d ∷ []),
      All-push (λ (d : Deposit). d.event ≡ Tick) b.0 d b.2 refl,
      rw l (gave_one_more before after next (length b.0) b.3 f),
    )

pub one_dropped : (before after next : Option Paced) (calls calls1 calls2 later : List Deposit) → Ticking before calls after calls1
    → FollowsPace after pace.Tick next → calls2 ≡ calls1 → later ≡ calls2 → Ticks before calls next later ending.TermOver
one_dropped before after next calls calls1 calls2 later b f same e =
    (b.0, e ∙ same ∙ b.1, b.2, inr (gave_one_more before after next (length b.0) b.3 f))

pub no_tick : (before after next : Option Paced) (calls calls1 later : List Deposit) → Ticking before calls after calls1
    → FollowsPace after pace.NotYet next → later ≡ calls1 → Ticking before calls next later
no_tick before after next calls calls1 later b f same = (b.0, same ∙ b.1, b.2, gave_none before after next (length b.0) b.3 f)

pub last_tick : (before after next : Option Paced) (calls calls1 later : List Deposit) → Ticking before calls after calls1
    → FollowsPace after pace.Finished next → later ≡ calls1 → Ticks before calls next later ending.Finished
last_tick before after next calls calls1 later b f same = (b.0, same ∙ b.1, b.2, gave_last before after next (length b.0) b.3 f)

pub ticked_over : (before after : Option Paced) (calls calls1 later : List Deposit) → Ticking before calls after calls1 → later ≡ calls1 →
    Ticks before calls after later ending.TermOver
ticked_over before after calls calls1 later b same = (b.0, same ∙ b.1, b.2, inl b.3)
