-- Octets on their way to a connection: none is lost, repeated or out of order.
use Rattle.std.proofs.Common.{◌≡◌, ◌≤◌, ◌==◌, ℕ, Bool, true, false, cond, List, [], ◌∷◌, ◌++◌, Option, length, take, drop, arith, refl, sym}
use Rattle.std.proofs.Common.{ap, ◌∙◌, append_assoc}
use Rattle.std.specs.Prelude.{nat_eq}
use Rattle.std.proofs.lemmas.Bool.{eqb-true}
use Rattle.std.proofs.lemmas.List.{append-nil, take-append-drop, take-append-le}
use Rattle.dmr_wire.specs.declared.wire.Put.{Put}
use Rattle.dmr_wire.specs.declared.wire.Put.TheVariants as put
use Rattle.dmr_wire.specs.Answers.{Answer, Reports, of_write}
use Rattle.dmr_port.specs.PortState.{Connection, answer_of_write, connection_after_write}
use Rattle.dmr_port.specs.Record.{Carries}
use Rattle.dmr_port.specs.Sockets.{taken_by}
use Rattle.dmr_port.specs.Unsent.{PassesOctets}
use Rattle.dmr_port.proofs.RecordLemmas.{carries_nothing, carries_on, carries_write}

-- if nothing happens
pub passes_nothing : (log : Option (List Answer)) (waiting : List ℕ) → PassesOctets log waiting [] log waiting
passes_nothing log waiting = record { sent = []; carries = carries_nothing log; split = append-nil waiting }

-- one step after another
pub passes_on : (first second third : Option (List Answer)) (one two three : List ℕ) → PassesOctets first one [] second two →
    PassesOctets second two [] third three → PassesOctets first one [] third three
passes_on first second third one two three before after = record {
  sent = before.sent ++ after.sent;
  carries = carries_on first second third [] before.sent [] after.sent before.carries after.carries;
  split =
      before.split
      ∙ ap (λ (xs : List ℕ). before.sent ++ xs) (sym (append-nil two) ∙ after.split)
      ∙ sym (append_assoc before.sent after.sent three);
}

-- if a connection takes nothing
pub passes_none : (log log' : Option (List Answer)) (waiting : List ℕ) → Carries log [] [] log' → PassesOctets log waiting [] log' waiting
passes_none log log' waiting carries = record { sent = []; carries = carries; split = append-nil waiting }

-- if a connection takes the oldest kept octets, which are in one piece
pub passes_front : (log log' : Option (List Answer)) (items front rest : List ℕ) (count : ℕ) → front ++ rest ≡ items → count ≤ length front
    → Reports log (of_write (put.Octets count) front ∷ []) log' → PassesOctets log items [] log' (drop count items)
passes_front log log' items front rest count whole within logged =
    let same : take count front ≡ take count items = sym (take-append-le count front rest within) ∙ ap (take count) whole in
    record {
      sent = take count front;
      carries = carries_write log log' (put.Octets count) front logged;
      split =
          append-nil items ∙ sym (take-append-drop count items) ∙ ap (λ (xs : List ℕ). xs ++ drop count items) (sym same);
    }

-- if a connection takes what is written at once
pub passes_written : (log log' : Option (List Answer)) (waiting octets : List ℕ) (put : Put) → waiting ≡ [] →
    Reports log (of_write put octets ∷ []) log' → PassesOctets log waiting (taken_by put octets) log' waiting
passes_written log log' waiting octets put none logged = record {
  sent = taken_by put octets;
  carries = carries_write log log' put octets logged;
  split =
      ap (λ (xs : List ℕ). xs ++ taken_by put octets) none
      ∙ sym (append-nil (taken_by put octets))
      ∙ ap (λ (xs : List ℕ). taken_by put octets ++ xs) (sym none);
}

-- if none are kept
pub none_kept : (waiting : List ℕ) (empty : Bool) → empty ≡ true → empty ≡ nat_eq (length waiting) 0 → waiting ≡ []
none_kept [] empty holds is = refl
none_kept (x ∷ waiting) empty holds is =
    let none : length (x ∷ waiting) ≡ 0 = eqb-true (length (x ∷ waiting)) 0 (sym is ∙ holds) in absurd (omega (arith, none))

-- the same, by the test that none are kept
pub passes_at_once : (log log' : Option (List Answer)) (waiting octets : List ℕ) (put : Put) (empty : Bool) → empty ≡ true →
    empty ≡ nat_eq (length waiting) 0
    → Reports log (of_write put octets ∷ []) log' → PassesOctets log waiting (taken_by put octets) log' waiting
passes_at_once log log' waiting octets put empty holds is logged =
    passes_written log log' waiting octets put (none_kept waiting empty holds is) logged

-- if what is written is kept
pub passes_kept : (log log' : Option (List Answer)) (waiting octets waiting' : List ℕ) → Carries log [] [] log' →
    waiting' ≡ waiting ++ octets → PassesOctets log waiting octets log' waiting'
passes_kept log log' waiting octets waiting' carries kept = record { sent = []; carries = carries; split = sym kept }

-- a write leaves the first octets that came as they are
pub first_after_write : (put : Put) (old new : Connection) → new ≡ connection_after_write put old → new.first ≡ old.first
first_after_write (put.Octets n) old new is = ap (λ (c : Connection). c.first) is
first_after_write put.Interrupted old new is = ap (λ (c : Connection). c.first) is
first_after_write put.Block old new is = ap (λ (c : Connection). c.first) is
first_after_write put.Fault old new is = ap (λ (c : Connection). c.first) is

-- what the link's answer says was taken is what was taken
pub answered_as_taken : (put : Put) (octets : List ℕ) → taken_by (answer_of_write put) octets ≡ taken_by put octets
answered_as_taken (put.Octets n) octets = at_none (n == 0) (eqb-true n 0)
  where
    at_none : (b : Bool) → (b ≡ true → n ≡ 0) → taken_by (cond b put.Block (put.Octets n)) octets ≡ take n octets
    at_none true none = sym (ap (λ (k : ℕ). take k octets) (none refl))
    at_none false none = refl
answered_as_taken put.Interrupted octets = refl
answered_as_taken put.Block octets = refl
answered_as_taken put.Fault octets = refl
