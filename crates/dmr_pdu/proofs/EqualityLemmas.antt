-- The derived `==` of PDUs is equality.
use Rattle.std.proofs.Common.{◌≡◌, rules, Bool, true, false, List, [], ◌∷◌, refl, sym, ap, ◌∙◌, eqb}
use Rattle.std.specs.Prelude.{◌&&◌}
use Rattle.std.specs.Bool.{Decides, beq}
use Rattle.std.proofs.lemmas.Bool.{false≢true, eqb-true}
use Rattle.dmr_pdu.specs.declared.pdu.Pdu.{Pdu}
use Rattle.dmr_pdu.specs.declared.pdu.Pdu.TheVariants.{Aloha, Ahoy, Random, Ackd, Acku, Clear, PvGrant, TvGrant, Move, Other}
use Rattle.dmr_pdu.specs.contracts.pdu.PduPartialEq.TheImpl as pdu_eq
use Rattle.dmr_pdu.specs.contracts.pdu.PduEq.TheImpl.Laws as laws
use Rattle.dmr_pdu.proofs.ListLaws.{left, right}

-- the conjunction of tests
abbrev joined : List Bool → Bool
joined [] = true
joined (b ∷ []) = b
joined (b ∷ c ∷ bs) = b && joined (c ∷ bs)

abbrev EachHolds : List Bool → Type 0
EachHolds [] = Unit {0}
EachHolds (b ∷ bs) = (b ≡ true) × EachHolds bs

each : (bs : List Bool) → joined bs ≡ true → EachHolds bs
each [] e = tt
each (b ∷ []) e = (e, tt)
each (b ∷ c ∷ bs) e = (left b (joined (c ∷ bs)) e, each (c ∷ bs) (right b (joined (c ∷ bs)) e))

same_beq : (a b : Bool) → beq a b ≡ true → a ≡ b
same_beq true true e = refl
same_beq false false e = refl
same_beq true false e = sym e
same_beq false true e = e

eq-same : (p q : Pdu) → (pdu_eq.ghosts).eq p q ≡ true → p ≡ q
eq-same (Aloha a b c d e f g h i j k) (Aloha a' b' c' d' e' f' g' h' i' j' k') told =
    let r = each (beq a a' ∷ eqb b b' ∷ beq c c' ∷ beq d d' ∷ eqb e e' ∷ eqb f f' ∷ eqb g g' ∷ beq h h' ∷ eqb i i' ∷ eqb j j' ∷ eqb k
    k' ∷ []) told in
    cc (
      same_beq a a' r.0,
      eqb-true b b' r.1.0,
      same_beq c c' r.1.1.0,
      same_beq d d' r.1.1.1.0,
      eqb-true e e' r.1.1.1.1.0,
      eqb-true f f' r.1.1.1.1.1.0,
      eqb-true g g' r.1.1.1.1.1.1.0,
      same_beq h h' r.1.1.1.1.1.1.1.0,
      eqb-true i i' r.1.1.1.1.1.1.1.1.0,
      eqb-true j j' r.1.1.1.1.1.1.1.1.1.0,
      eqb-true k k' r.1.1.1.1.1.1.1.1.1.1.0,
    )
eq-same (Ahoy a b c d e) (Ahoy a' b' c' d' e') told = search rules
eq-same (Random a b c d e) (Random a' b' c' d' e') told = search rules
eq-same (Ackd a b c d e) (Ackd a' b' c' d' e') told = search rules
eq-same (Acku a b c d e) (Acku a' b' c' d' e') told = search rules
eq-same (Clear a b c d) (Clear a' b' c' d') told = search rules
eq-same (PvGrant a b c d) (PvGrant a' b' c' d') told = search rules
eq-same (TvGrant a b c d e) (TvGrant a' b' c' d' e') told = search rules
eq-same (Move a b c) (Move a' b' c') told = search rules
eq-same (Other a) (Other a') told = search rules
eq-same p q told = absurd (false≢true told)

pub pdu_eq-Decides : (p q : Pdu) → Decides ((pdu_eq.ghosts).eq p q) (p ≡ q)
pdu_eq-Decides p q = (eq-same p q, λ e. ap ((pdu_eq.ghosts).eq p) (sym e) ∙ laws.laws-law.refl p)
