-- Whether octets are a HELLO is decided, and matters only while a HELLO is expected.
use Rattle.std.proofs.Common.{◌≡◌, ◌<◌, ◌↔◌, ◌⊎◌, ◌+◌, ◌*◌, ◌/◌, ◌%◌, ℕ, Bool, true, false, not, List, [], ◌∷◌, ◌==◌, ◌&&◌, take, nat_lt}
use Rattle.std.proofs.Common.{Option, Some, None, is_some, IsTrue, arith, ap, ◌∙◌, refl, inl, inr}
use Rattle.std.proofs.lemmas.Bool.{and_from, and_parts, eq-eqb, eqb-true, false≢true, lt-ltb, ltb-true}
use Rattle.dmr_port.specs.declared.patience.Patience.{Patience}
use Rattle.dmr_port.specs.declared.served.Served.{Served}
use Rattle.dmr_port.specs.FirstOctets.{IsHello}
use Rattle.dmr_port.specs.Patience.{patience_after_octets}
use Rattle.dmr_port.specs.Served.{HearsOctets}

-- an answer to the question whether octets are a HELLO
abbrev IsDecided : List ℕ → Type 0
IsDecided octets = (has_hello : Bool) × (IsTrue has_hello ↔ IsHello octets)

-- octets that are none
is_none : (octets : List ℕ) → (IsHello octets → ⊥) → IsDecided octets
is_none octets none = (false, (λ off. absurd (false≢true off), λ hello. absurd (none hello)))

-- the type, the length and four octets
begins_so : (kind count version carrier high low : ℕ) → Bool
begins_so kind count version carrier high low =
    ((kind == 1) && (count == 4)) && ((nat_lt version 256 && nat_lt carrier 256) && (nat_lt high 256 && nat_lt low 256))

-- six octets that begin so are a HELLO
hello_begins : (kind count version carrier high low : ℕ) → IsTrue (begins_so kind count version carrier high low)
    → IsHello (kind ∷ count ∷ version ∷ carrier ∷ high ∷ low ∷ [])
unfolding begins_so
hello_begins kind count version carrier high low begins =
    let parts = and_parts ((kind == 1) && (count == 4)) ((nat_lt version 256 && nat_lt carrier 256) && (nat_lt high 256 && nat_lt low 256))
    begins in
    let front = and_parts (kind == 1) (count == 4) parts.0 in
    let rest = and_parts (nat_lt version 256 && nat_lt carrier 256) (nat_lt high 256 && nat_lt low 256) parts.1 in
    let who = and_parts (nat_lt version 256) (nat_lt carrier 256) rest.0 in
    let channel = and_parts (nat_lt high 256) (nat_lt low 256) rest.1 in
    let one : kind ≡ 1 = eqb-true kind 1 front.0 in
    let four : count ≡ 4 = eqb-true count 4 front.1 in
    let small_high : high < 256 = ltb-true high 256 channel.0 in
    let small_low : low < 256 = ltb-true low 256 channel.1 in
    let is_high : high ≡ (256 * high + low) / 256 = omega arith in
    let is_low : low ≡ (256 * high + low) % 256 = omega arith in
    record {
      version = version;
      carrier = carrier;
      lpcn = 256 * high + low;
      octet = ltb-true version 256 who.0;
      within = ltb-true carrier 256 who.1;
      channel = omega arith;
      spelled = cc;
    }

-- a HELLO begins so
begins_hello : (kind count version carrier high low : ℕ) → IsHello (kind ∷ count ∷ version ∷ carrier ∷ high ∷ low ∷ [])
    → IsTrue (begins_so kind count version carrier high low)
unfolding begins_so
begins_hello kind count version carrier high low hello =
    let v = hello.version in
    let c = hello.carrier in
    let n = hello.lpcn in
    let octet : v < 256 = hello.octet in
    let within : c < 256 = hello.within in
    let channel : n < 65536 = hello.channel in
    let spelled : kind ∷ count ∷ version ∷ carrier ∷ high ∷ low ∷ [] ≡ 1 ∷ 4 ∷ v ∷ c ∷ (n / 256) ∷ (n % 256) ∷ [] = hello.spelled in
    let one : kind ≡ 1 = cc in
    let four : count ≡ 4 = cc in
    let is_version : version ≡ v = cc in
    let is_carrier : carrier ≡ c = cc in
    let is_high : high ≡ n / 256 = cc in
    let is_low : low ≡ n % 256 = cc in
    and_from _ _ (and_from _ _ (eq-eqb kind 1 one) (eq-eqb count 4 four))
    (and_from _ _ (and_from _ _ (lt-ltb version 256 (omega arith)) (lt-ltb carrier 256 (omega arith)))
    (and_from _ _ (lt-ltb high 256 (omega arith)) (lt-ltb low 256 (omega arith))))

-- any octets
hello_is_decided : (octets : List ℕ) → IsDecided octets
hello_is_decided [] = is_none _ (λ hello. let spelled = hello.spelled in absurd (cc))
hello_is_decided (a ∷ []) = is_none _ (λ hello. let spelled = hello.spelled in absurd (cc))
hello_is_decided (a ∷ b ∷ []) = is_none _ (λ hello. let spelled = hello.spelled in absurd (cc))
hello_is_decided (a ∷ b ∷ c ∷ []) = is_none _ (λ hello. let spelled = hello.spelled in absurd (cc))
hello_is_decided (a ∷ b ∷ c ∷ d ∷ []) = is_none _ (λ hello. let spelled = hello.spelled in absurd (cc))
hello_is_decided (a ∷ b ∷ c ∷ d ∷ e ∷ []) =
    is_none _ (λ hello. let spelled = hello.spelled in absurd (cc))
hello_is_decided (a ∷ b ∷ c ∷ d ∷ e ∷ f ∷ []) =
    (begins_so a b c d e f, (hello_begins a b c d e f, begins_hello a b c d e f))
hello_is_decided (a ∷ b ∷ c ∷ d ∷ e ∷ f ∷ g ∷ octets) =
    is_none _ (λ hello. let spelled = hello.spelled in absurd (cc))

-- if no HELLO is expected, it makes no difference whether one has come
same_patience : (octets : List ℕ) (by_lines has_hello has_hello' : Bool) (p : Patience) → p.hello ≡ None
    → patience_after_octets octets has_hello by_lines p ≡ patience_after_octets octets has_hello' by_lines p
same_patience octets by_lines true true p none = refl
same_patience octets by_lines false false p none = refl
same_patience octets by_lines true false p none = cc
same_patience octets by_lines false true p none = cc

-- a HELLO is expected, or none is
cases_hello : (time : Option ℕ) → (is_some time ≡ true) ⊎ (time ≡ None)
cases_hello None = inr refl
cases_hello (Some time) = inl refl

-- octets came that the link may have, and the question was asked if a HELLO was expected
pub hears_octets : (octets : List ℕ) (is_carrier has_hello : Bool) (old new : Served)
    → (is_some old.patience.hello ≡ true → IsTrue has_hello ↔ IsHello (take 6 new.first.octets.items))
    → new ≡ record old { first = new.first; patience = patience_after_octets octets has_hello (not is_carrier) old.patience }
    → HearsOctets octets is_carrier old new
hears_octets octets is_carrier has_hello old new asked heard =
    elim (cases_hello old.patience.hello) [
      | inl expected ↦ record { has_hello = has_hello; hello = asked expected; heard = heard }
      | inr none ↦
          let decided = hello_is_decided (take 6 new.first.octets.items) in
          let same = same_patience octets (not is_carrier) has_hello decided.0 old.patience none in
          record {
            has_hello = decided.0;
            hello = decided.1;
            heard = heard ∙ ap (λ (p : Patience). record old { first = new.first; patience = p }) same;
          }
    ]
