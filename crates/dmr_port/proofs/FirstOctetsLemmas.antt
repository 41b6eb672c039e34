-- The first octets of a connection.
use Rattle.std.proofs.Common.{◌≡◌, ◌≤◌, ◌<◌, ◌↔◌, ℕ, ◌-◌, zero, suc, List, [], ◌∷◌, ◌++◌, length, take, min, ◌==◌, ◌&&◌, Option, Some, None}
use Rattle.std.proofs.Common.{is_some, IsSome, IsTrue, IfSome, Result, Ok, Err, IsOk, OnOk, inl, inr, arith, ap, ◌∙◌, sym, refl}
use Rattle.std.proofs.lemmas.List.{take_min}
use Rattle.std.proofs.lemmas.Bool.{and_from, and_parts, both_ways, cases_Bool, cond-false, eq-eqb, eqb-true}
use Rattle.dmr_frames.specs.declared.frame.FrameIn.{FrameIn}
use Rattle.dmr_frames.specs.declared.frame.FrameIn.TheVariants.{Hello, Rx, Poll, Active, Bye}
use Rattle.dmr_frames.specs.declared.version.Version.{Version}
use Rattle.dmr_frames.specs.declared.version.Version.TheVariants.{V1, V2}
use Rattle.dmr_frames.specs.Frames.{IsFrame, spelling}
use Rattle.dmr_frames.specs.Versions.{is_since, version_named}
use Rattle.dmr_port.specs.FirstOctets.{IsHello, IsHelloFor, is_frame_for, is_hello_frame}

-- the first octets of two parts, of which the first is short
pub take_parts : (n : ℕ) (xs ys : List ℕ) → length xs ≤ n → take n (xs ++ ys) ≡ xs ++ take (n - length xs) ys
take_parts n [] ys short = let same : n ≡ n - 0 = omega arith in ap (λ k. take k ys) same
take_parts zero (x ∷ xs) ys short = absurd (omega arith)
take_parts (suc n) (x ∷ xs) ys short =
    let same : n - length xs ≡ suc n - length (x ∷ xs) = omega arith in
    ap (λ octets. x ∷ octets) (take_parts n xs ys (omega arith) ∙ ap (λ k. xs ++ take k ys) same)

-- the same, if as many are added as there are and as fit
pub take_added : (n room : ℕ) (xs ys : List ℕ) → room ≡ n - length xs → length xs ≤ n →
    xs ++ take (min room (length ys)) ys ≡ take n (xs ++ ys)
take_added n room xs ys left short =
    ap (λ octets. xs ++ octets) (take_min room ys ∙ ap (λ k. take k ys) left) ∙ sym (take_parts n xs ys short)

-- what holds of a call that succeeded
pub at_ok : {T E P : Type 0} (r : Result T E) → IsOk r → OnOk r P → P
at_ok (Ok x) succeeds holds = holds
at_ok (Err e) fails holds = absurd (cc)

-- octets of which a frame was read are a HELLO if the frame is one
hello_read : (octets : List ℕ) (r : Option FrameIn) → IfSome r (λ f. IsFrame V1 f × (octets ≡ spelling f)) → IsTrue (is_hello_frame r) →
    IsHello octets
hello_read octets (Some (Hello version carrier lpcn)) found holds = record {
  version = version;
  carrier = carrier;
  lpcn = lpcn;
  octet = found.0.0;
  within = found.0.1;
  channel = found.0.2;
  spelled = found.1;
}
hello_read octets (Some (Rx number slot word)) found holds = absurd (cc)
hello_read octets (Some Poll) found holds = absurd (cc)
hello_read octets (Some (Active slot)) found holds = absurd (cc)
hello_read octets (Some Bye) found holds = absurd (cc)
hello_read octets None found holds = absurd (cc)

-- octets are a HELLO exactly if a HELLO is the frame that is read of them
pub hello_from_frame : (octets : List ℕ) (r : Option FrameIn) → IfSome r (λ f. IsFrame V1 f × (octets ≡ spelling f))
    → ((f : FrameIn) → IsFrame V1 f → octets ≡ spelling f → r ≡ Some f) → IsTrue (is_hello_frame r) ↔ IsHello octets
hello_from_frame octets r found only = (
  hello_read octets r found,
  λ (h : IsHello octets). ap is_hello_frame (only (Hello h.version h.carrier h.lpcn) (h.octet, h.within, h.channel) h.spelled),
)

-- the octet of a version that is served is an octet
served_within : (greatest : Version) (octet : ℕ) → IsSome (version_named greatest octet) → octet < 256
served_within greatest octet served =
    elim (cases_Bool (octet == 1)) [
      | inl first ↦ let one : octet ≡ 1 = eqb-true octet 1 first in omega (arith, one)
      | inr other ↦ elim (cases_Bool (octet == 2 && is_since V2 greatest)) [
        | inl second ↦ let two : octet ≡ 2 = eqb-true octet 2 (and_parts (octet == 2) (is_since V2 greatest) second).0 in omega (arith, two)
        | inr none ↦
            let unnamed : version_named greatest octet ≡ None =
            cond-false (octet == 1) (Some V1) _ other ∙ cond-false _ (Some V2) None none in
            absurd (both_ways (is_some (version_named greatest octet)) (ap is_some unnamed) served)
      ]
    ]

-- octets of which a frame was read are a HELLO for a carrier if the frame is one
hello_for_read : (greatest : Version) (number channel : ℕ) (octets : List ℕ) (r : Option FrameIn) →
    IfSome r (λ f. IsFrame V1 f × (octets ≡ spelling f))
    → IsTrue (is_frame_for greatest number channel r) → IsHelloFor greatest number channel octets
hello_for_read greatest number channel octets (Some (Hello version carrier lpcn)) found holds =
    let served = is_some (version_named greatest version) in
    let parts = and_parts (served && (carrier == number)) (lpcn == channel) holds in
    let front = and_parts served (carrier == number) parts.0 in
    let same_number : carrier ≡ number = eqb-true carrier number front.1 in
    let same_channel : lpcn ≡ channel = eqb-true lpcn channel parts.1 in
    record {
      version = version;
      served = front.0;
      spelled = found.1 ∙ ap (λ n. spelling (Hello version n lpcn)) same_number ∙ ap (λ n. spelling (Hello version number n)) same_channel;
    }
hello_for_read greatest number channel octets (Some (Rx n slot word)) found holds = absurd (cc)
hello_for_read greatest number channel octets (Some Poll) found holds = absurd (cc)
hello_for_read greatest number channel octets (Some (Active slot)) found holds = absurd (cc)
hello_for_read greatest number channel octets (Some Bye) found holds = absurd (cc)
hello_for_read greatest number channel octets None found holds = absurd (cc)

-- octets are a HELLO for a carrier exactly if such a HELLO is the frame that is read of them
pub hello_for_from_frame : (greatest : Version) (number channel : ℕ) (octets : List ℕ) (r : Option FrameIn) → number < 16 → channel < 65536
    → IfSome r (λ f. IsFrame V1 f × (octets ≡ spelling f)) → ((f : FrameIn) → IsFrame V1 f → octets ≡ spelling f → r ≡ Some f)
    → IsTrue (is_frame_for greatest number channel r) ↔ IsHelloFor greatest number channel octets
hello_for_from_frame greatest number channel octets r small fits found only = (
  hello_for_read greatest number channel octets r found,
  λ (h : IsHelloFor greatest number channel octets).
      let within : number < 256 = omega (arith, small) in
      let whole : r ≡ Some (Hello h.version number channel) =
      only (Hello h.version number channel) (served_within greatest h.version h.served, within, fits) h.spelled in
      ap (is_frame_for greatest number channel) whole
      ∙ and_from _ _ (and_from _ _ h.served (eq-eqb number number refl)) (eq-eqb channel channel refl),
)
