-- What is known of newcomers, step by step, and the octets that they have shown.
use Rattle.std.proofs.Common.{◌≡◌, ◌↔◌, ℕ, ◌+◌, zero, suc, Bool, true, false, ◌||◌, List, [], ◌∷◌, ◌++◌, length, take, remove, Option, Some}
use Rattle.std.proofs.Common.{None, is_some, IsTrue, IfSome, cond, arith, ap, subst, ◌∙◌, sym, refl, inl, inr}
use Rattle.std.specs.Prelude.{slice_index_or, slice_set, option_map}
use Rattle.std.specs.List.{AllZip, list_any, position_from}
use Rattle.std.proofs.lemmas.Bool.{false≢true, or_cases, or_left, or_right}
use Rattle.std.proofs.lemmas.Iterator.Adapters.{position_from-zero}
use Rattle.dmr_frames.specs.declared.version.Version.{Version}
use Rattle.dmr_port.specs.declared.settings.PortSettings.{PortSettings}
use Rattle.dmr_port.specs.declared.sockets.Accepted.{Accepted}
use Rattle.dmr_port.specs.declared.sockets.Accepted.TheVariants as accepted
use Rattle.dmr_port.specs.declared.sockets.Peeked.{Peeked}
use Rattle.dmr_port.specs.declared.sockets.Peeked.TheVariants as peeked
use Rattle.dmr_port.specs.declared.waiting_room.Newcomer.{Newcomer}
use Rattle.dmr_port.specs.declared.waiting_room.WaitingRoom.{WaitingRoom}
use Rattle.dmr_port.specs.declared.whose.Whose.{Whose}
use Rattle.dmr_port.specs.declared.whose.Whose.TheVariants.{Carrier, Console}
use Rattle.dmr_port.specs.Newcomers.{AreKnown, HasNewcomersOf, IsClaimed, IsClaimedAs, IsKnownAs, IsKnownBy}
use Rattle.dmr_port.specs.Settings.{IsClaimOn}
use Rattle.dmr_port.specs.Sockets.{KeepsNewcomers, SocketState, shown_after_accept, shown_after_peek, shown_without}
use Rattle.dmr_port.specs.WaitingRoom.{place_of_claimant}

-- ---- lists that agree place by place

module _ {X Y : Type 0} (R : X → Y → Type 0) where
  zip_pushed : (xs : List X) (ys : List Y) (x : X) (y : Y) → AllZip R xs ys → R x y → AllZip R (xs ++ x ∷ []) (ys ++ y ∷ [])
  zip_pushed [] [] x y h r = (r, tt)
  zip_pushed [] (b ∷ ys) x y h r = absurd h
  zip_pushed (a ∷ xs) [] x y h r = absurd h
  zip_pushed (a ∷ xs) (b ∷ ys) x y h r = (h.0, zip_pushed xs ys x y h.1 r)

  zip_set : (xs : List X) (ys : List Y) (i : ℕ) (x : X) (y : Y) → AllZip R xs ys → R x y → AllZip R (slice_set xs i x) (slice_set ys i y)
  zip_set [] [] i x y h r = tt
  zip_set [] (b ∷ ys) i x y h r = absurd h
  zip_set (a ∷ xs) [] i x y h r = absurd h
  zip_set (a ∷ xs) (b ∷ ys) zero x y h r = (r, h.1)
  zip_set (a ∷ xs) (b ∷ ys) (suc i) x y h r = (h.0, zip_set xs ys i x y h.1 r)

  zip_removed : (xs : List X) (ys : List Y) (i : ℕ) → AllZip R xs ys → AllZip R (remove xs i) (remove ys i)
  zip_removed [] [] zero h = tt
  zip_removed [] [] (suc i) h = tt
  zip_removed [] (b ∷ ys) i h = absurd h
  zip_removed (a ∷ xs) [] i h = absurd h
  zip_removed (a ∷ xs) (b ∷ ys) zero h = h.1
  zip_removed (a ∷ xs) (b ∷ ys) (suc i) h = (h.0, zip_removed xs ys i h.1)

  zip_none : (ys : List Y) → length ys ≡ 0 → AllZip R [] ys
  zip_none [] none = tt
  zip_none (b ∷ ys) none = absurd (omega (arith, none))

-- an element in its own place
set_itself : {X : Type 0} (xs : List X) (i : ℕ) (x : X) → x ≡ slice_index_or xs i x → slice_set xs i x ≡ xs
set_itself [] i x is = refl
set_itself (a ∷ xs) zero x is = ap (λ y. y ∷ xs) is
set_itself (a ∷ xs) (suc i) x is = ap (λ ys. a ∷ ys) (set_itself xs i x is)

-- ---- newcomers

-- without an octet there is no claim
none_claims : (whose : Whose) (greatest : Version) → IsClaimOn whose greatest [] → ⊥
none_claims (Carrier number lpcn) greatest claim = let spelled = claim.spelled in absurd (cc)
none_claims Console greatest claim = claim

-- a step that the newcomers and their octets take together
known_on : (settings : PortSettings) (newcomers newcomers' : List Newcomer) (shown : Option (List (List ℕ)))
    (step : List (List ℕ) → List (List ℕ))
    → ((octets : List (List ℕ)) → AllZip (IsKnownBy settings) newcomers octets → AllZip (IsKnownBy settings) newcomers' (step octets))
    → AreKnown settings newcomers shown → AreKnown settings newcomers' (option_map step shown)
known_on settings newcomers newcomers' None step goes known = record { known = λ octets is. absurd (cc) }
known_on settings newcomers newcomers' (Some before) step goes known = record {
  known = λ octets is.
      let found : Some (step before) ≡ Some octets = is in
      let same : step before ≡ octets = cc in
      subst (AllZip (IsKnownBy settings) newcomers') same (goes before (known.known before refl));
}

-- nothing more was shown
pub known_at : (settings : PortSettings) (newcomers : List Newcomer) (shown shown' : Option (List (List ℕ))) → shown' ≡ shown →
    AreKnown settings newcomers shown → AreKnown settings newcomers shown'
known_at settings newcomers shown shown' is known = subst (AreKnown settings newcomers) (sym is) known

-- the sockets kept their newcomers
pub newcomers_kept : (settings : PortSettings) (room : WaitingRoom) (old new : SocketState) → KeepsNewcomers old new →
    HasNewcomersOf settings room old → HasNewcomersOf settings room new
newcomers_kept settings room old new keeps has = record {
  all = keeps.waiting ∙ has.all;
  known = known_at settings room.newcomers.items old.shown new.shown keeps.shown has.known;
}

-- there are none
pub known_none : (settings : PortSettings) (shown : Option (List (List ℕ))) (waiting : ℕ) →
    IfSome shown (λ octets. length octets ≡ waiting) → waiting ≡ 0 → AreKnown settings [] shown
known_none settings None waiting all none = record { known = λ octets is. absurd (cc) }
known_none settings (Some before) waiting all none = record {
  known = λ octets is.
      let same : before ≡ octets = cc in
      subst (AllZip (IsKnownBy settings) []) same (zip_none (IsKnownBy settings) before (all ∙ none));
}

-- one came, and has shown nothing
pub known_added : (settings : PortSettings) (newcomers newcomers' : List Newcomer) (newcomer : Newcomer) (a : Accepted)
    (shown shown' : Option (List (List ℕ)))
    → newcomers' ≡ newcomers ++ newcomer ∷ [] → newcomer.has_hello ≡ false → a ≡ accepted.Came newcomer.from →
    shown' ≡ shown_after_accept a shown
    → AreKnown settings newcomers shown → AreKnown settings newcomers' shown'
known_added settings newcomers newcomers' newcomer a shown shown' added new came is known =
    let P : List Newcomer → Type 0 = λ all. AreKnown settings all shown' in
    let by : IsKnownBy settings newcomer [] =
    (λ on. absurd (false≢true (sym new ∙ on)), λ claim. absurd (none_claims settings.whose settings.greatest claim)) in
    subst P (sym added)
    (known_at settings (newcomers ++ newcomer ∷ []) _ shown' (is ∙ ap (λ one. shown_after_accept one shown) came)
    (known_on settings newcomers (newcomers ++ newcomer ∷ []) shown (λ octets. octets ++ [] ∷ [])
    (λ octets zip. zip_pushed (IsKnownBy settings) newcomers octets newcomer [] zip by) known))

-- the one at a place is gone
pub known_removed : (settings : PortSettings) (newcomers newcomers' : List Newcomer) (place : ℕ) (shown shown' : Option (List (List ℕ)))
    → newcomers' ≡ remove newcomers place → shown' ≡ shown_without place shown → AreKnown settings newcomers shown →
    AreKnown settings newcomers' shown'
known_removed settings newcomers newcomers' place shown shown' removed is known =
    let P : List Newcomer → Type 0 = λ all. AreKnown settings all shown' in
    subst P (sym removed)
    (known_at settings (remove newcomers place) _ shown' is
    (known_on settings newcomers (remove newcomers place) shown (λ octets. remove octets place)
    (λ octets zip. zip_removed (IsKnownBy settings) newcomers octets place zip) known))

-- a look at the one at a place
looked : (settings : PortSettings) (newcomers : List Newcomer) (newcomer known : Newcomer) (place : ℕ) (peeked : Peeked) (first : List ℕ)
    (shown : Option (List (List ℕ)))
    → newcomer ≡ slice_index_or newcomers place newcomer → IsKnownAs settings newcomer peeked first (Some known) →
    AreKnown settings newcomers shown
    → AreKnown settings (slice_set newcomers place known) (shown_after_peek place peeked first shown)
looked settings newcomers newcomer known place (peeked.Octets n) first shown at sent are =
    known_on settings newcomers (slice_set newcomers place known) shown (λ octets. slice_set octets place (take n first))
    (λ octets zip. zip_set (IsKnownBy settings) newcomers octets place known (take n first) zip sent.1) are
looked settings newcomers newcomer known place peeked.Nothing first shown at same are =
    let one : known ≡ newcomer = cc in
    let P : List Newcomer → Type 0 = λ all. AreKnown settings all shown in
    subst P (sym (ap (slice_set newcomers place) one ∙ set_itself newcomers place newcomer at)) are
looked settings newcomers newcomer known place peeked.Ended first shown at none are = absurd (cc)

pub known_looked : (settings : PortSettings) (newcomers newcomers' : List Newcomer) (newcomer known : Newcomer) (place : ℕ)
    (peeked : Peeked) (first : List ℕ) (shown shown' : Option (List (List ℕ)))
    → newcomers' ≡ slice_set newcomers place known → newcomer ≡ slice_index_or newcomers place newcomer →
    shown' ≡ shown_after_peek place peeked first shown
    → IsKnownAs settings newcomer peeked first (Some known) → AreKnown settings newcomers shown → AreKnown settings newcomers' shown'
known_looked settings newcomers newcomers' newcomer known place peeked first shown shown' set at is sent are =
    let P : List Newcomer → Type 0 = λ all. AreKnown settings all shown' in
    subst P (sym set) (known_at settings (slice_set newcomers place known) _ shown' is
    (looked settings newcomers newcomer known place peeked first shown at sent are))

-- a look at one whose connection has ended shows nothing
ended_shows_none : (settings : PortSettings) (newcomer : Newcomer) (place : ℕ) (peeked : Peeked) (first : List ℕ)
    (shown : Option (List (List ℕ))) → IsKnownAs settings newcomer peeked first None
    → shown_after_peek place peeked first shown ≡ shown
ended_shows_none settings newcomer place (peeked.Octets n) first shown none = absurd none
ended_shows_none settings newcomer place peeked.Nothing first shown none = absurd (cc)
ended_shows_none settings newcomer place peeked.Ended first shown none = refl

-- the one at a place was looked at, has ended, and is gone
pub known_ended : (settings : PortSettings) (newcomers newcomers' : List Newcomer) (newcomer : Newcomer) (place : ℕ) (peeked : Peeked)
    (first : List ℕ) (shown mid shown' : Option (List (List ℕ)))
    → newcomers' ≡ remove newcomers place → mid ≡ shown_after_peek place peeked first shown → shown' ≡ shown_without place mid
    → IsKnownAs settings newcomer peeked first None → AreKnown settings newcomers shown → AreKnown settings newcomers' shown'
known_ended settings newcomers newcomers' newcomer place peeked first shown mid shown' removed looks is none are =
    known_removed settings newcomers newcomers' place shown shown' removed
    (is ∙ ap (shown_without place) (looks ∙ ended_shows_none settings newcomer place peeked first shown none)) are

-- ---- claims

-- there is a first one exactly if there is one
has_first : {X : Type 0} (test : X → Bool) (i : ℕ) (xs : List X) → is_some (position_from test i xs) ≡ list_any test xs
has_first test i [] = refl
has_first test i (x ∷ xs) = by (test x) (has_first test (i + 1) xs)
  where
    by : (b : Bool) → is_some (position_from test (i + 1) xs) ≡ list_any test xs
        → is_some (cond b (Some i) (position_from test (i + 1) xs)) ≡ (b || list_any test xs)
    by true rest = refl
    by false rest = rest

-- a newcomer has shown a HELLO exactly if one is known to have sent one
one_claims : (settings : PortSettings) (newcomers : List Newcomer) (octets : List (List ℕ)) → AllZip (IsKnownBy settings) newcomers octets
    → IsTrue (list_any (λ (n : Newcomer). n.has_hello) newcomers) ↔ IsClaimed settings octets
one_claims settings [] [] zip = (λ on. absurd (false≢true on), λ claim. absurd claim)
one_claims settings [] (o ∷ octets) zip = absurd zip
one_claims settings (n ∷ newcomers) [] zip = absurd zip
one_claims settings (n ∷ newcomers) (o ∷ octets) zip =
    let rest = one_claims settings newcomers octets zip.1 in
    let others = list_any (λ (n : Newcomer). n.has_hello) newcomers in (
      λ on. elim (or_cases n.has_hello others on) [
        | inl this ↦ inl (zip.0.0 this)
        | inr other ↦ inr (rest.0 other)
      ],
      λ claim. elim claim [
        | inl this ↦ or_left n.has_hello others (zip.0.1 this)
        | inr other ↦ or_right n.has_hello others (rest.1 other)
      ],
    )

pub claimed : (settings : PortSettings) (newcomers : List Newcomer) (shown : Option (List (List ℕ))) (place : Option ℕ)
    (is_claimed : Bool) → AreKnown settings newcomers shown
    → place ≡ place_of_claimant newcomers → is_claimed ≡ is_some place → IsClaimedAs settings shown is_claimed
claimed settings newcomers shown place is_claimed known at is =
    let test : Newcomer → Bool = λ n. n.has_hello in
    let same : is_claimed ≡ list_any test newcomers =
    is ∙ ap is_some (at ∙ position_from-zero test newcomers) ∙ has_first test 0 newcomers in
    record {
      claim = λ octets some.
          let P : Bool → Type 0 = λ b. IsTrue b ↔ IsClaimed settings octets in
          subst P (sym same) (one_claims settings newcomers octets (known.known octets some));
    }
