-- A carrier that is up is answered for its POLLs alone, and the last octet of a POLL is 0.
use Rattle.std.proofs.Common.{◌≡◌, ℕ, ◌+◌, ◌-◌, ◌*◌, ◌/◌, ◌≤◌, Bool, true, false, cond, List, [], ◌∷◌, ◌++◌, Option, Some, None, length}
use Rattle.std.proofs.Common.{refl, sym, ap, subst, arith, eqb-true}
use Rattle.std.specs.Prelude.{◌==◌, not, is_some, filter, if◌then◌else◌}
use Rattle.dmr_pdu.specs.declared.pdu.Pdu.{Pdu}
use Rattle.dmr_pdu.specs.declared.slots.Slot.{Slot}
use Rattle.dmr_burst.specs.Functions.{meaning_of}
use Rattle.dmr_core.specs.declared.event.Event.{Event}
use Rattle.dmr_frames.specs.declared.cutter.Step.{Step}
use Rattle.dmr_frames.specs.declared.cutter.Step.TheVariants.{Need, Frame, Fault}
use Rattle.dmr_frames.specs.declared.frame.Cause.{Cause}
use Rattle.dmr_frames.specs.declared.frame.Cause.TheVariants.{BadLength}
use Rattle.dmr_frames.specs.declared.frame.FrameIn.TheVariants as frame
use Rattle.dmr_frames.specs.declared.table.FrameKind.{FrameKind}
use Rattle.dmr_frames.specs.declared.table.FrameKind.TheVariants as kind
use Rattle.dmr_frames.specs.declared.version.FrameTable.{FrameTable}
use Rattle.dmr_frames.specs.declared.version.Version.{Version}
use Rattle.dmr_frames.specs.Frames.{whole_step, hello_step, rx_step, burst_step, active_step}
use Rattle.dmr_frames.specs.Reading.{step_at, kind_step, length_step, body_step, unless_fault, rest_after}
use Rattle.dmr_frames.specs.Rest.{Open, Faulty}
use Rattle.dmr_frames.specs.Table.{body_fault, carrier_kind}
use Rattle.dmr_frames.specs.Versions.{has_numbers, table_after, version_of}
use Rattle.dmr_link.specs.declared.connection.CarrierIdentity.{CarrierIdentity}
use Rattle.dmr_link.specs.declared.connection.Connection.{Connection}
use Rattle.dmr_link.specs.declared.connection.Connection.TheVariants.{Closed, Waiting, Running}
use Rattle.dmr_link.specs.Meaning.{event_of, event_of_burst, is_last, is_repeat, newest_after}
use Rattle.dmr_link.specs.Notices.{list_of_notice}
use Rattle.dmr_link.specs.Notices.{Happened}
use Rattle.dmr_link.specs.Room.{most_at, most_in, numbered_after_all}
use Rattle.dmr_link.specs.Steps.{connection_after_octet, notice_of_octet, notices_of_octets, running_produces, running_leaves}
use Rattle.dmr_link.specs.Zeros.{is_up_between, zeros_in}
use Rattle.dmr_link.proofs.OnePieceMore.{most-append}

-- ---- the last octet of a POLL

hello_is_none : (body : List ℕ) → hello_step body ≡ Frame frame.Poll → ⊥
unfolding hello_step
hello_is_none [] h = cc
hello_is_none (a ∷ []) h = cc
hello_is_none (a ∷ b ∷ []) h = cc
hello_is_none (a ∷ b ∷ c ∷ []) h = cc
hello_is_none (a ∷ b ∷ c ∷ d ∷ []) h = cc
hello_is_none (a ∷ b ∷ c ∷ d ∷ e ∷ body) h = cc

burst_is_none : (number : Option ℕ) (body : List ℕ) → burst_step number body ≡ Frame frame.Poll → ⊥
unfolding burst_step
burst_is_none number [] h = cc
burst_is_none number (slot ∷ octets) h = cc

rx_is_none : (numbered : Bool) (body : List ℕ) → rx_step numbered body ≡ Frame frame.Poll → ⊥
unfolding rx_step
rx_is_none false body h = burst_is_none None body h
rx_is_none true [] h = cc
rx_is_none true (number ∷ body) h = burst_is_none (Some number) body h

active_is_none : (body : List ℕ) → active_step body ≡ Frame frame.Poll → ⊥
unfolding active_step
active_is_none [] h = cc
active_is_none (slot ∷ []) h = cc
active_is_none (slot ∷ other ∷ body) h = cc

-- a whole body is a POLL's only if its type is
whole_poll : (numbered : Bool) (k : FrameKind) (body : List ℕ) → whole_step numbered k body ≡ Frame frame.Poll → k ≡ kind.Poll
unfolding whole_step
whole_poll numbered kind.Hello body h = absurd (hello_is_none body h)
whole_poll numbered kind.Rx body h = absurd (rx_is_none numbered body h)
whole_poll numbered kind.Poll body h = refl
whole_poll numbered kind.Active body h = absurd (active_is_none body h)
whole_poll numbered kind.Bye body h = cc
whole_poll numbered kind.Welcome body h = cc
whole_poll numbered kind.Tx body h = cc
whole_poll numbered kind.Done body h = cc
whole_poll numbered kind.Refused body h = cc

-- octets of a frame that has begun, and that is not a POLL with a body
abbrev IsNoLongPoll : Version → List ℕ → Type 0
IsNoLongPoll version [] = Unit {0}
IsNoLongPoll version (octet ∷ []) = Unit {0}
IsNoLongPoll version (octet ∷ count ∷ body) = carrier_kind version octet ≡ Some kind.Poll → ⊥

type_ends_none : (b : Bool) (cause : Cause) → cond b Need (Fault cause) ≡ Frame frame.Poll → ⊥
type_ends_none true cause h = cc
type_ends_none false cause h = cc

length_ends : (wrong zero : Bool) (cause : Cause) (whole : Step) → cond wrong (Fault cause) (cond zero whole Need) ≡ Frame frame.Poll →
    zero ≡ true
length_ends true zero cause whole h = cc
length_ends false true cause whole h = refl
length_ends false false cause whole h = cc

body_ends : (fault : Option Cause) (more : Bool) (whole : Step) → unless_fault fault (cond more Need whole) ≡ Frame frame.Poll →
    whole ≡ Frame frame.Poll
body_ends (Some cause) more whole h = cc
body_ends None true whole h = cc
body_ends None false whole h = h

after_type : (numbered : Bool) (k : Option FrameKind) (x : ℕ) → kind_step numbered k [] x ≡ Frame frame.Poll → x ≡ 0
unfolding kind_step length_step
after_type numbered None x h = cc
after_type numbered (Some k) x h = eqb-true x 0 (length_ends _ (x == 0) _ (whole_step numbered k []) h)

after_length : (numbered : Bool) (k : Option FrameKind) (count : ℕ) (body : List ℕ) (x : ℕ) →
    kind_step numbered k (count ∷ body) x ≡ Frame frame.Poll → k ≡ Some kind.Poll
unfolding kind_step body_step
after_length numbered None count body x h = cc
after_length numbered (Some k) count body x h = ap (λ (l : FrameKind). Some l)
    (whole_poll numbered k (body ++ x ∷ [])
    (body_ends (body_fault numbered k (length body) x) _ (whole_step numbered k (body ++ x ∷ [])) h))

poll_ends : (version : Version) (begun : List ℕ) (x : ℕ) → IsNoLongPoll version begun → step_at version begun x ≡ Frame frame.Poll → x ≡ 0
unfolding step_at
poll_ends version [] x short h = absurd (type_ends_none (is_some (carrier_kind version x)) _ h)
poll_ends version (octet ∷ []) x short h = after_type (has_numbers version) (carrier_kind version octet) x h
poll_ends version (octet ∷ count ∷ body) x short h =
    absurd (short (after_length (has_numbers version) (carrier_kind version octet) count body x h))

-- ---- no POLL has a body

poll_is_whole : (numbered : Bool) (x : ℕ) → kind_step numbered (Some kind.Poll) [] x ≡ Need → ⊥
unfolding kind_step length_step whole_step
poll_is_whole numbered x h = either (x == 0) h
  where
    either : (b : Bool) → cond (not b) (Fault BadLength) (cond b (Frame frame.Poll) Need) ≡ Need → ⊥
    either true h = cc
    either false h = cc

stays_short : (version : Version) (begun : List ℕ) (x : ℕ) → IsNoLongPoll version begun → step_at version begun x ≡ Need →
    IsNoLongPoll version (begun ++ x ∷ [])
unfolding step_at
stays_short version [] x short h = tt
stays_short version (octet ∷ []) x short h = λ poll. poll_is_whole (has_numbers version) x
    (subst (λ (k : Option FrameKind). kind_step (has_numbers version) k [] x ≡ Need) poll h)
stays_short version (octet ∷ count ∷ body) x short h = short

-- ---- the octets that answer an octet

zeros-cons : (x : ℕ) (octets : List ℕ) → zeros_in (x ∷ octets) ≡ zeros_in (x ∷ []) + zeros_in octets
zeros-cons x octets = either (x == 0) (filter (λ octet. octet == 0) octets)
  where
    either : (b : Bool) (rest : List ℕ) → length (cond b (x ∷ rest) rest) ≡ length (cond b (x ∷ []) []) + length rest
    either true rest = omega arith
    either false rest = omega arith

-- there are no more zeros than octets
pub zeros_within : (octets : List ℕ) → zeros_in octets ≤ length octets
zeros_within [] = omega arith
zeros_within (x ∷ octets) = omega (arith, zeros-cons x octets, zeros_within octets, one (x == 0))
  where
    one : (b : Bool) → length (cond b (x ∷ []) []) ≤ 1
    one true = omega arith
    one false = omega arith

-- an event that is not answered, or a repeat
unanswered : (numbered repeat : Bool) (e : Event) → most_at numbered e ≡ 0 →
    most_in numbered (list_of_notice (if repeat then None else Some (Happened e))) ≡ 0
unanswered numbered true e none = refl
unanswered numbered false e none = omega (arith, none)

burst_unanswered : (numbered : Bool) (slot : Slot) (pdu : Option Pdu) → most_at numbered (event_of_burst slot pdu) ≡ 0
burst_unanswered numbered slot None = refl
burst_unanswered numbered slot (Some pdu) = refl

poll_answered : (numbered repeat : Bool) (c : ℕ) → most_in numbered
    (list_of_notice (if repeat then None else Some (Happened (event_of c frame.Poll)))) ≤ 60
poll_answered numbered true c = omega arith
poll_answered true false c = omega arith
poll_answered false false c = omega arith

most_by_step : (numbered : Bool) (c : ℕ) (newest : Option ℕ) (step : Step) (x : ℕ) → (step ≡ Frame frame.Poll → x ≡ 0) →
    most_in numbered (list_of_notice (running_produces c newest step)) ≤ 60 * zeros_in (x ∷ [])
most_by_step numbered c newest Need x ends = omega arith
most_by_step numbered c newest (Fault cause) x ends = omega arith
most_by_step numbered c newest (Frame frame.Poll) x ends =
    subst (λ (n : ℕ). most_in numbered (list_of_notice (running_produces c newest (Frame frame.Poll))) ≤ 60 * zeros_in (n ∷ []))
    (sym (ends refl)) (poll_answered numbered (is_repeat newest frame.Poll) c)
most_by_step numbered c newest (Frame (frame.Rx number slot word)) x ends =
    omega (
      arith,
      unanswered numbered (is_repeat newest (frame.Rx number slot word)) (event_of c (frame.Rx number slot word))
          (burst_unanswered numbered (record { carrier = c; slot = slot }) (meaning_of word)),
    )
most_by_step numbered c newest (Frame (frame.Active slot)) x ends =
    omega (arith, unanswered numbered (is_repeat newest (frame.Active slot)) (event_of c (frame.Active slot)) refl)
most_by_step numbered c newest (Frame (frame.Hello version carrier lpcn)) x ends = omega
    (arith, unanswered numbered (is_repeat newest (frame.Hello version carrier lpcn)) (event_of c (frame.Hello version carrier lpcn)) refl)
most_by_step numbered c newest (Frame frame.Bye) x ends =
    omega (arith, unanswered numbered (is_repeat newest frame.Bye) (event_of c frame.Bye) refl)

-- a connection on which no POLL has a body
abbrev IsPlain : Connection → Type 0
IsPlain Closed = Unit {0}
IsPlain (Waiting rest) = ⊥
IsPlain (Running (Open table begun) newest) = IsNoLongPoll (version_of table) begun
IsPlain (Running (Faulty cause) newest) = Unit {0}

most_of_octet : (who : CarrierIdentity) (numbered : Bool) (k : Connection) (x : ℕ) → IsPlain k →
    most_in numbered (list_of_notice (notice_of_octet who k x)) ≤ 60 * zeros_in (x ∷ [])
most_of_octet who numbered Closed x plain = omega arith
most_of_octet who numbered (Waiting rest) x plain = absurd plain
most_of_octet who numbered (Running (Open table begun) newest) x plain =
    most_by_step numbered who.carrier newest (step_at (version_of table) begun x) x (poll_ends (version_of table) begun x plain)
most_of_octet who numbered (Running (Faulty cause) newest) x plain = omega arith

plain_by_last : (last : Bool) (table : FrameTable) (newest : Option ℕ) → IsPlain (if last then Closed else Running (Open table []) newest)
plain_by_last true table newest = tt
plain_by_last false table newest = tt

plain_by_step : (table : FrameTable) (begun : List ℕ) (newest : Option ℕ) (x : ℕ) (step : Step) →
    (step ≡ Need → IsNoLongPoll (version_of table) (begun ++ x ∷ [])) → IsPlain (running_leaves (rest_after table begun x step) newest step)
plain_by_step table begun newest x Need short = short refl
plain_by_step table begun newest x (Fault cause) short = tt
plain_by_step table begun newest x (Frame f) short = plain_by_last (is_last f) (table_after table f) (newest_after newest f)

stays_plain : (who : CarrierIdentity) (k : Connection) (x : ℕ) → IsPlain k → IsPlain (connection_after_octet who k x)
stays_plain who Closed x plain = tt
stays_plain who (Waiting rest) x plain = absurd plain
stays_plain who (Running (Open table begun) newest) x plain =
    plain_by_step table begun newest x (step_at (version_of table) begun x) (stays_short (version_of table) begun x plain)
stays_plain who (Running (Faulty cause) newest) x plain = tt

-- ---- the octets that answer octets

most_of_plain : (who : CarrierIdentity) (numbered : Bool) (k : Connection) (octets : List ℕ) → IsPlain k →
    most_in numbered (notices_of_octets who k octets) ≤ 60 * zeros_in octets
most_of_plain who numbered k [] plain = omega arith
most_of_plain who numbered k (x ∷ octets) plain =
    let after : Connection = connection_after_octet who k x in
    let both = most-append numbered (notice_of_octet who k x) (notices_of_octets who after octets) in
    let later = most_of_plain who (numbered_after_all numbered (list_of_notice (notice_of_octet who k x))) after octets
    (stays_plain who k x plain) in
    omega (arith, both, most_of_octet who numbered k x plain, later, zeros-cons x octets)

plain_between : (k : Connection) → is_up_between k ≡ true → IsPlain k
plain_between Closed is = tt
plain_between (Waiting rest) is = cc
plain_between (Running (Open table []) newest) is = tt
plain_between (Running (Open table (x ∷ octets)) newest) is = cc
plain_between (Running (Faulty cause) newest) is = tt

-- at most 60 octets for each octet that is 0
most_by_zeros : (who : CarrierIdentity) (numbered : Bool) (k : Connection) (octets : List ℕ) → is_up_between k ≡ true →
    most_in numbered (notices_of_octets who k octets) ≤ 60 * zeros_in octets
most_by_zeros who numbered k octets is = most_of_plain who numbered k octets (plain_between k is)

-- so there is room for them if there are 60 places for each octet that is 0
pub room_by_zeros : (who : CarrierIdentity) (numbered : Bool) (k : Connection) (octets : List ℕ) (len room : ℕ) → len ≤ room →
    is_up_between k ≡ true → zeros_in octets ≤ (room - len) / 60 → len + most_in numbered (notices_of_octets who k octets) ≤ room
room_by_zeros who numbered k octets len room within up few = omega (arith, within, few, most_by_zeros who numbered k octets up)
