-- The number of a connection's next TX stays one of its version.
use Rattle.std.proofs.Common.{◌≡◌, ◌+◌, ◌%◌, ℕ, List, [], ◌∷◌, ◌++◌, Bool, true, false, Option, Some, None, refl, sym, ap, ◌∙◌, subst}
use Rattle.std.proofs.Common.{arith}
use Rattle.std.specs.Prelude.{is_some, option_map, flat_map, if◌then◌else◌}
use Rattle.std.proofs.lemmas.List.{append-nil}
use Rattle.dmr_plan.specs.declared.settings.Settings.{Settings}
use Rattle.dmr_frames.specs.declared.frame.FrameIn.{FrameIn}
use Rattle.dmr_frames.specs.declared.frame.FrameOut.{FrameOut}
use Rattle.dmr_frames.specs.declared.frame.FrameOut.TheVariants as out
use Rattle.dmr_frames.specs.declared.cutter.Step.{Step}
use Rattle.dmr_frames.specs.declared.cutter.Step.TheVariants.{Need, Frame, Fault}
use Rattle.dmr_frames.specs.declared.version.Version.{Version}
use Rattle.dmr_frames.specs.declared.version.Version.TheVariants.{V1}
use Rattle.dmr_frames.specs.declared.version.FrameTable.{FrameTable}
use Rattle.dmr_frames.specs.declared.version.FrameTable.TheVariants.{First, Later}
use Rattle.dmr_frames.specs.Frames.{IsNumbered, IsNumberWhere}
use Rattle.dmr_frames.proofs.FrameLaws.{octet_names}
use Rattle.dmr_frames.specs.Reading.{step_at, rest_after}
use Rattle.dmr_frames.specs.Rest.{Open, Faulty}
use Rattle.dmr_frames.specs.Versions.{has_numbers, version_octet, chosen_by}
use Rattle.dmr_core.specs.declared.act.Act.{Act}
use Rattle.dmr_core.specs.declared.act.Act.TheVariants as act
use Rattle.dmr_core.specs.declared.event.Event.{Event}
use Rattle.dmr_core.specs.declared.event.Event.TheVariants.{Up, Lost, Heard, Noise, Active, Poll, Tick, Say}
use Rattle.dmr_core.specs.Facts.{Facts}
use Rattle.dmr_link.specs.declared.connection.CarrierIdentity.{CarrierIdentity}
use Rattle.dmr_link.specs.declared.connection.Connection.{Connection}
use Rattle.dmr_link.specs.declared.connection.Connection.TheVariants.{Closed, Waiting, Running}
use Rattle.dmr_link.specs.Answering.{acts_for_event}
use Rattle.dmr_link.specs.Meaning.{is_accepted, is_last, is_repeat, newest_after, event_of, refusal_of_first}
use Rattle.dmr_link.specs.Notices.{list_of_notice}
use Rattle.dmr_link.specs.Notices.{Notice, Happened, Accepted, Refused, Rejected}
use Rattle.dmr_link.specs.Numbering.{first_number, next_after_frames}
use Rattle.dmr_link.specs.Room.{numbered_after_all}
use Rattle.dmr_link.specs.Session.{transmissions, event_frames, frames_said}
use Rattle.dmr_link.specs.Sound.{IsConnectionSound, IsNumberingOf}
use Rattle.dmr_link.specs.Steps.{waiting_produces, running_produces, waiting_leaves, running_leaves, notice_of_octet}
use Rattle.dmr_link.specs.Steps.{connection_after_octet}

-- ---- a property that each next number keeps is kept by the answer to an event

-- the number after one more TX
abbrev counted : Option ℕ → Option ℕ
counted next = option_map (λ n. (n + 1) % 256) next

module _ (P : Option ℕ → Type 0) (counts : (next : Option ℕ) → P next → P (counted next)) where
  acts_keep : (acts : List Act) (next : Option ℕ) → P next → P (next_after_frames next (flat_map transmissions acts ++ out.Done ∷ []))
  acts_keep [] next is = is
  acts_keep (act.Queue slot pdu ∷ acts) next is = acts_keep acts next is
  acts_keep (act.Send slot pdu ∷ acts) next is = acts_keep acts (counted next) (counts next is)
  acts_keep (act.Fill slot pdu ∷ acts) next is = acts_keep acts (counted next) (counts next is)
  acts_keep (act.Joined radio ∷ acts) next is = acts_keep acts next is
  acts_keep (act.Left radio ∷ acts) next is = acts_keep acts next is
  acts_keep (act.Asked ask ∷ acts) next is = acts_keep acts next is
  acts_keep (act.AskOver radio ∷ acts) next is = acts_keep acts next is
  acts_keep (act.Lined line ∷ acts) next is = acts_keep acts next is
  acts_keep (act.Unlined radio ∷ acts) next is = acts_keep acts next is
  acts_keep (act.Began call ∷ acts) next is = acts_keep acts next is
  acts_keep (act.Ended slot ∷ acts) next is = acts_keep acts next is

  event_keeps : (plan : Settings) (facts : Facts) (event : Event) (next : Option ℕ) → P next →
      P (next_after_frames next (frames_said plan facts (Happened event ∷ [])))
  event_keeps plan facts (Poll c) next is =
      let Q : List FrameOut → Type 0 = λ frames. P (next_after_frames next frames) in
      subst Q (sym (append-nil (flat_map transmissions (acts_for_event plan facts (Poll c)) ++ out.Done ∷ [])))
      (acts_keep (acts_for_event plan facts (Poll c)) next is)
  event_keeps plan facts (Up c) next is = is
  event_keeps plan facts (Lost c) next is = is
  event_keeps plan facts (Heard slot pdu) next is = is
  event_keeps plan facts (Noise slot) next is = is
  event_keeps plan facts (Active slot) next is = is
  event_keeps plan facts Tick next is = is
  event_keeps plan facts (Say command) next is = is

-- ---- whether TX are numbered

counted_stays : (b : Bool) (next : Option ℕ) → is_some next ≡ b → is_some (counted next) ≡ b
counted_stays b None is = is
counted_stays b (Some n) is = is

-- after the notice of an octet, TX are numbered exactly as `numbered_after_all` says
pub numbered_said : (plan : Settings) (facts : Facts) (next : Option ℕ) (brought : Option Notice) →
    is_some (next_after_frames next (frames_said plan facts (list_of_notice brought))) ≡ numbered_after_all (is_some next)
    (list_of_notice brought)
numbered_said plan facts next None = refl
numbered_said plan facts next (Some (Happened event)) =
    event_keeps (λ n. is_some n ≡ is_some next) (counted_stays (is_some next)) plan facts event next refl
numbered_said plan facts next (Some (Accepted c version)) = refl
numbered_said plan facts next (Some (Refused c refusal)) = refl
numbered_said plan facts next (Some (Rejected fault)) = refl

-- ---- the number of a version

-- the number of a first TX, by whether bursts are numbered
abbrev first_where : Bool → Option ℕ
first_where numbered = if numbered then Some 0 else None

first_is : (version : Version) → first_number (version_octet version) ≡ first_where (has_numbers version)
first_is version = ap (λ (v : Version). first_where (has_numbers v)) (octet_names version)

some_where : (b : Bool) → b ≡ is_some (first_where b)
some_where true = refl
some_where false = refl

-- a version that numbers bursts begins with a number, and no other does
pub numbers_by_version : (version : Version) → has_numbers version ≡ is_some (first_number (version_octet version))
numbers_by_version version = some_where (has_numbers version) ∙ ap (λ (n : Option ℕ). is_some n) (sym (first_is version))

begins_where : (b : Bool) → IsNumberWhere b (first_where b)
begins_where true = omega arith
begins_where false = tt

-- a WELCOME starts the numbers of its version
pub begins_numbered : (version : Version) → IsNumbered version (first_number (version_octet version))
begins_numbered version = let P : Option ℕ → Type 0 = λ n. IsNumbered version n in
    subst P (sym (first_is version)) (begins_where (has_numbers version))

counted_where : (b : Bool) (next : Option ℕ) → IsNumberWhere b next → IsNumberWhere b (counted next)
counted_where false None is = is
counted_where false (Some n) is = absurd is
counted_where true None is = absurd is
counted_where true (Some n) is = omega arith

counted_numbered : (version : Version) (next : Option ℕ) → IsNumbered version next → IsNumbered version (counted next)
counted_numbered version next is = counted_where (has_numbers version) next is

-- the number after the answer to an event is of the same version
pub event_frames_number : (version : Version) (event : Event) (acts : List Act) (next : Option ℕ) → IsNumbered version next →
    IsNumbered version (next_after_frames next (event_frames event acts))
event_frames_number version (Poll c) acts next is = acts_keep (IsNumbered version) (counted_numbered version) acts next is
event_frames_number version (Up c) acts next is = is
event_frames_number version (Lost c) acts next is = is
event_frames_number version (Heard slot pdu) acts next is = is
event_frames_number version (Noise slot) acts next is = is
event_frames_number version (Active slot) acts next is = is
event_frames_number version Tick acts next is = is
event_frames_number version (Say command) acts next is = is

module _ (who : CarrierIdentity) (plan : Settings) (facts : Facts) (next : Option ℕ) where
  -- the number after the notice of a step
  abbrev pub next_by : Option Notice → Option ℕ
  next_by brought = next_after_frames next (frames_said plan facts (list_of_notice brought))

  first_numbered : (f : FrameIn) (b : Bool) →
      IsNumberingOf (if b then Running (Open (Later (chosen_by who.greatest f)) []) None else Closed)
      (next_by (if b then Some (Accepted who.carrier (chosen_by who.greatest f)) else refusal_of_first who f))
  first_numbered f true = begins_numbered (chosen_by who.greatest f)
  first_numbered f false = tt

  waiting_numbered : (q : List ℕ) (x : ℕ) (s : Step) → IsNumberingOf (waiting_leaves who (rest_after (First who.greatest) q x s) s)
      (next_by (waiting_produces who s))
  waiting_numbered q x Need = tt
  waiting_numbered q x (Frame f) = first_numbered f (is_accepted who f)
  waiting_numbered q x (Fault cause) = tt

  kept_numbered : (version : Version) (newest later : Option ℕ) (f : FrameIn) (last again : Bool) → IsNumbered version next →
      IsNumberingOf (if last then Closed else Running (Open (Later version) []) later)
      (next_by (if again then None else Some (Happened (event_of who.carrier f))))
  kept_numbered version newest later f true again is = tt
  kept_numbered version newest later f false true is = is
  kept_numbered version newest later f false false is =
      event_keeps (IsNumbered version) (counted_numbered version) plan facts (event_of who.carrier f) next is

  running_numbered : (version : Version) (newest : Option ℕ) (q : List ℕ) (x : ℕ) (s : Step) → IsNumbered version next →
      IsNumberingOf (running_leaves (rest_after (Later version) q x s) newest s) (next_by (running_produces who.carrier newest s))
  running_numbered version newest q x Need is = is
  running_numbered version newest q x (Frame f) is =
      kept_numbered version newest (newest_after newest f) f (is_last f) (is_repeat newest f) is
  running_numbered version newest q x (Fault cause) is = tt

  -- the number of the next TX stays one of the connection's version, octet by octet
  pub numbering_goes : (k : Connection) (x : ℕ) → IsConnectionSound who.greatest k → IsNumberingOf k next →
      IsNumberingOf (connection_after_octet who k x) (next_by (notice_of_octet who k x))
  numbering_goes Closed x sound is = tt
  numbering_goes (Waiting (Faulty cause)) x sound is = absurd sound
  numbering_goes (Waiting (Open t q)) x sound is =
      let P : FrameTable → Type 0 = λ u. IsNumberingOf (connection_after_octet who (Waiting (Open u q)) x)
      (next_by (notice_of_octet who (Waiting (Open u q)) x)) in
      subst P (sym sound.0) (waiting_numbered q x (step_at V1 q x))
  numbering_goes (Running (Faulty cause) newest) x sound is = absurd sound
  numbering_goes (Running (Open (First version) q) newest) x sound is = absurd sound
  numbering_goes (Running (Open (Later version) q) newest) x sound is = running_numbered version newest q x (step_at version q x) is

  -- the same for the values that the code computes
  pub numbering_stays : (k later : Connection) (x : ℕ) (brought : Option Notice) (new : Option ℕ) → brought ≡ notice_of_octet who k x →
      later ≡ connection_after_octet who k x → new ≡ next_by brought →
      IsConnectionSound who.greatest k → IsNumberingOf k next → IsNumberingOf later new
  numbering_stays k later x brought new brings left counts sound is = rw (counts, brings, left) (numbering_goes k x sound is)
