-- The links of the worked term on their way: what the octets mean, and the connection that they leave.
use Rattle.std.proofs.Common.{◌≡◌, ℕ, true, false, List, [], ◌∷◌, ◌++◌, Option, Some, None, map, refl, sym, ◌∙◌, ap, subst}
use Rattle.std.specs.Prelude.{slice_index_or}
use Rattle.std.specs.List.{All}
use Rattle.std.proofs.lemmas.List.Elements.{All-nil, All-cons}
use Rattle.dmr_core.specs.declared.event.Event.TheVariants.{Lost, Poll}
use Rattle.dmr_frames.specs.declared.frame.Cause.TheVariants.{UnknownType}
use Rattle.dmr_frames.specs.declared.version.Version.TheVariants.{V1}
use Rattle.dmr_frames.specs.Frames.{hello_step, whole_step}
use Rattle.dmr_frames.specs.Reading.{body_step, kind_step, length_step, step_at}
use Rattle.dmr_wire.specs.declared.closing.Closing.TheVariants.{Over, Bad}
use Rattle.dmr_link.specs.declared.desk.Deposit.{Deposit}
use Rattle.dmr_link.specs.declared.link_state.LinkState.{LinkState}
use Rattle.dmr_link.specs.declared.notices.SiteNotice.{SiteNotice}
use Rattle.dmr_link.specs.declared.stream.Peer.{Peer}
use Rattle.dmr_link.specs.declared.stream.Peer.TheVariants.{Carrier}
use Rattle.dmr_link.specs.Closing.{closing_of_octets}
use Rattle.dmr_link.specs.Meaning.{left_by_octets, meaning_of_octets}
use Rattle.dmr_link.specs.Notices.{Accepted, Happened, Notice}
use Rattle.dmr_link.specs.Peers.{closing_from, is_going, left_from, meaning_from, next_onward, text_to_peer}
use Rattle.dmr_link.specs.Session.{events_in}
use Rattle.dmr_link.specs.Sessions.{Going, HasPast, IsIdle, IsLeftBy, IsOver, IsWhole, Session, WasServed, kept_of}
use Rattle.test_witness.specs.Worked.{bad_octet, carrier_0, carrier_1, faulty_link, hello_0, hello_1, new_link, poll}

-- ---- what the octets mean, and whether the connection is open after them

pub nothing_0 : meaning_from (Carrier carrier_0) [] false ≡ []
unfolding meaning_of_octets
nothing_0 = refl

pub means_hello_0 : meaning_from (Carrier carrier_0) hello_0 false ≡ Accepted 0 V1 ∷ []
unfolding meaning_of_octets step_at kind_step length_step body_step whole_step hello_step
means_hello_0 = refl

pub means_cut_0 : meaning_from (Carrier carrier_0) hello_0 true ≡ Accepted 0 V1 ∷ Happened (Lost 0) ∷ []
unfolding meaning_of_octets step_at kind_step length_step body_step whole_step hello_step
means_cut_0 = refl

pub opens_0 : is_going (left_from (Carrier carrier_0) [] None) ≡ true
unfolding left_by_octets
opens_0 = refl

pub goes_0 : is_going (left_from (Carrier carrier_0) hello_0 None) ≡ true
unfolding left_by_octets step_at kind_step length_step body_step whole_step hello_step
goes_0 = refl

pub nothing_1 : meaning_from (Carrier carrier_1) [] false ≡ []
unfolding meaning_of_octets
nothing_1 = refl

pub means_hello_1 : meaning_from (Carrier carrier_1) hello_1 false ≡ Accepted 1 V1 ∷ []
unfolding meaning_of_octets step_at kind_step length_step body_step whole_step hello_step
means_hello_1 = refl

pub means_poll_1 : meaning_from (Carrier carrier_1) (hello_1 ++ poll) false ≡ Accepted 1 V1 ∷ Happened (Poll 1) ∷ []
unfolding meaning_of_octets step_at kind_step length_step body_step whole_step hello_step
means_poll_1 = refl

pub means_fault_1 : meaning_from (Carrier carrier_1) ((hello_1 ++ poll) ++ bad_octet ∷ []) false ≡ Accepted 1 V1 ∷ Happened
    (Poll 1) ∷ Happened (Lost 1) ∷ []
unfolding meaning_of_octets step_at kind_step length_step body_step whole_step hello_step
means_fault_1 = refl

pub opens_1 : is_going (left_from (Carrier carrier_1) [] None) ≡ true
unfolding left_by_octets
opens_1 = refl

pub goes_hello_1 : is_going (left_from (Carrier carrier_1) hello_1 None) ≡ true
unfolding left_by_octets step_at kind_step length_step body_step whole_step hello_step
goes_hello_1 = refl

pub goes_poll_1 : is_going (left_from (Carrier carrier_1) (hello_1 ++ poll) None) ≡ true
unfolding left_by_octets step_at kind_step length_step body_step whole_step hello_step
goes_poll_1 = refl

pub left_fault_1 : faulty_link.connection ≡ left_from (Carrier carrier_1) ((hello_1 ++ poll) ++ bad_octet ∷ []) None
unfolding left_by_octets step_at kind_step length_step body_step whole_step hello_step
left_fault_1 = refl

pub closes_fault_1 : closing_from (Carrier carrier_1) ((hello_1 ++ poll) ++ bad_octet ∷ []) ≡ Some (Bad UnknownType)
unfolding closing_of_octets step_at kind_step length_step body_step whole_step hello_step
closes_fault_1 = refl

-- ---- a link whose connection is open

never : true ≡ false → ⊥
never h = cc

-- these octets were processed, these were not, and this event is kept
abbrev pub going_link : Peer → List ℕ → List ℕ → Option SiteNotice → LinkState
going_link who read behind kept = record {
  who = who;
  connection = left_from who read None;
  pending = record { kept = kept; lost = None };
  is_cut = false;
  unread = behind;
  closing = Over;
}

abbrev pub going_session : List ℕ → List ℕ → List Deposit → Session
going_session came taken calls = record { came = came; taken = taken; how = Going; is_cut = false; calls = calls }

-- the notices that are done have been answered, and no TX was numbered
pub record IsDone (who : Peer) (done : List Notice) (taken : List ℕ) (calls : List Deposit) : Type 0 where
  pub events : events_in done ≡ map (λ d. d.event) calls
  pub text : taken ≡ text_to_peer who done calls
  pub next : next_onward who None done calls ≡ None

module _ (who : Peer) (read : List ℕ) (goes : is_going (left_from who read None) ≡ true) where
  pub left_going : (behind : List ℕ) (kept : Option SiteNotice) (done : List Notice) (taken : List ℕ) (calls : List Deposit) →
      meaning_from who read false ≡ done ++ (kept_of kept ++ []) → IsDone who done taken calls
      → IsLeftBy (going_link who read behind kept) (going_session (read ++ behind) taken calls)
  left_going behind kept done taken calls means is = record {
    read = read;
    behind = behind;
    done = done;
    came = refl;
    means = means;
    events = is.events;
    taken = is.text;
    place = (refl, ap (left_from who read) (sym is.next), refl, refl);
    cut = refl;
    why = λ closed. absurd (never (sym goes ∙ closed));
  }

  pub whole_going : (behind : List ℕ) (kept : Option SiteNotice) (done : List Notice) (taken : List ℕ) (calls : List Deposit) →
      meaning_from who read false ≡ done ++ (kept_of kept ++ []) → IsDone who done taken calls
      → IsWhole who (going_session (read ++ behind) taken calls)
  whole_going behind kept done taken calls means is =
      (going_link who read behind kept, refl, left_going behind kept done taken calls means is)

  pub idle_going : (done : List Notice) (taken : List ℕ) (calls : List Deposit) → meaning_from who read false ≡ done ++ [] →
      IsDone who done taken calls → IsIdle who (going_session (read ++ []) taken calls)
  idle_going done taken calls means is = (
    going_link who read [] None,
    refl,
    left_going [] None done taken calls means is,
    record { stays = λ closed. never (sym goes ∙ closed); kept = refl; lost = refl },
    refl,
  )

-- ---- a link that has had no connection

pub new_over : (who : Peer) → IsOver (new_link who)
new_over who = record { connection = refl; kept = refl; lost = refl }

pub were_served : (who : Peer) (past : List Session) → HasPast (new_link who) past → All (WasServed who) past
were_served who [] h = All-nil (WasServed who)
were_served who (s ∷ ss) h =
    All-cons (WasServed who) s ss (record { link = new_link who; same = refl; over = new_over who; stands = h.0 }) h.1

-- what holds of the newest connection
pub of_newest : (P : Session → Type 0) (x s : Session) (xs ss : List Session) → x ∷ xs ≡ s ∷ ss → P x → P s
of_newest P x s xs ss same holds = subst P (ap (λ (ys : List Session). slice_index_or ys 0 x) same) holds
