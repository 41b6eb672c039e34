-- Octets up to the end of a frame: the notice that they produce together, and the connection after them.
use Rattle.std.proofs.Common.{◌≡◌, ℕ, suc, ◌<◌, ◌≤◌, List, [], ◌∷◌, ◌++◌, Option, length, length-take-le, take, get_or, sym, ap, ◌∙◌, arith}
use Rattle.std.proofs.Common.{⊎_elim, subst}
use Rattle.std.proofs.lemmas.Bool.{cases_lt}
use Rattle.std.proofs.lemmas.List.{append-nil, get_or_past, get_or-take}
use Rattle.dmr_frames.specs.declared.cutter.Step.{Step}
use Rattle.dmr_frames.specs.Rest.{Rest}
use Rattle.dmr_frames.specs.Reading.{ProduceAtLast, step_from, rest_after_octet, rest_after_octets}
use Rattle.dmr_frames.proofs.FrameLaws.{reads_on}
use Rattle.dmr_plan.specs.declared.settings.Settings.{Settings}
use Rattle.dmr_core.specs.Facts.{Facts}
use Rattle.dmr_link.specs.declared.connection.CarrierIdentity.{CarrierIdentity}
use Rattle.dmr_link.specs.declared.connection.Connection.{Connection}
use Rattle.dmr_link.specs.declared.connection.Connection.TheVariants.{Closed, Waiting, Running}
use Rattle.dmr_link.specs.Answering.{facts_from}
use Rattle.dmr_link.specs.Notices.{list_of_notice}
use Rattle.dmr_link.specs.Notices.{Notice}
use Rattle.dmr_link.specs.Numbering.{next_after_frames}
use Rattle.dmr_link.specs.Session.{frames_said}
use Rattle.dmr_link.specs.Sound.{IsConnectionSound, IsNumberingOf}
use Rattle.dmr_link.specs.Steps.{waiting_produces, waiting_leaves, running_produces, running_leaves, notice_of_octet}
use Rattle.dmr_link.specs.Steps.{connection_after_octet, notices_of_octets, connection_after_octets}
use Rattle.dmr_link.proofs.ConnectionsStaySound.{waiting_stays, running_stays}
use Rattle.dmr_link.proofs.NumberingLemmas.{next_after_frames-append}
use Rattle.dmr_link.proofs.NumbersFollowVersions.{next_by, numbering_goes}
use Rattle.dmr_link.proofs.PiecesInTwo.{frames_said-append}

-- ---- up to the end of a frame

pub waiting-piece : (who : CarrierIdentity) (rest : Rest) (octets : List ℕ) (step : Step) → ProduceAtLast rest octets step →
    (notices_of_octets who (Waiting rest) octets ≡ list_of_notice (waiting_produces who step)) ×
    (connection_after_octets who (Waiting rest) octets ≡ waiting_leaves who (rest_after_octets rest octets) step)
waiting-piece who rest [] step h = absurd h
waiting-piece who rest (x ∷ []) step h = (
  append-nil (list_of_notice (waiting_produces who (step_from rest x))) ∙ ap (λ (s : Step). list_of_notice (waiting_produces who s)) h,
  ap (waiting_leaves who (rest_after_octet rest x)) h,
)
waiting-piece who rest (x ∷ y ∷ octets) step h =
    let here : connection_after_octet who (Waiting rest) x ≡ Waiting (rest_after_octet rest x) =
    ap (waiting_leaves who (rest_after_octet rest x)) h.0 in
    let later = waiting-piece who (rest_after_octet rest x) (y ∷ octets) step h.1 in (
      (λ i. list_of_notice (waiting_produces who (h.0 i)) ++ notices_of_octets who (here i) (y ∷ octets)) ∙ later.0,
      ap (λ (k : Connection). connection_after_octets who k (y ∷ octets)) here ∙ later.1,
    )

pub running-piece : (who : CarrierIdentity) (newest : Option ℕ) (rest : Rest) (octets : List ℕ) (step : Step) →
    ProduceAtLast rest octets step →
    (notices_of_octets who (Running rest newest) octets ≡ list_of_notice (running_produces who.carrier newest step)) ×
    (connection_after_octets who (Running rest newest) octets ≡ running_leaves (rest_after_octets rest octets) newest step)
running-piece who newest rest [] step h = absurd h
running-piece who newest rest (x ∷ []) step h = (
  append-nil (list_of_notice (running_produces who.carrier newest (step_from rest x)))
      ∙ ap (λ (s : Step). list_of_notice (running_produces who.carrier newest s)) h,
  ap (running_leaves (rest_after_octet rest x) newest) h,
)
running-piece who newest rest (x ∷ y ∷ octets) step h =
    let here : connection_after_octet who (Running rest newest) x ≡ Running (rest_after_octet rest x) newest =
    ap (running_leaves (rest_after_octet rest x) newest) h.0 in
    let later = running-piece who newest (rest_after_octet rest x) (y ∷ octets) step h.1 in (
      (λ i. list_of_notice (running_produces who.carrier newest (h.0 i)) ++ notices_of_octets who (here i) (y ∷ octets)) ∙ later.0,
      ap (λ (k : Connection). connection_after_octets who k (y ∷ octets)) here ∙ later.1,
    )

-- ---- octets leave every connection sound

pub small-taken : (octets : List ℕ) (n : ℕ) → n ≤ length octets → ((i : ℕ) → get_or octets i 0 < 256) → (i : ℕ) →
    get_or (take n octets) i 0 < 256
small-taken octets n le small i =
    ⊎_elim
    (λ (lt : i < n). let at : get_or (take n octets) i 0 ≡ get_or octets i 0 = get_or-take n octets i 0 lt in omega (arith, at, small i))
    (λ (past : n ≤ i). let none : get_or (take n octets) i 0 ≡ 0 = get_or_past (take n octets) i 0
    (omega (arith, past, length-take-le n octets le)) in omega (arith, none))
    (cases_lt i n)

octet_sound : (who : CarrierIdentity) (k : Connection) (x : ℕ) → x < 256 → IsConnectionSound who.greatest k →
    IsConnectionSound who.greatest (connection_after_octet who k x)
octet_sound who Closed x small sound = tt
octet_sound who (Waiting rest) x small sound = waiting_stays who rest x (λ table octets fs h. reads_on table octets fs rest x small h) sound
octet_sound who (Running rest newest) x small sound =
    running_stays who rest newest x (λ table octets fs h. reads_on table octets fs rest x small h) sound

pub octets-sound : (who : CarrierIdentity) (k : Connection) (octets : List ℕ) → ((i : ℕ) → get_or octets i 0 < 256) →
    IsConnectionSound who.greatest k → IsConnectionSound who.greatest (connection_after_octets who k octets)
octets-sound who k [] small sound = sound
octets-sound who k (x ∷ octets) small sound =
    octets-sound who (connection_after_octet who k x) octets (λ i. small (suc i)) (octet_sound who k x (small 0) sound)

pub octets-numbered : (who : CarrierIdentity) (plan : Settings) (facts : Facts) (next : Option ℕ) (k : Connection) (octets : List ℕ) →
    ((i : ℕ) → get_or octets i 0 < 256) →
    IsConnectionSound who.greatest k → IsNumberingOf k next → IsNumberingOf (connection_after_octets who k octets)
    (next_after_frames next (frames_said plan facts (notices_of_octets who k octets)))
octets-numbered who plan facts next k [] small sound is = is
octets-numbered who plan facts next k (x ∷ octets) small sound is =
    let brought : List Notice = list_of_notice (notice_of_octet who k x) in
    let after : Connection = connection_after_octet who k x in
    let later : List Notice = notices_of_octets who after octets in
    let counts : next_after_frames next (frames_said plan facts (brought ++ later)) ≡ next_after_frames
    (next_by who plan facts next (notice_of_octet who k x)) (frames_said plan (facts_from plan facts brought) later) =
    ap (next_after_frames next) (frames_said-append plan facts brought later)
    ∙ next_after_frames-append next (frames_said plan facts brought) (frames_said plan (facts_from plan facts brought) later) in
    let P : Option ℕ → Type 0 = λ n. IsNumberingOf (connection_after_octets who after octets) n in
    subst P (sym counts) (octets-numbered who plan (facts_from plan facts brought)
    (next_by who plan facts next (notice_of_octet who k x)) after octets (λ i. small (suc i))
    (octet_sound who k x (small 0) sound) (numbering_goes who plan facts next k x sound is))
