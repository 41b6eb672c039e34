-- The notices that octets produce one after another are what they mean together.
use Rattle.std.proofs.Common.{◌≡◌, ℕ, List, [], ◌∷◌, ◌++◌, Bool, true, false, ◌||◌, cond, Option, Some, None, refl, sym, ap, ◌∙◌}
use Rattle.std.specs.Prelude.{if◌then◌else◌}
use Rattle.std.proofs.lemmas.List.{append-nil}
use Rattle.dmr_pdu.proofs.Laws.{items-append}
use Rattle.dmr_frames.specs.declared.frame.FrameIn.{FrameIn}
use Rattle.dmr_frames.specs.declared.frame.Cause.{Cause}
use Rattle.dmr_frames.specs.declared.cutter.Step.{Step}
use Rattle.dmr_frames.specs.declared.cutter.Step.TheVariants.{Need, Frame, Fault}
use Rattle.dmr_frames.specs.Rest.{Rest, Open, Faulty}
use Rattle.dmr_frames.specs.declared.version.FrameTable.{FrameTable}
use Rattle.dmr_frames.specs.declared.version.FrameTable.TheVariants.{First}
use Rattle.dmr_frames.specs.Versions.{chosen_by, version_of, table_after}
use Rattle.dmr_frames.specs.Reading.{step_at, rest_after, frame_of, frames_from, rest_after_octets}
use Rattle.dmr_core.specs.declared.event.Event.TheVariants.{Lost}
use Rattle.dmr_link.specs.declared.connection.CarrierIdentity.{CarrierIdentity}
use Rattle.dmr_link.specs.Notices.{Notice}
use Rattle.dmr_link.specs.Notices.{Happened, Accepted}
use Rattle.dmr_link.specs.declared.connection.Connection.{Connection}
use Rattle.dmr_link.specs.declared.connection.Connection.TheVariants.{Closed, Waiting, Running}
use Rattle.dmr_link.specs.Meaning.{is_accepted, refusal_of_first, is_last, is_repeat, newest_after, fresh_frames, event_of, while_up}
use Rattle.dmr_link.specs.Meaning.{meaning_of_frames, is_stream_fault, no_octets, meaning_of_octets, notices_at_end, left_up}
use Rattle.dmr_link.specs.Meaning.{left_by_frames, left_by_octets}
use Rattle.dmr_link.specs.Notices.{list_of_notice}
use Rattle.dmr_link.proofs.EachFrame.{repeat_stays}
use Rattle.dmr_link.specs.Steps.{new_connection, waiting_produces, waiting_leaves, running_produces, running_leaves, notice_of_octet}
use Rattle.dmr_link.specs.Steps.{connection_after_octet, notices_of_octets, connection_after_octets}

-- the notices of the end, if the connection has ended
abbrev ending : Bool → ℕ → Connection → List Notice
ending e c k = if e then notices_at_end c k else []

pub frames-faulty : (cause : Cause) (xs : List ℕ) → frames_from (Faulty cause) xs ≡ []
frames-faulty cause [] = refl
frames-faulty cause (x ∷ xs) = frames-faulty cause xs

pub rest-faulty : (cause : Cause) (xs : List ℕ) → rest_after_octets (Faulty cause) xs ≡ Faulty cause
rest-faulty cause [] = refl
rest-faulty cause (x ∷ xs) = rest-faulty cause xs

-- ---- a closed connection

pub closed_produced : (who : CarrierIdentity) (xs : List ℕ) → notices_of_octets who Closed xs ≡ []
closed_produced who [] = refl
closed_produced who (x ∷ xs) = closed_produced who xs

pub closed_taken : (who : CarrierIdentity) (xs : List ℕ) → connection_after_octets who Closed xs ≡ Closed
closed_taken who [] = refl
closed_taken who (x ∷ xs) = closed_taken who xs

no_ending : (e : Bool) → ◌≡◌ {A = List Notice} [] (if e then [] else [])
no_ending true = refl
no_ending false = refl

closed : (who : CarrierIdentity) (xs : List ℕ) (e : Bool) → [] ≡ notices_of_octets who Closed xs ++ ending e who.carrier
    (connection_after_octets who Closed xs)
closed who xs e =
    no_ending e
    ∙ ap (λ (k : Connection). ending e who.carrier k) (sym (closed_taken who xs))
    ∙ ap (λ (ns : List Notice). ns ++ ending e who.carrier (connection_after_octets who Closed xs)) (sym (closed_produced who xs))

-- ---- a carrier that is up

-- whether the octets end in a fault, or the connection has ended
abbrev stops : Rest → List ℕ → Bool → Bool
stops rest xs e = is_stream_fault (rest_after_octets rest xs) || e

-- the statement about the octets that remain, from each open rest
abbrev Runs : CarrierIdentity → Bool → List ℕ → Type 0
Runs who e xs = (t : FrameTable) (q : List ℕ) (newest : Option ℕ) →
    while_up who.carrier (fresh_frames newest (frames_from (Open t q) xs)) (stops (Open t q) xs e)
    ≡ notices_of_octets who (Running (Open t q) newest) xs ++ ending e who.carrier
    (connection_after_octets who (Running (Open t q) newest) xs)

up_last : (who : CarrierIdentity) (e : Bool) (xs : List ℕ) (t : FrameTable) (newest : Option ℕ) (b : Bool) → Runs who e xs →
    cond b [] (while_up who.carrier (fresh_frames newest (frames_from (Open t []) xs)) (stops (Open t []) xs e))
    ≡ notices_of_octets who (cond b Closed (Running (Open t []) newest)) xs ++ ending e who.carrier
    (connection_after_octets who (cond b Closed (Running (Open t []) newest)) xs)
up_last who e xs t newest true h = closed who xs e
up_last who e xs t newest false h = h t [] newest

up_frame : (who : CarrierIdentity) (e : Bool) (xs : List ℕ) (t : FrameTable) (newest : Option ℕ) (f : FrameIn) (b : Bool) →
    is_repeat newest f ≡ b → Runs who e xs →
    while_up who.carrier (cond b (fresh_frames newest (frames_from (Open t []) xs))
    (f ∷ fresh_frames (newest_after newest f) (frames_from (Open t []) xs))) (stops (Open t []) xs e)
    ≡ list_of_notice (cond b None (Some (Happened (event_of who.carrier f))))
    ++ notices_of_octets who (cond (is_last f) Closed (Running (Open t []) (newest_after newest f))) xs
    ++ ending e who.carrier (connection_after_octets who (cond (is_last f) Closed (Running (Open t []) (newest_after newest f))) xs)
up_frame who e xs t newest f true is h =
    let stays = repeat_stays newest f is in
    h t [] newest
    ∙ (λ i. notices_of_octets who (cond (sym stays.0 i) Closed (Running (Open t []) (sym stays.1 i))) xs
    ++ ending e who.carrier (connection_after_octets who (cond (sym stays.0 i) Closed (Running (Open t []) (sym stays.1 i))) xs))
up_frame who e xs t newest f false is h =
    ap (λ (ns : List Notice). Happened (event_of who.carrier f) ∷ ns) (up_last who e xs t (newest_after newest f) (is_last f) h)

up_fault : (who : CarrierIdentity) (e : Bool) (newest : Option ℕ) (cause : Cause) (xs : List ℕ) →
    while_up who.carrier (fresh_frames newest (frames_from (Faulty cause) xs)) (stops (Faulty cause) xs e)
    ≡ Happened (Lost who.carrier) ∷ (notices_of_octets who Closed xs ++ ending e who.carrier (connection_after_octets who Closed xs))
up_fault who e newest cause xs =
    (λ i. while_up who.carrier (fresh_frames newest (frames-faulty cause xs i)) (is_stream_fault (rest-faulty cause xs i) || e))
    ∙ ap (λ (ns : List Notice). Happened (Lost who.carrier) ∷ ns) (closed who xs e)

up_step : (who : CarrierIdentity) (e : Bool) (t : FrameTable) (q : List ℕ) (newest : Option ℕ) (x : ℕ) (xs : List ℕ) (s : Step) →
    Runs who e xs →
    while_up who.carrier (fresh_frames newest (frame_of s ++ frames_from (rest_after t q x s) xs)) (stops (rest_after t q x s) xs e)
    ≡ list_of_notice (running_produces who.carrier newest s)
    ++ notices_of_octets who (running_leaves (rest_after t q x s) newest s) xs
    ++ ending e who.carrier (connection_after_octets who (running_leaves (rest_after t q x s) newest s) xs)
up_step who e t q newest x xs Need h = h t (q ++ x ∷ []) newest
up_step who e t q newest x xs (Frame f) h = up_frame who e xs (table_after t f) newest f (is_repeat newest f) refl h
up_step who e t q newest x xs (Fault cause) h = up_fault who e newest cause xs

up_all : (who : CarrierIdentity) (e : Bool) (xs : List ℕ) → Runs who e xs
up_all who true [] t q newest = refl
up_all who false [] t q newest = refl
up_all who e (x ∷ xs) t q newest = up_step who e t q newest x xs (step_at (version_of t) q x) (up_all who e xs)

-- ---- before the first frame

abbrev Waits : CarrierIdentity → Bool → List ℕ → Type 0
Waits who e xs = (t : FrameTable) (q : List ℕ) →
    meaning_of_frames who (frames_from (Open t q) xs) (stops (Open t q) xs e)
    ≡ notices_of_octets who (Waiting (Open t q)) xs ++ ending e who.carrier (connection_after_octets who (Waiting (Open t q)) xs)

first_refused : (who : CarrierIdentity) (e : Bool) (xs : List ℕ) (n : Option Notice) →
    list_of_notice n ≡ list_of_notice n ++ notices_of_octets who Closed xs ++ ending e who.carrier (connection_after_octets who Closed xs)
first_refused who e xs None = closed who xs e
first_refused who e xs (Some n) = ap (λ (ns : List Notice). n ∷ ns) (closed who xs e)

first_frame : (who : CarrierIdentity) (e : Bool) (f : FrameIn) (t : FrameTable) (xs : List ℕ) (b : Bool) →
    cond b (Accepted who.carrier (chosen_by who.greatest f) ∷ while_up who.carrier (fresh_frames None (frames_from (Open t []) xs))
    (stops (Open t []) xs e)) (list_of_notice (refusal_of_first who f))
    ≡ list_of_notice (cond b (Some (Accepted who.carrier (chosen_by who.greatest f))) (refusal_of_first who f))
    ++ notices_of_octets who (cond b (Running (Open t []) None) Closed) xs
    ++ ending e who.carrier (connection_after_octets who (cond b (Running (Open t []) None) Closed) xs)
first_frame who e f t xs true = ap (λ (ns : List Notice). Accepted who.carrier (chosen_by who.greatest f) ∷ ns) (up_all who e xs t [] None)
first_frame who e f t xs false = first_refused who e xs (refusal_of_first who f)

first_fault : (who : CarrierIdentity) (e : Bool) (cause : Cause) (xs : List ℕ) →
    meaning_of_frames who (frames_from (Faulty cause) xs) (stops (Faulty cause) xs e)
    ≡ notices_of_octets who Closed xs ++ ending e who.carrier (connection_after_octets who Closed xs)
first_fault who e cause xs =
    (λ i. meaning_of_frames who (frames-faulty cause xs i) (is_stream_fault (rest-faulty cause xs i) || e)) ∙ closed who xs e

first_step : (who : CarrierIdentity) (e : Bool) (t : FrameTable) (q : List ℕ) (x : ℕ) (xs : List ℕ) (s : Step) → Waits who e xs →
    meaning_of_frames who (frame_of s ++ frames_from (rest_after t q x s) xs) (stops (rest_after t q x s) xs e)
    ≡ list_of_notice (waiting_produces who s)
    ++ notices_of_octets who (waiting_leaves who (rest_after t q x s) s) xs
    ++ ending e who.carrier (connection_after_octets who (waiting_leaves who (rest_after t q x s) s) xs)
first_step who e t q x xs Need h = h t (q ++ x ∷ [])
first_step who e t q x xs (Frame f) h = first_frame who e f (table_after t f) xs (is_accepted who f)
first_step who e t q x xs (Fault cause) h = first_fault who e cause xs

first_all : (who : CarrierIdentity) (e : Bool) (xs : List ℕ) → Waits who e xs
first_all who true [] t q = refl
first_all who false [] t q = refl
first_all who e (x ∷ xs) t q = first_step who e t q x xs (step_at (version_of t) q x) (first_all who e xs)

-- ---- the connection after octets

abbrev LeavesUp : CarrierIdentity → List ℕ → Type 0
LeavesUp who xs = (t : FrameTable) (q : List ℕ) (newest : Option ℕ) →
    left_up newest (frames_from (Open t q) xs) (rest_after_octets (Open t q) xs) ≡ connection_after_octets who
    (Running (Open t q) newest) xs

left_last : (who : CarrierIdentity) (xs : List ℕ) (t : FrameTable) (newest : Option ℕ) (b : Bool) → LeavesUp who xs →
    cond b Closed (left_up newest (frames_from (Open t []) xs) (rest_after_octets (Open t []) xs)) ≡ connection_after_octets who
    (cond b Closed (Running (Open t []) newest)) xs
left_last who xs t newest true h = sym (closed_taken who xs)
left_last who xs t newest false h = h t [] newest

left_step : (who : CarrierIdentity) (t : FrameTable) (q : List ℕ) (newest : Option ℕ) (x : ℕ) (xs : List ℕ) (s : Step) → LeavesUp who xs →
    left_up newest (frame_of s ++ frames_from (rest_after t q x s) xs) (rest_after_octets (rest_after t q x s) xs) ≡ connection_after_octets
    who (running_leaves (rest_after t q x s) newest s) xs
left_step who t q newest x xs Need h = h t (q ++ x ∷ []) newest
left_step who t q newest x xs (Frame f) h = left_last who xs (table_after t f) (newest_after newest f) (is_last f) h
left_step who t q newest x xs (Fault cause) h =
    (λ i. left_up newest (frames-faulty cause xs i) (rest-faulty cause xs i)) ∙ sym (closed_taken who xs)

left_all : (who : CarrierIdentity) (xs : List ℕ) → LeavesUp who xs
left_all who [] t q newest = refl
left_all who (x ∷ xs) t q newest = left_step who t q newest x xs (step_at (version_of t) q x) (left_all who xs)

abbrev LeavesFirst : CarrierIdentity → List ℕ → Type 0
LeavesFirst who xs = (t : FrameTable) (q : List ℕ) → left_by_frames who (frames_from (Open t q) xs)
    (rest_after_octets (Open t q) xs) ≡ connection_after_octets who (Waiting (Open t q)) xs

left_accepted : (who : CarrierIdentity) (t : FrameTable) (xs : List ℕ) (b : Bool) →
    cond b (left_up None (frames_from (Open t []) xs) (rest_after_octets (Open t []) xs)) Closed ≡ connection_after_octets who
    (cond b (Running (Open t []) None) Closed) xs
left_accepted who t xs true = left_all who xs t [] None
left_accepted who t xs false = sym (closed_taken who xs)

left_first : (who : CarrierIdentity) (t : FrameTable) (q : List ℕ) (x : ℕ) (xs : List ℕ) (s : Step) → LeavesFirst who xs →
    left_by_frames who (frame_of s ++ frames_from (rest_after t q x s) xs)
    (rest_after_octets (rest_after t q x s) xs) ≡ connection_after_octets who (waiting_leaves who (rest_after t q x s) s) xs
left_first who t q x xs Need h = h t (q ++ x ∷ [])
left_first who t q x xs (Frame f) h = left_accepted who (table_after t f) xs (is_accepted who f)
left_first who t q x xs (Fault cause) h =
    (λ i. left_by_frames who (frames-faulty cause xs i) (rest-faulty cause xs i)) ∙ sym (closed_taken who xs)

left_waiting : (who : CarrierIdentity) (xs : List ℕ) → LeavesFirst who xs
left_waiting who [] t q = refl
left_waiting who (x ∷ xs) t q = left_first who t q x xs (step_at (version_of t) q x) (left_waiting who xs)

-- ---- whole records

pub octets-meaning : (who : CarrierIdentity) (octets : List ℕ) (frames : List FrameIn) (rest : Rest) (e : Bool) →
    frames_from (no_octets who) octets ≡ frames → rest_after_octets (no_octets who) octets ≡ rest →
    meaning_of_octets who octets e ≡ meaning_of_frames who frames (is_stream_fault rest || e)
unfolding meaning_of_octets
octets-meaning who octets frames rest e f r = (λ i. meaning_of_frames who (f i) (is_stream_fault (r i) || e))

pub octets-leave : (who : CarrierIdentity) (octets : List ℕ) (frames : List FrameIn) (rest : Rest) →
    frames_from (no_octets who) octets ≡ frames → rest_after_octets (no_octets who) octets ≡ rest →
    left_by_octets who octets ≡ left_by_frames who frames rest
unfolding left_by_octets
octets-leave who octets frames rest f r = (λ i. left_by_frames who (f i) (r i))

pub octets-open : (who : CarrierIdentity) (octets : List ℕ) → meaning_of_octets who octets false ≡ notices_of_octets who
    (new_connection who) octets
unfolding meaning_of_octets
octets-open who octets = first_all who false octets (First who.greatest) [] ∙ append-nil (notices_of_octets who (new_connection who) octets)

pub octets-left : (who : CarrierIdentity) (octets : List ℕ) → left_by_octets who octets ≡ connection_after_octets who
    (new_connection who) octets
unfolding left_by_octets
octets-left who octets = left_waiting who octets (First who.greatest) []

pub octets-ended : (who : CarrierIdentity) (octets : List ℕ) → meaning_of_octets who octets true ≡ notices_of_octets who
    (new_connection who) octets ++ notices_at_end who.carrier (left_by_octets who octets)
unfolding meaning_of_octets
octets-ended who octets =
    first_all who true octets (First who.greatest) []
    ∙ ap (λ (k : Connection). notices_of_octets who (new_connection who) octets ++ notices_at_end who.carrier k)
    (sym (octets-left who octets))

pub notices_of_octets-append : (who : CarrierIdentity) (k : Connection) (a b : List ℕ) →
    notices_of_octets who k (a ++ b) ≡ notices_of_octets who k a ++ notices_of_octets who (connection_after_octets who k a) b
notices_of_octets-append who = items-append (connection_after_octet who) (notice_of_octet who) list_of_notice
