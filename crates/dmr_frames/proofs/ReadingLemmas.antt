-- How a reading continues, and the results of the octets of a frame, or of a part of one, for an empty rest.
use Rattle.std.proofs.Common.{◌≡◌, Option, Some, None, is_some, false, ℕ, ◌<◌, List, [], ◌∷◌, ◌++◌, length, take, refl, sym, ap, ◌∙◌}
use Rattle.std.proofs.Common.{append_assoc, arith, subst, All}
use Rattle.std.specs.List.{flat_map}
use Rattle.std.proofs.lemmas.List.{append-nil, flat_map_more}
use Rattle.std.proofs.lemmas.List.Sums.{fold_push}
use Rattle.std.proofs.lemmas.List.Elements.{All-head, All-tail, All-from_get_or}
use Rattle.dmr_frames.specs.declared.frame.FrameIn.{FrameIn}
use Rattle.dmr_frames.specs.declared.frame.FrameIn.TheVariants.{Poll}
use Rattle.dmr_frames.specs.declared.frame.Cause.{Cause}
use Rattle.dmr_frames.specs.declared.cutter.Step.{Step}
use Rattle.dmr_frames.specs.declared.cutter.Step.TheVariants.{Need, Frame, Fault}
use Rattle.dmr_frames.specs.declared.version.Version.{Version}
use Rattle.dmr_frames.specs.declared.version.FrameTable.{FrameTable}
use Rattle.dmr_frames.specs.Versions.{version_of, table_after, table_after_frames}
use Rattle.dmr_frames.specs.Frames.{IsFrame, spelling}
use Rattle.dmr_frames.specs.Rest.{Rest, Open, Faulty, rest_of}
use Rattle.dmr_frames.specs.Stream.{IsOpen, IsFaulty, Reads, AreFrames, IsStep}
use Rattle.dmr_frames.specs.Shape.{AreSmall}
use Rattle.dmr_frames.specs.Reading.{ProduceAtLast, step_at, step_from, rest_after_octet, rest_after, frame_of, frames_from}
use Rattle.dmr_frames.specs.Reading.{rest_after_octets}
use Rattle.dmr_frames.proofs.TableLemmas.{small-front, small-tail, small-take}
use Rattle.dmr_frames.proofs.OneFrameLemmas.{step-inside, step-at_last}
use Rattle.dmr_frames.proofs.EachFrame.{length-spelling}
use Rattle.dmr_frames.proofs.OneSpelling.{spelling-small}
use Rattle.dmr_frames.proofs.StreamLemmas.{readings-same}
use Rattle.dmr_frames.proofs.StepLemmas.{step_sound}

pub open_nothing : (v : Version) → IsOpen v []
open_nothing v = (Poll, 3, 0 ∷ [], tt, refl)

-- one more frame, of the version of the table at its place
frames_more : (table : FrameTable) (fs : List FrameIn) (f : FrameIn) → AreFrames table fs →
    IsFrame (version_of (table_after_frames table fs)) f → AreFrames table (fs ++ f ∷ [])
frames_more table [] f h is = (is, tt)
frames_more table (g ∷ fs) f h is = (h.0, frames_more (table_after table g) fs f h.1 is)

table_more : (table : FrameTable) (fs : List FrameIn) (f : FrameIn) → table_after_frames table (fs ++ f ∷ []) ≡ table_after
    (table_after_frames table fs) f
table_more table fs f = fold_push table_after table fs f

moved_frame : (t u : FrameTable) (f : FrameIn) → t ≡ u → IsFrame (version_of u) f → IsFrame (version_of t) f
moved_frame t u f e h = let P : FrameTable → Type 0 = λ table. IsFrame (version_of table) f in subst P (sym e) h

no_more : (table : FrameTable) (octets : List ℕ) (fs : List FrameIn) (r : Rest) → Reads table octets fs r → Reads table octets (fs ++ []) r
no_more table octets fs r h = let P : List FrameIn → Type 0 = λ gs. Reads table octets gs r in subst P (sym (append-nil fs)) h

-- the octets after the frames, with one more of them
longer_by : (fs : List FrameIn) (octets tail q : List ℕ) (x : ℕ) → octets ≡ flat_map spelling fs ++ tail → tail ≡ q →
    octets ++ x ∷ [] ≡ flat_map spelling fs ++ (q ++ x ∷ [])
longer_by fs octets tail q x e d =
    ap (λ (o : List ℕ). o ++ x ∷ []) (e ∙ ap (λ (t : List ℕ). flat_map spelling fs ++ t) d) ∙ append_assoc (flat_map spelling fs) q (x ∷ [])

open_on : (table : FrameTable) (octets : List ℕ) (fs : List FrameIn) (t : FrameTable) (q : List ℕ) (x : ℕ) (s : Step) →
    Reads table octets fs (Open t q) → IsStep (version_of t) q x s →
    Reads table (octets ++ x ∷ []) (fs ++ frame_of s) (rest_after t q x s)
open_on table octets fs t q x Need h is = no_more table (octets ++ x ∷ []) fs (Open t (q ++ x ∷ [])) (record {
  tail = q ++ x ∷ [];
  whole = longer_by fs octets h.tail q x h.whole h.rest_is.1;
  each = h.each;
  rest_is = (h.rest_is.0, refl, is);
})
open_on table octets fs t q x (Frame f) h is = record {
  tail = [];
  whole = longer_by fs octets h.tail q x h.whole h.rest_is.1
      ∙ ap (λ (t : List ℕ). flat_map spelling fs ++ t) is.1 ∙ flat_map_more spelling [] fs f
      ∙ sym (append-nil (flat_map spelling (fs ++ f ∷ [])));
  each = frames_more table fs f h.each (moved_frame (table_after_frames table fs) t f h.rest_is.0 is.0);
  rest_is =
      (table_more table fs f ∙ ap (λ (u : FrameTable). table_after u f) h.rest_is.0, refl, open_nothing (version_of (table_after t f)));
}
open_on table octets fs t q x (Fault cause) h is = no_more table (octets ++ x ∷ []) fs (Faulty cause) (
    let fault : IsFaulty (version_of t) (q ++ x ∷ []) cause = record
    { front = q; octet = x; more = []; whole = refl; open_front = h.rest_is.2; no_frame = is.0; cause_is = is.1 } in
    let P : FrameTable → Type 0 = λ u. IsFaulty (version_of u) (q ++ x ∷ []) cause in
    record {
      tail = q ++ x ∷ [];
      whole = longer_by fs octets h.tail q x h.whole h.rest_is.1;
      each = h.each;
      rest_is = subst P (sym h.rest_is.0) fault;
    })

faulty_on : (table : FrameTable) (octets : List ℕ) (fs : List FrameIn) (c : Cause) (x : ℕ) → Reads table octets fs (Faulty c) →
    Reads table (octets ++ x ∷ []) (fs ++ []) (Faulty c)
faulty_on table octets fs c x h = no_more table (octets ++ x ∷ []) fs (Faulty c) (record {
  tail = h.tail ++ x ∷ [];
  whole = longer_by fs octets h.tail h.tail x h.whole refl;
  each = h.each;
  rest_is = record {
    front = h.rest_is.front;
    octet = h.rest_is.octet;
    more = h.rest_is.more ++ x ∷ [];
    whole = ap (λ (o : List ℕ). o ++ x ∷ []) h.rest_is.whole ∙ append_assoc h.rest_is.front (h.rest_is.octet ∷ h.rest_is.more) (x ∷ []);
    open_front = h.rest_is.open_front;
    no_frame = h.rest_is.no_frame;
    cause_is = h.rest_is.cause_is;
  };
})

pub reads_on : (table : FrameTable) (octets : List ℕ) (fs : List FrameIn) (r : Rest) (x : ℕ) → x < 256 → Reads table octets fs r →
    Reads table (octets ++ x ∷ []) (fs ++ frame_of (step_from r x)) (rest_after_octet r x)
reads_on table octets fs (Open t q) x lt h =
    open_on table octets fs t q x (step_at (version_of t) q x) h (step_sound (version_of t) q x h.rest_is.2 lt)
reads_on table octets fs (Faulty c) x lt h = faulty_on table octets fs c x h

pub reads_more : (table : FrameTable) (octets : List ℕ) (fs : List FrameIn) (r : Rest) (xs : List ℕ) → All (λ x. x < 256) xs →
    Reads table octets fs r → Reads table (octets ++ xs) (fs ++ frames_from r xs) (rest_after_octets r xs)
reads_more table octets fs r [] small h =
    let P : List ℕ → Type 0 = λ o. Reads table o (fs ++ []) r in
    subst P (sym (append-nil octets)) (no_more table octets fs r h)
reads_more table octets fs r (x ∷ xs) small h =
    let next : Reads table (octets ++ x ∷ []) (fs ++ frame_of (step_from r x)) (rest_after_octet r x) =
    reads_on table octets fs r x (All-head (λ x. x < 256) x xs small) h in
    let rest : Reads table (octets ++ x ∷ [] ++ xs) (fs ++ frame_of (step_from r x) ++ frames_from (rest_after_octet r x) xs)
    (rest_after_octets (rest_after_octet r x) xs) = reads_more table (octets ++ x ∷ []) (fs ++ frame_of (step_from r x))
    (rest_after_octet r x) xs (All-tail (λ x. x < 256) x xs small) next in
    let P : List ℕ → Type 0 = λ o. Reads table o (fs ++ frame_of (step_from r x) ++ frames_from (rest_after_octet r x) xs)
    (rest_after_octets (rest_after_octet r x) xs) in
    let Q : List FrameIn → Type 0 = λ gs. Reads table (octets ++ x ∷ xs) gs (rest_after_octets (rest_after_octet r x) xs) in
    subst Q (append_assoc fs (frame_of (step_from r x)) (frames_from (rest_after_octet r x) xs))
    (subst P (append_assoc octets (x ∷ []) xs) rest)

pub reads_nothing : (table : FrameTable) → Reads table [] [] (Open table [])
reads_nothing table = record { tail = []; whole = refl; each = tt; rest_is = (refl, refl, open_nothing (version_of table)) }

pub reads_all : (table : FrameTable) (octets : List ℕ) → All (λ x. x < 256) octets →
    Reads table octets (frames_from (Open table []) octets) (rest_after_octets (Open table []) octets)
reads_all table octets small = reads_more table [] [] (Open table []) octets small (reads_nothing table)

-- ---- frames whose octets are known

pub open-small : (v : Version) (q : List ℕ) → IsOpen v q → AreSmall q
open-small v q (f, x, more, is, e) = let P : List ℕ → Type 0 = λ xs. AreSmall xs in
    small-front q (x ∷ more) (subst P (sym e) (spelling-small v f is))

all_small : (xs : List ℕ) → AreSmall xs → All (λ x. x < 256) xs
all_small xs h = All-from_get_or (λ x. x < 256) xs 0 (λ i lt. h i)

pub reads_open : (table : FrameTable) (q : List ℕ) → IsOpen (version_of table) q → Reads table q [] (Open table q)
reads_open table q h = record { tail = q; whole = refl; each = tt; rest_is = (refl, refl, h) }

reads_frame : (table : FrameTable) (f : FrameIn) → IsFrame (version_of table) f →
    Reads table (spelling f) (f ∷ []) (Open (table_after table f) [])
reads_frame table f h = record {
  tail = [];
  whole = sym (append-nil (spelling f)) ∙ sym (append-nil (spelling f ++ []));
  each = (h, tt);
  rest_is = (refl, refl, open_nothing (version_of (table_after table f)));
}

-- a part of a frame produces no frame, and is kept
pub open-produces : (table : FrameTable) (q : List ℕ) → IsOpen (version_of table) q → (frames_from (Open table []) q ≡ []) ×
    (rest_after_octets (Open table []) q ≡ Open table q)
open-produces table q h =
    readings-same table q (frames_from (Open table []) q) [] (rest_after_octets (Open table []) q) (Open table q)
    (reads_all table q (all_small q (open-small (version_of table) q h))) (reads_open table q h)

-- the octets of a frame produce it, and nothing is left
pub spelling-produces : (table : FrameTable) (f : FrameIn) → IsFrame (version_of table) f →
    (frames_from (Open table []) (spelling f) ≡ f ∷ []) × (rest_after_octets (Open table []) (spelling f) ≡ Open (table_after table f) [])
spelling-produces table f h =
    readings-same table (spelling f) (frames_from (Open table []) (spelling f)) (f ∷ []) (rest_after_octets (Open table []) (spelling f))
    (Open (table_after table f) [])
    (reads_all table (spelling f) (all_small (spelling f) (spelling-small (version_of table) f h))) (reads_frame table f h)

-- ---- octets of which only the last has a frame or a fault

-- these octets all need more
abbrev pub AreNeeds : Rest → List ℕ → Type 0
AreNeeds rest [] = Unit {0}
AreNeeds rest (x ∷ octets) = (step_from rest x ≡ Need) × AreNeeds (rest_after_octet rest x) octets

pub needs-more : (rest : Rest) (octets : List ℕ) (x : ℕ) → AreNeeds rest octets → step_from (rest_after_octets rest octets) x ≡ Need →
    AreNeeds rest (octets ++ x ∷ [])
needs-more rest [] x needs e = (e, tt)
needs-more rest (y ∷ octets) x needs e = (needs.0, needs-more (rest_after_octet rest y) octets x needs.1 e)

-- the last of them has a step
pub produces-at_last : (rest : Rest) (octets : List ℕ) (x : ℕ) (step : Step) → AreNeeds rest octets →
    step_from (rest_after_octets rest octets) x ≡ step → ProduceAtLast rest (octets ++ x ∷ []) step
produces-at_last rest [] x step needs e = e
produces-at_last rest (y ∷ []) x step needs e = (needs.0, e)
produces-at_last rest (y ∷ z ∷ octets) x step needs e = (needs.0, produces-at_last (rest_after_octet rest y) (z ∷ octets) x step needs.1 e)

-- all of them need more, including the last
pub needs-all : (rest : Rest) (octets : List ℕ) → AreNeeds rest octets → 0 < length octets → ProduceAtLast rest octets Need
needs-all rest [] needs l = absurd (omega arith)
needs-all rest (x ∷ []) needs l = needs.0
needs-all rest (x ∷ y ∷ octets) needs l = (needs.0, needs-all (rest_after_octet rest x) (y ∷ octets) needs.1 (omega arith))

-- the octets of a whole frame, after a front of it
pub frame-at_last : (table : FrameTable) (q octets : List ℕ) (f : FrameIn) → IsFrame (version_of table) f → AreSmall octets →
    0 < length octets → q ++ octets ≡ spelling f →
    ProduceAtLast (Open table q) octets (Frame f) × (rest_after_octets (Open table q) octets ≡ Open (table_after table f) [])
frame-at_last table q [] f is small l e = absurd (omega arith)
frame-at_last table q (x ∷ []) f is small l e =
    let at : step_at (version_of table) q x ≡ Frame f = step-at_last (version_of table) q x f (small 0) is e in
    (at, ap (rest_after table q x) at)
frame-at_last table q (x ∷ y ∷ octets) f is small l e =
    let at : step_at (version_of table) q x ≡ Need = step-inside (version_of table) q x (y ∷ octets) f (small 0) is e (omega arith) in
    let left : rest_after_octet (Open table q) x ≡ Open table (q ++ x ∷ []) = ap (rest_after table q x) at in
    let later : ProduceAtLast (Open table (q ++ x ∷ [])) (y ∷ octets) (Frame f) ×
    (rest_after_octets (Open table (q ++ x ∷ [])) (y ∷ octets) ≡ Open (table_after table f) []) =
    frame-at_last table (q ++ x ∷ []) (y ∷ octets) f is (small-tail x (y ∷ octets) small) (omega arith)
    (append_assoc q (x ∷ []) (y ∷ octets) ∙ e) in
    let P : Rest → Type 0 = λ r. ProduceAtLast r (y ∷ octets) (Frame f) ×
    (rest_after_octets r (y ∷ octets) ≡ Open (table_after table f) []) in
    let all : ProduceAtLast (rest_after_octet (Open table q) x) (y ∷ octets) (Frame f) ×
    (rest_after_octets (rest_after_octet (Open table q) x) (y ∷ octets) ≡ Open (table_after table f) []) = subst P (sym left) later in
    ((at, all.0), all.1)

-- a whole frame at the front of octets, after an empty rest
pub frame-first : (table : FrameTable) (octets : List ℕ) (n : ℕ) (f : FrameIn) → AreSmall octets → IsFrame (version_of table) f →
    take n octets ≡ spelling f →
    ProduceAtLast (Open table []) (take n octets) (Frame f) ×
    (rest_after_octets (Open table []) (take n octets) ≡ Open (table_after table f) [])
frame-first table octets n f small is e =
    frame-at_last table [] (take n octets) f is (small-take n octets small) (omega (arith, ap length e, length-spelling f)) e

-- if there was no fault, the rest is open
pub open_rest : (fault : Option Cause) (table : FrameTable) (q : List ℕ) → is_some fault ≡ false → rest_of fault table q ≡ Open table q
open_rest None table q e = refl
open_rest (Some cause) table q e = cc
