-- The results of the octets of one frame, one after another.
use Rattle.std.proofs.Common.{◌≡◌, ℕ, ◌+◌, ◌-◌, ◌<◌, List, [], ◌∷◌, ◌++◌, length, take, drop, get_or, refl, sym, ap, ◌∙◌, arith}
use Rattle.std.proofs.Common.{append_assoc, add-one, drop-cons, take-append-drop, length-append, subst}
use Rattle.std.proofs.Math.Seq.{take-length}
use Rattle.std.proofs.lemmas.List.{append-nil, take_more, length-take-le, get_or-take}
use Rattle.dmr_frames.specs.declared.frame.FrameIn.{FrameIn}
use Rattle.dmr_frames.specs.declared.cutter.Step.{Step}
use Rattle.dmr_frames.specs.declared.cutter.Step.TheVariants.{Need, Frame, Fault}
use Rattle.dmr_frames.specs.declared.version.Version.{Version}
use Rattle.dmr_frames.specs.Frames.{IsFrame, spelling}
use Rattle.dmr_frames.specs.Stream.{IsOpen, IsStep}
use Rattle.dmr_frames.specs.Reading.{step_at}
use Rattle.dmr_frames.proofs.StepLemmas.{step_sound}
use Rattle.dmr_frames.proofs.OneSpelling.{spelled_once}
use Rattle.dmr_frames.proofs.StreamLemmas.{open_no_spelling}

inside : (v : Version) (q : List ℕ) (x : ℕ) (more : List ℕ) (f : FrameIn) (s : Step) → IsFrame v f → q ++ x ∷ more ≡ spelling f →
    0 < length more → IsStep v q x s → s ≡ Need
inside v q x more f Need hf e l is = refl
inside v q x more f (Frame g) hf e l is =
    let joined : spelling g ++ more ≡ spelling f ++ [] =
    ap (λ (p : List ℕ). p ++ more) (sym is.1) ∙ append_assoc q (x ∷ []) more ∙ e ∙ sym (append-nil (spelling f)) in
    let none : more ≡ [] = (spelled_once v v g f more [] is.0 hf joined).1 in
    let n : length more ≡ 0 = ap length none in
    absurd (omega arith)
inside v q x more f (Fault cause) hf e l is = absurd (is.0 (f, more, hf, append_assoc q (x ∷ []) more ∙ e))

-- inside a frame each octet needs more
pub step-inside : (v : Version) (q : List ℕ) (x : ℕ) (more : List ℕ) (f : FrameIn) → x < 256 → IsFrame v f → q ++ x ∷ more ≡ spelling f →
    0 < length more → step_at v q x ≡ Need
step-inside v q x more f lt hf e l = inside v q x more f (step_at v q x) hf e l (step_sound v q x (f, x, more, hf, e) lt)

at_last : (v : Version) (q : List ℕ) (x : ℕ) (f : FrameIn) (s : Step) → IsFrame v f → q ++ x ∷ [] ≡ spelling f → IsStep v q x s →
    s ≡ Frame f
at_last v q x f Need hf e is = absurd (open_no_spelling v (q ++ x ∷ []) f [] hf (e ∙ sym (append-nil (spelling f))) is)
at_last v q x f (Frame g) hf e is = ap Frame (spelled_once v v g f [] [] is.0 hf (ap (λ (p : List ℕ). p ++ []) (sym is.1 ∙ e))).0
at_last v q x f (Fault cause) hf e is = absurd (is.0 (f, [], hf, append-nil (q ++ x ∷ []) ∙ e))

-- the result of a frame's last octet is the frame
pub step-at_last : (v : Version) (q : List ℕ) (x : ℕ) (f : FrameIn) → x < 256 → IsFrame v f → q ++ x ∷ [] ≡ spelling f →
    step_at v q x ≡ Frame f
step-at_last v q x f lt hf e = at_last v q x f (step_at v q x) hf e (step_sound v q x (f, x, [], hf, e) lt)

-- a step that needs more leaves an open rest, and a step with a frame has spelled it
pub open-after_need : (v : Version) (q : List ℕ) (x : ℕ) → x < 256 → IsOpen v q → step_at v q x ≡ Need → IsOpen v (q ++ x ∷ [])
open-after_need v q x lt h e = let P : Step → Type 0 = λ s. IsStep v q x s in subst P e (step_sound v q x h lt)

pub spelled-at_frame : (v : Version) (q : List ℕ) (x : ℕ) (f : FrameIn) → x < 256 → IsOpen v q → step_at v q x ≡ Frame f → IsFrame v f ×
    (q ++ x ∷ [] ≡ spelling f)
spelled-at_frame v q x f lt h e = let P : Step → Type 0 = λ s. IsStep v q x s in subst P e (step_sound v q x h lt)

-- ---- octets by their front and the last of them

-- all but the last
abbrev pub front_of : List ℕ → List ℕ
front_of octets = take (length octets - 1) octets

abbrev pub last_of : List ℕ → ℕ
last_of octets = get_or octets (length octets - 1) 0

pub front-last : (octets : List ℕ) → 0 < length octets → octets ≡ front_of octets ++ last_of octets ∷ []
front-last octets l =
    let all : length octets - 1 + 1 ≡ length octets = omega arith in
    sym (take-length octets) ∙ ap (λ (n : ℕ). take n octets) (sym all) ∙ take_more octets (length octets - 1) 0 (omega arith)

pub small-front_of : (octets : List ℕ) (i : ℕ) → ((k : ℕ) → get_or octets k 0 < 256) → i < length (front_of octets) →
    get_or (front_of octets) i 0 < 256
small-front_of octets i small lt =
    let len : length (front_of octets) ≡ length octets - 1 = length-take-le (length octets - 1) octets (omega arith) in
    let at : get_or (front_of octets) i 0 ≡ get_or octets i 0 = get_or-take (length octets - 1) octets i 0 (omega arith) in
    omega (arith, small i)

split_at : (xs : List ℕ) (i : ℕ) → i < length xs → take i xs ++ get_or xs i 0 ∷ drop (i + 1) xs ≡ xs
split_at xs i lt = rw (add-one, ← drop-cons xs i 0) (take-append-drop i xs)

-- before its last octet a frame needs more
pub step-in_front : (v : Version) (octets : List ℕ) (i : ℕ) (f : FrameIn) → ((k : ℕ) → get_or octets k 0 < 256) → 0 < length octets →
    i < length (front_of octets) → IsFrame v f → octets ≡ spelling f → step_at v (take i (front_of octets))
    (get_or (front_of octets) i 0) ≡ Need
step-in_front v octets i f small l lt hf e =
    let front : List ℕ = front_of octets in
    let rest : List ℕ = drop (i + 1) front ++ last_of octets ∷ [] in
    let parts : take i front ++ get_or front i 0 ∷ rest ≡ spelling f = sym
    (append_assoc (take i front) (get_or front i 0 ∷ drop (i + 1) front) (last_of octets ∷ []))
    ∙ ap (λ (xs : List ℕ). xs ++ last_of octets ∷ []) (split_at front i lt) ∙ sym (front-last octets l) ∙ e in
    step-inside v (take i front) (get_or front i 0) rest f (small-front_of octets i small lt) hf parts
    (omega (arith, length-append (drop (i + 1) front) (last_of octets ∷ [])))

-- at its last octet it is whole
pub step-after_front : (v : Version) (octets : List ℕ) (f : FrameIn) → ((k : ℕ) → get_or octets k 0 < 256) → 0 < length octets →
    IsFrame v f → octets ≡ spelling f → step_at v (front_of octets) (last_of octets) ≡ Frame f
step-after_front v octets f small l hf e =
    step-at_last v (front_of octets) (last_of octets) f (small (length octets - 1)) hf (sym (front-last octets l) ∙ e)
