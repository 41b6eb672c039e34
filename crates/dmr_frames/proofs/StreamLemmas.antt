-- Two readings of one stream are the same.
use Rattle.std.proofs.Common.{◌≡◌, ℕ, List, [], ◌∷◌, ◌++◌, length, refl, sym, ap, ◌∙◌, arith, ⊎_elim, inl, inr, ◌⊎◌, length-append}
use Rattle.std.proofs.Common.{append_assoc, subst, Some}
use Rattle.std.specs.List.{flat_map}
use Rattle.std.proofs.lemmas.List.{append-nil}
use Rattle.dmr_frames.specs.declared.frame.FrameIn.{FrameIn}
use Rattle.dmr_frames.specs.declared.frame.Cause.{Cause}
use Rattle.dmr_frames.specs.declared.version.Version.{Version}
use Rattle.dmr_frames.specs.declared.version.FrameTable.{FrameTable}
use Rattle.dmr_frames.specs.Frames.{IsFrame, spelling}
use Rattle.dmr_frames.specs.Rest.{Rest, Open, Faulty}
use Rattle.dmr_frames.specs.Stream.{Begins, IsOpen, IsFaulty, IsRest, Reads, AreFrames, fault_at}
use Rattle.dmr_frames.specs.Versions.{has_numbers, version_of, table_after, table_after_frames}
use Rattle.dmr_frames.proofs.OneSpelling.{spelled_once}

-- two ways to split a list: one front continues as the other
pub append_cases : {A : Type 0} (a b c d : List A) → a ++ b ≡ c ++ d → ((m : List A) × (c ≡ a ++ m) × (b ≡ m ++ d)) ⊎
    ((m : List A) × (a ≡ c ++ m) × (d ≡ m ++ b))
append_cases [] b c d e = inl (c, refl, e)
append_cases (x ∷ a) b [] d e = inr (x ∷ a, refl, sym e)
append_cases (x ∷ a) b (y ∷ c) d e =
    let head : x ≡ y = cc in
    let tail : a ++ b ≡ c ++ d = cc in
    ⊎_elim (λ h. inl (h.0, (λ i. (sym head i) ∷ (h.1 i)), h.2)) (λ h. inr (h.0, (λ i. (head i) ∷ (h.1 i)), h.2)) (append_cases a b c d tail)

-- an open rest does not begin with a whole spelling
pub open_no_spelling : (v : Version) (q : List ℕ) (g : FrameIn) (y : List ℕ) → IsFrame v g → q ≡ spelling g ++ y → IsOpen v q → ⊥
open_no_spelling v q g y hg e (f, x, more, hf, h) =
    let joined : spelling g ++ (y ++ x ∷ more) ≡ spelling f ++ [] =
    sym (append_assoc (spelling g) y (x ∷ more)) ∙ ap (λ (p : List ℕ). p ++ x ∷ more) (sym e) ∙ h ∙ sym (append-nil (spelling f)) in
    let rest : y ++ x ∷ more ≡ [] = (spelled_once v v g f (y ++ x ∷ more) [] hg hf joined).1 in
    let n : length (y ++ x ∷ more) ≡ 0 = ap length rest in
    omega (arith, n, length-append y (x ∷ more))

open_begins : (v : Version) (q : List ℕ) (x : ℕ) (m : List ℕ) → IsOpen v (q ++ x ∷ m) → Begins v (q ++ x ∷ [])
open_begins v q x m (f, y, more, hf, h) =
    (f, m ++ y ∷ more, hf, append_assoc q (x ∷ []) (m ++ y ∷ more) ∙ sym (append_assoc q (x ∷ m) (y ∷ more)) ∙ h)

spelling_begins : (v : Version) (q : List ℕ) (x : ℕ) (m : List ℕ) (g : FrameIn) → IsFrame v g → spelling g ≡ q ++ x ∷ m →
    Begins v (q ++ x ∷ [])
spelling_begins v q x m g hg h = (g, m, hg, append_assoc q (x ∷ []) m ∙ sym h)

-- a faulty rest does not begin with a whole spelling
faulty_no_spelling : (v : Version) (octets : List ℕ) (cause : Cause) (g : FrameIn) (y : List ℕ) → IsFrame v g → octets ≡ spelling g ++ y →
    IsFaulty v octets cause → ⊥
faulty_no_spelling v octets cause g y hg e h =
    ⊎_elim
    (λ (k : (m : List ℕ) × (spelling g ≡ h.front ++ m) × (h.octet ∷ h.more ≡ m ++ y)). longer k.0 k.1 k.2)
    (λ (k : (m : List ℕ) × (h.front ≡ spelling g ++ m) × (y ≡ m ++ (h.octet ∷ h.more))). open_no_spelling v h.front g k.0 hg k.1
    h.open_front)
    (append_cases h.front (h.octet ∷ h.more) (spelling g) y (sym h.whole ∙ e))
  where
    longer : (m : List ℕ) → spelling g ≡ h.front ++ m → h.octet ∷ h.more ≡ m ++ y → ⊥
    longer [] e1 e2 = open_no_spelling v h.front g [] hg (sym (append-nil h.front) ∙ sym e1 ∙ sym (append-nil (spelling g))) h.open_front
    longer (x ∷ m) e1 e2 =
        let head : x ≡ h.octet = cc in
        let P : ℕ → Type 0 = λ n. Begins v (h.front ++ n ∷ []) in
        h.no_frame (subst P head (spelling_begins v h.front x m g hg e1))

-- a version is that of a table
moved_open : (t u : FrameTable) (q : List ℕ) → t ≡ u → IsOpen (version_of t) q → IsOpen (version_of u) q
moved_open t u q e h = let P : FrameTable → Type 0 = λ table. IsOpen (version_of table) q in subst P e h

rest_no_spelling : (table : FrameTable) (tail : List ℕ) (rest : Rest) (g : FrameIn) (y : List ℕ) → IsFrame (version_of table) g →
    tail ≡ spelling g ++ y → IsRest table tail rest → ⊥
rest_no_spelling table tail (Open t q) g y hg e h =
    open_no_spelling (version_of table) q g y hg (sym h.1 ∙ e) (moved_open t table q (sym h.0) h.2)
rest_no_spelling table tail (Faulty cause) g y hg e h = faulty_no_spelling (version_of table) tail cause g y hg e h

-- an open rest is not faulty
open_not_faulty : (v : Version) (q : List ℕ) (cause : Cause) → IsOpen v q → IsFaulty v q cause → ⊥
open_not_faulty v q cause o h =
    let P : List ℕ → Type 0 = λ xs. IsOpen v xs in
    h.no_frame (open_begins v h.front h.octet h.more (subst P h.whole o))

some_same : (c d : Cause) → Some c ≡ Some d → c ≡ d
some_same c d e = cc

-- the front of a fault is not shorter than another's
faulty_front : (v : Version) (a b : List ℕ) (x y : ℕ) (m n : List ℕ) → (Begins v (a ++ x ∷ []) → ⊥) → IsOpen v b → (k : List ℕ) →
    b ≡ a ++ k → x ∷ m ≡ k ++ y ∷ n → a ≡ b
faulty_front v a b x y m n none o [] e1 e2 = sym (append-nil a) ∙ sym e1
faulty_front v a b x y m n none o (z ∷ k) e1 e2 =
    let head : z ≡ x = cc in
    let P : List ℕ → Type 0 = λ xs. IsOpen v xs in
    let Q : ℕ → Type 0 = λ i. Begins v (a ++ i ∷ []) in
    absurd (none (subst Q head (open_begins v a z k (subst P e1 o))))

same_front : (v : Version) (octets : List ℕ) (c d : Cause) (g : IsFaulty v octets c) (h : IsFaulty v octets d) → g.front ≡ h.front
same_front v octets c d g h =
    ⊎_elim
    (λ (k : (m : List ℕ) × (h.front ≡ g.front ++ m) × (g.octet ∷ g.more ≡ m ++ (h.octet ∷ h.more))). faulty_front v g.front h.front g.octet
    h.octet g.more h.more g.no_frame h.open_front k.0 k.1 k.2)
    (λ (k : (m : List ℕ) × (g.front ≡ h.front ++ m) × (h.octet ∷ h.more ≡ m ++ (g.octet ∷ g.more))). sym
    (faulty_front v h.front g.front h.octet g.octet h.more g.more h.no_frame g.open_front k.0 k.1 k.2))
    (append_cases g.front (g.octet ∷ g.more) h.front (h.octet ∷ h.more) (sym g.whole ∙ h.whole))

same_cause : (v : Version) (octets : List ℕ) (c d : Cause) → IsFaulty v octets c → IsFaulty v octets d → c ≡ d
same_cause v octets c d g h =
    some_same c d (sym g.cause_is ∙ ap (λ (q : List ℕ). fault_at (has_numbers v) (length q)) (same_front v octets c d g h) ∙ h.cause_is)

moved_faulty : (v : Version) (a b : List ℕ) (c : Cause) → a ≡ b → IsFaulty v a c → IsFaulty v b c
moved_faulty v a b c e h = let P : List ℕ → Type 0 = λ xs. IsFaulty v xs c in subst P e h

same_rest : (table : FrameTable) (tail : List ℕ) (r s : Rest) → IsRest table tail r → IsRest table tail s → r ≡ s
same_rest table tail (Open t q) (Open u p) g h =
    let et : t ≡ u = sym g.0 ∙ h.0 in
    let eq : q ≡ p = sym g.1 ∙ h.1 in
    λ i. Open (et i) (eq i)
same_rest table tail (Open t q) (Faulty c) g h =
    absurd (open_not_faulty (version_of table) q c (moved_open t table q (sym g.0) g.2) (moved_faulty (version_of table) tail q c g.1 h))
same_rest table tail (Faulty c) (Open t q) g h =
    absurd (open_not_faulty (version_of table) q c (moved_open t table q (sym h.0) h.2) (moved_faulty (version_of table) tail q c h.1 g))
same_rest table tail (Faulty c) (Faulty d) g h = ap Faulty (same_cause (version_of table) tail c d g h)

moved_rest : (t u : FrameTable) (a b : List ℕ) (r : Rest) → t ≡ u → a ≡ b → IsRest t a r → IsRest u b r
moved_rest t u a b r d e h =
    let P : FrameTable → Type 0 = λ table. IsRest table a r in
    let Q : List ℕ → Type 0 = λ xs. IsRest u xs r in
    subst Q e (subst P d h)

moved_frames : (t u : FrameTable) (fs : List FrameIn) → t ≡ u → AreFrames t fs → AreFrames u fs
moved_frames t u fs e h = let P : FrameTable → Type 0 = λ table. AreFrames table fs in subst P e h

-- the same octets, read twice by one table
one_reading : (table : FrameTable) (fs gs : List FrameIn) (s t : List ℕ) (r q : Rest) → AreFrames table fs → AreFrames table gs →
    flat_map spelling fs ++ s ≡ flat_map spelling gs ++ t →
    IsRest (table_after_frames table fs) s r → IsRest (table_after_frames table gs) t q → (fs ≡ gs) × (r ≡ q)
one_reading table [] [] s t r q af ag e hr hq = (refl, same_rest table t r q (moved_rest table table s t r refl e hr) hq)
one_reading table [] (g ∷ gs) s t r q af ag e hr hq =
    absurd (rest_no_spelling table s r g (flat_map spelling gs ++ t) ag.0 (e ∙ append_assoc (spelling g) (flat_map spelling gs) t) hr)
one_reading table (f ∷ fs) [] s t r q af ag e hr hq =
    absurd (rest_no_spelling table t q f (flat_map spelling fs ++ s) af.0 (sym e ∙ append_assoc (spelling f) (flat_map spelling fs) s) hq)
one_reading table (f ∷ fs) (g ∷ gs) s t r q af ag e hr hq =
    let parted : (f ≡ g) × (flat_map spelling fs ++ s ≡ flat_map spelling gs ++ t) =
    spelled_once (version_of table) (version_of table) f g (flat_map spelling fs ++ s) (flat_map spelling gs ++ t) af.0 ag.0
    (sym (append_assoc (spelling f) (flat_map spelling fs) s) ∙ e ∙ append_assoc (spelling g) (flat_map spelling gs) t) in
    let back : table_after table g ≡ table_after table f = ap (table_after table) (sym parted.0) in
    let others : (fs ≡ gs) × (r ≡ q) = one_reading (table_after table f) fs gs s t r q af.1
    (moved_frames (table_after table g) (table_after table f) gs back ag.1) parted.1 hr
    (moved_rest (table_after_frames (table_after table g) gs) (table_after_frames (table_after table f) gs) t t q
    (ap (λ (u : FrameTable). table_after_frames u gs) back) refl hq) in
    ((λ i. (parted.0 i) ∷ (others.0 i)), others.1)

pub readings-same : (table : FrameTable) (octets : List ℕ) (fs gs : List FrameIn) (r q : Rest) → Reads table octets fs r →
    Reads table octets gs q → (fs ≡ gs) × (r ≡ q)
readings-same table octets fs gs r q g h =
    one_reading table fs gs g.tail h.tail r q g.each h.each (sym g.whole ∙ h.whole) g.rest_is h.rest_is
