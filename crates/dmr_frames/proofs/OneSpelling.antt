-- Each frame has one spelling, and no spelling continues as another.
use Rattle.std.proofs.Common.{◌≡◌, ℕ, ◌<◌, Some, List, ◌∷◌, ◌++◌, take, drop, sym, ap, ◌∙◌, arith, subst}
use Rattle.std.proofs.lemmas.List.{take_at, drop_at}
use Rattle.dmr_frames.specs.declared.frame.FrameIn.{FrameIn}
use Rattle.dmr_frames.specs.declared.cutter.Step.TheVariants.{Frame}
use Rattle.dmr_frames.specs.declared.table.FrameKind.{FrameKind}
use Rattle.dmr_frames.specs.declared.version.Version.{Version}
use Rattle.dmr_frames.specs.Versions.{has_numbers}
use Rattle.dmr_frames.specs.Table.{frame_row, carrier_kind, body_length}
use Rattle.dmr_frames.specs.Frames.{IsFrame, spelling, whole_step}
use Rattle.dmr_frames.specs.Shape.{AreSmall, IsWhole}
use Rattle.dmr_frames.proofs.TableLemmas.{small-cons, kind_same}
use Rattle.dmr_frames.proofs.EachFrame.{octet_small, length-most, IsSpelled, frame_spelled, same_step}

-- the octets after the type octet of a frame
pub record Follows (v : Version) (octet : ℕ) (rest : List ℕ) : Type 0 where
  pub which : FrameKind
  pub body : List ℕ
  pub known : carrier_kind v octet ≡ Some which
  pub whole : IsWhole (has_numbers v) which body
  pub rest_is : rest ≡ body_length (has_numbers v) which ∷ body

pub follows : (v : Version) (octet : ℕ) (rest : List ℕ) (f : FrameIn) → IsFrame v f → octet ∷ rest ≡ spelling f → Follows v octet rest
follows v octet rest f is e =
    let s : IsSpelled v f = frame_spelled v f is in
    let whole : octet ∷ rest ≡ (frame_row s.which).octet ∷ body_length (has_numbers v) s.which ∷ s.body = e ∙ s.spelled in
    let at : octet ≡ (frame_row s.which).octet = cc in
    let behind : rest ≡ body_length (has_numbers v) s.which ∷ s.body = cc in
    record { which = s.which; body = s.body; known = ap (carrier_kind v) at ∙ s.known; whole = s.whole; rest_is = behind }

-- ---- frames of one spelling

-- the octets of a spelling are octets
pub spelling-small : (v : Version) (f : FrameIn) → IsFrame v f → AreSmall (spelling f)
spelling-small v f is =
    let s : IsSpelled v f = frame_spelled v f is in
    let P : List ℕ → Type 0 = λ xs. AreSmall xs in
    let len : body_length (has_numbers v) s.which < 256 = omega (arith, length-most (has_numbers v) s.which) in
    subst P (sym s.spelled) (small-cons (frame_row s.which).octet (body_length (has_numbers v) s.which ∷ s.body) (octet_small s.which)
    (small-cons (body_length (has_numbers v) s.which) s.body len s.whole.small))

pub frame_same : (f g : FrameIn) → Frame f ≡ Frame g → f ≡ g
frame_same f g e = cc

bodies_same : (v w : Version) (f g : FrameIn) (k : FrameKind) (a b x y : List ℕ) → IsWhole (has_numbers v) k a →
    IsWhole (has_numbers w) k b →
    body_length (has_numbers v) k ≡ body_length (has_numbers w) k → a ++ x ≡ b ++ y → whole_step (has_numbers v) k a ≡ Frame f →
    whole_step (has_numbers w) k b ≡ Frame g → (f ≡ g) × (x ≡ y)
bodies_same v w f g k a b x y ha hb len e fa gb =
    let n : ℕ = body_length (has_numbers v) k in
    let same : a ≡ b = sym (take_at a x n ha.all) ∙ ap (take n) e ∙ take_at b y n (hb.all ∙ sym len) in
    let behind : x ≡ y = sym (drop_at a x n ha.all) ∙ ap (drop n) e ∙ drop_at b y n (hb.all ∙ sym len) in
    (frame_same f g (sym fa ∙ same_step (has_numbers v) (has_numbers w) k a len ∙ ap (whole_step (has_numbers w) k) same ∙ gb), behind)

-- no spelling continues as another, of whichever versions the two are
pub spelled_once : (v w : Version) (f g : FrameIn) (x y : List ℕ) → IsFrame v f → IsFrame w g → spelling f ++ x ≡ spelling g ++ y → (f ≡ g)
    × (x ≡ y)
spelled_once v w f g x y hf hg e =
    let s : IsSpelled v f = frame_spelled v f hf in
    let t : IsSpelled w g = frame_spelled w g hg in
    let whole : (frame_row s.which).octet ∷ body_length (has_numbers v) s.which ∷ (s.body ++ x) ≡ (frame_row t.which).octet ∷ body_length
    (has_numbers w) t.which ∷ (t.body ++ y) =
    ap (λ (xs : List ℕ). xs ++ x) (sym s.spelled) ∙ e ∙ ap (λ (xs : List ℕ). xs ++ y) t.spelled in
    let octet : (frame_row s.which).octet ≡ (frame_row t.which).octet = cc in
    let len : body_length (has_numbers v) s.which ≡ body_length (has_numbers w) t.which = cc in
    let behind : s.body ++ x ≡ t.body ++ y = cc in
    let which : t.which ≡ s.which =
    kind_same w v (frame_row t.which).octet t.which s.which t.known (ap (carrier_kind v) (sym octet) ∙ s.known) in
    let P : FrameKind → Type 0 = λ k. IsWhole (has_numbers w) k t.body ×
    (body_length (has_numbers v) s.which ≡ body_length (has_numbers w) k) × (whole_step (has_numbers w) k t.body ≡ Frame g) in
    let is : IsWhole (has_numbers w) s.which t.body × (body_length (has_numbers v) s.which ≡ body_length (has_numbers w) s.which) ×
    (whole_step (has_numbers w) s.which t.body ≡ Frame g) =
    subst P which (t.whole, len, t.again) in
    bodies_same v w f g s.which s.body t.body x y s.whole is.0 is.1 behind s.again is.2
