-- The spellings of the frames to a carrier differ, and the length octets.
use Rattle.std.proofs.Common.{◌≡◌, ℕ, ◌+◌, ◌≤◌, Bool, Option, Some, None, List, [], ◌∷◌, ◌++◌, length, get_or, take, drop, refl, sym, ap}
use Rattle.std.proofs.Common.{◌∙◌, arith}
use Rattle.std.proofs.lemmas.List.{take_at, drop_at}
use Rattle.dmr_bits.specs.Words.{word_octets, word_of}
use Rattle.dmr_bits.proofs.Laws.{word_octets-octets, word_of-word_octets}
use Rattle.dmr_frames.specs.declared.frame.FrameOut.{FrameOut}
use Rattle.dmr_frames.specs.declared.frame.FrameOut.TheVariants.{Welcome, Tx, Done, Refused}
use Rattle.dmr_frames.specs.declared.table.FrameKind.TheVariants as kind
use Rattle.dmr_frames.specs.declared.frame.Refusal.TheVariants.{BadVersion, WrongCarrier}
use Rattle.dmr_frames.specs.Frames.{IsFrameOut, burst_octets, spelling_out}
use Rattle.dmr_frames.specs.Table.{body_length}
use Rattle.dmr_frames.specs.Versions.{has_numbers, version_by}
use Rattle.dmr_frames.specs.Limits.{longest_frame}

same_words : (v w : List Bool) (x y : List ℕ) → length v ≡ 196 → length w ≡ 196 → word_octets v ++ x ≡ word_octets w ++ y → (v ≡ w) ×
    (x ≡ y)
same_words v w x y lv lw e =
    let front : word_octets v ≡ word_octets w = sym (take_at (word_octets v) x 25 (word_octets-octets v).len) ∙ ap (take 25) e
    ∙ take_at (word_octets w) y 25 (word_octets-octets w).len in
    let back : x ≡ y = sym (drop_at (word_octets v) x 25 (word_octets-octets v).len) ∙ ap (drop 25) e
    ∙ drop_at (word_octets w) y 25 (word_octets-octets w).len in
    (sym (word_of-word_octets v lv) ∙ ap word_of front ∙ word_of-word_octets w lw, back)

abbrev first_octet : List ℕ → ℕ
first_octet octets = get_or octets 0 0

-- two bursts, after their type: the length octet says whether each has a number
same_bursts : (m n : Option ℕ) (s t : ℕ) (v w : List Bool) (x y : List ℕ) → length v ≡ 196 → length w ≡ 196 →
    body_length (has_numbers (version_by m)) kind.Tx ∷ (burst_octets m s (word_octets v) ++ x) ≡ body_length
    (has_numbers (version_by n)) kind.Tx ∷ (burst_octets n t (word_octets w) ++ y) → (m ≡ n) × (s ≡ t) × (v ≡ w) × (x ≡ y)
same_bursts None None s t v w x y lv lw e =
    let es : s ≡ t = cc in
    let ew : word_octets v ++ x ≡ word_octets w ++ y = cc in
    let same : (v ≡ w) × (x ≡ y) = same_words v w x y lv lw ew in
    (refl, es, same.0, same.1)
same_bursts None (Some n) s t v w x y lv lw e = absurd (omega (arith, ap first_octet e))
same_bursts (Some m) None s t v w x y lv lw e = absurd (omega (arith, ap first_octet e))
same_bursts (Some m) (Some n) s t v w x y lv lw e =
    let en : m ≡ n = cc in
    let es : s ≡ t = cc in
    let ew : word_octets v ++ x ≡ word_octets w ++ y = cc in
    let same : (v ≡ w) × (x ≡ y) = same_words v w x y lv lw ew in
    (ap Some en, es, same.0, same.1)

-- the type of a frame
abbrev first : List ℕ → ℕ
first octets = get_or octets 0 0

-- the first octet of a body
abbrev third : List ℕ → ℕ
third octets = get_or octets 2 0

pub spelled_out_once : (f g : FrameOut) (x y : List ℕ) → IsFrameOut f → IsFrameOut g → spelling_out f ++ x ≡ spelling_out g ++ y → (f ≡ g) ×
    (x ≡ y)
spelled_out_once (Welcome v) (Welcome w) x y hf hg e =
    let same : v ≡ w = ap third e in
    let rest : x ≡ y = cc in
    ((λ i. Welcome (same i)), rest)
spelled_out_once (Welcome v) (Tx number slot word) x y hf hg e = absurd (omega (arith, ap first e))
spelled_out_once (Welcome v) Done x y hf hg e = absurd (omega (arith, ap first e))
spelled_out_once (Welcome v) (Refused r) x y hf hg e = absurd (omega (arith, ap first e))
spelled_out_once (Tx number slot word) (Welcome v) x y hf hg e = absurd (omega (arith, ap first e))
spelled_out_once (Tx number slot word) (Tx number' slot' word') x y hf hg e =
    let behind : body_length (has_numbers (version_by number)) kind.Tx ∷ (burst_octets number slot (word_octets word) ++ x) ≡ body_length
    (has_numbers (version_by number')) kind.Tx ∷ (burst_octets number' slot' (word_octets word') ++ y) = cc in
    let same : (number ≡ number') × (slot ≡ slot') × (word ≡ word') × (x ≡ y) =
    same_bursts number number' slot slot' word word' x y hf.2 hg.2 behind in
    ((λ i. Tx (same.0 i) (same.1 i) (same.2 i)), same.3)
spelled_out_once (Tx number slot word) Done x y hf hg e = absurd (omega (arith, ap first e))
spelled_out_once (Tx number slot word) (Refused r) x y hf hg e = absurd (omega (arith, ap first e))
spelled_out_once Done (Welcome v) x y hf hg e = absurd (omega (arith, ap first e))
spelled_out_once Done (Tx number slot word) x y hf hg e = absurd (omega (arith, ap first e))
spelled_out_once Done Done x y hf hg e = (refl, cc)
spelled_out_once Done (Refused r) x y hf hg e = absurd (omega (arith, ap first e))
spelled_out_once (Refused r) (Welcome v) x y hf hg e = absurd (omega (arith, ap first e))
spelled_out_once (Refused r) (Tx number slot word) x y hf hg e = absurd (omega (arith, ap first e))
spelled_out_once (Refused r) Done x y hf hg e = absurd (omega (arith, ap first e))
spelled_out_once (Refused BadVersion) (Refused BadVersion) x y hf hg e = (refl, cc)
spelled_out_once (Refused BadVersion) (Refused WrongCarrier) x y hf hg e = absurd (omega (arith, ap third e))
spelled_out_once (Refused WrongCarrier) (Refused BadVersion) x y hf hg e = absurd (omega (arith, ap third e))
spelled_out_once (Refused WrongCarrier) (Refused WrongCarrier) x y hf hg e = (refl, cc)

-- the octets of a burst continue with those of its word
pub burst-more : (number : Option ℕ) (slot : ℕ) (octets : List ℕ) → burst_octets number slot [] ++ octets ≡ burst_octets number slot octets
burst-more None slot octets = refl
burst-more (Some n) slot octets = refl

pub length-burst : (number : Option ℕ) (slot : ℕ) (word : List Bool) → length (burst_octets number slot (word_octets word)) ≡ body_length
    (has_numbers (version_by number)) kind.Tx
length-burst None slot word = omega (arith, (word_octets-octets word).len)
length-burst (Some n) slot word = omega (arith, (word_octets-octets word).len)

-- the second octet counts those after it
pub length-spelling_out : (f : FrameOut) → length (spelling_out f) ≡ get_or (spelling_out f) 1 0 + 2
length-spelling_out (Welcome v) = omega arith
length-spelling_out (Tx number slot word) = omega (arith, length-burst number slot word)
length-spelling_out Done = omega arith
length-spelling_out (Refused r) = omega arith

-- ---- how long a frame is

pub burst-le : (number : Option ℕ) (slot : ℕ) (word : List Bool) → length (burst_octets number slot (word_octets word)) ≤ 27
burst-le None slot word = omega (arith, (word_octets-octets word).len)
burst-le (Some number) slot word = omega (arith, (word_octets-octets word).len)

pub spelling_out-le : (f : FrameOut) → length (spelling_out f) ≤ longest_frame
spelling_out-le (Welcome version) = omega arith
spelling_out-le (Tx number slot word) = omega (arith, burst-le number slot word)
spelling_out-le Done = omega arith
spelling_out-le (Refused refusal) = omega arith
