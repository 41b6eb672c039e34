-- The octets of frames, one after another, and the number of the next TX.
use Rattle.std.proofs.Common.{◌≡◌, ℕ, ◌+◌, ◌<◌, List, [], ◌∷◌, ◌++◌, Option, length, take, get_or, sym, ap, ◌∙◌, append_assoc}
use Rattle.std.proofs.lemmas.List.{append-nil}
use Rattle.std.proofs.lemmas.List.{take_more as take_item}
use Rattle.std.proofs.lemmas.List.Concat.{flat_map-cons}
use Rattle.std.proofs.lemmas.Grind.{flat_map-append}
use Rattle.std.specs.List.{flat_map}
use Rattle.std.proofs.lemmas.List.Sums.{fold-append}
use Rattle.dmr_pdu.proofs.Laws.{items-append}
use Rattle.dmr_frames.specs.declared.frame.FrameOut.{FrameOut}
use Rattle.dmr_frames.specs.declared.frame.FrameOut.TheVariants.{Done}
use Rattle.dmr_frames.specs.Frames.{spelling_out}
use Rattle.dmr_link.specs.Numbering.{frame_text, next_after, frames_text, next_after_frames}

pub frames_text-append : (next : Option ℕ) (a b : List FrameOut) → frames_text next (a ++ b) ≡ frames_text next a ++ frames_text
    (next_after_frames next a) b
frames_text-append = items-append next_after frame_text (λ (text : List ℕ). text)

pub next_after_frames-append : (next : Option ℕ) (a b : List FrameOut) →
    next_after_frames next (a ++ b) ≡ next_after_frames (next_after_frames next a) b
next_after_frames-append = fold-append next_after

pub frames_text-one : (next : Option ℕ) (f : FrameOut) → frames_text next (f ∷ []) ≡ frame_text next f
frames_text-one next f = append-nil (frame_text next f)

-- ---- the frames of one more item

pub flat_more : {X Y : Type 0} (f : X → List Y) (items : List X) (i : ℕ) (item : X) → i < length items → item ≡ get_or items i item →
    flat_map f (take (i + 1) items) ≡ flat_map f (take i items) ++ f item
flat_more {X} {Y} f items i item inside is =
    ap (flat_map f) (take_item items i item inside)
    ∙ flat_map-append f (take i items) (get_or items i item ∷ [])
    ∙ ap (λ (t : List Y). flat_map f (take i items) ++ t)
    (flat_map-cons f (get_or items i item) [] ∙ append-nil (f (get_or items i item)) ∙ ap f (sym is))

module _ {X : Type 0} (f : X → List FrameOut) (start next : Option ℕ) (items : List X) (i : ℕ) (item : X) (inside : i < length items)
    (is : item ≡ get_or items i item)
    (at : next ≡ next_after_frames start (flat_map f (take i items))) where
  pub next_item : (later : Option ℕ) → later ≡ next_after_frames next (f item) →
      later ≡ next_after_frames start (flat_map f (take (i + 1) items))
  next_item later counted =
      counted
      ∙ ap (λ (n : Option ℕ). next_after_frames n (f item)) at
      ∙ sym (ap (next_after_frames start) (flat_more f items i item inside is)
      ∙ next_after_frames-append start (flat_map f (take i items)) (f item))

  text_item : frames_text start (flat_map f (take (i + 1) items)) ≡ frames_text start (flat_map f (take i items)) ++ frames_text next
      (f item)
  text_item =
      ap (frames_text start) (flat_more f items i item inside is)
      ∙ frames_text-append start (flat_map f (take i items)) (f item)
      ∙ ap (λ (n : Option ℕ). frames_text start (flat_map f (take i items)) ++ frames_text n (f item)) (sym at)

  -- the octets written before, and then those of the item's frames
  pub put_item : (before text out : List ℕ) → text ≡ before ++ frames_text start (flat_map f (take i items)) →
      out ≡ text ++ frames_text next (f item) → out ≡ before ++ frames_text start (flat_map f (take (i + 1) items))
  put_item before text out put more =
      more
      ∙ ap (λ (t : List ℕ). t ++ frames_text next (f item)) put
      ∙ append_assoc before (frames_text start (flat_map f (take i items))) (frames_text next (f item))
      ∙ ap (λ (t : List ℕ). before ++ t) (sym text_item)

-- the octets of DONE after all items
pub write_done : (start : Option ℕ) (before text octets out : List ℕ) (frames all : List FrameOut) → frames ≡ all →
    text ≡ before ++ frames_text start frames → octets ≡ spelling_out Done → out ≡ text ++ octets →
    out ≡ before ++ frames_text start (all ++ Done ∷ [])
write_done start before text octets out frames all same put done whole =
    whole
    ∙ (λ i. put i ++ done i)
    ∙ append_assoc before (frames_text start frames) (spelling_out Done)
    ∙ ap (λ (t : List ℕ). before ++ t)
    ((λ i. frames_text start (same i) ++ sym (frames_text-one (next_after_frames start all) Done) i)
    ∙ sym (frames_text-append start all (Done ∷ [])))
