-- The facts about this crate's definitions that proofs of other crates may cite. They may cite nothing else in proofs/.
use Rattle.std.proofs.Common.{◌≡◌, List, [], ◌∷◌, ◌++◌, refl, ap, ◌∙◌}
use Rattle.std.specs.List.{fold, scan, flat_map}
use Rattle.std.proofs.lemmas.List.Concat.{flat_map-append}
-- the derived `==` of PDUs decides whether they are equal
pub use Rattle.dmr_pdu.proofs.EqualityLemmas.{pdu_eq-Decides}

-- A machine over a list: `fold next` is the state after the list, `scan next out` has an output for each element, and
-- `items` lists the items of an output.
module _ {S X Y : Type 0} (next : S → X → S) (out : S → X → Y) where
  scan-append : (s : S) (a b : List X) → scan next out s (a ++ b) ≡ scan next out s a ++ scan next out (fold next s a) b
  scan-append s [] b = refl
  scan-append s (x ∷ a) b = ap (λ (ys : List Y). out s x ∷ ys) (scan-append (next s x) a b)

  -- the items of a list in two pieces are those of the first piece, and then those of the second, from the state after
  -- the first
  pub items-append : {Z : Type 0} (items : Y → List Z) (s : S) (a b : List X) →
      flat_map items (scan next out s (a ++ b)) ≡ flat_map items (scan next out s a) ++ flat_map items (scan next out (fold next s a) b)
  items-append items s a b =
      ap (flat_map items) (scan-append s a b) ∙ flat_map-append items (scan next out s a) (scan next out (fold next s a) b)
