-- Records that are handed over to a store one term at a time.
use Rattle.std.proofs.Common.{◌≡◌, ◌<◌, List, [], ◌∷◌, ◌++◌, Option, length, get_or, refl, sym, ◌∙◌, ap, append_assoc}
use Rattle.std.specs.List.{remove}
use Rattle.dmr_keeper.specs.declared.time.TimedRecords.{TimedRecords}
use Rattle.dmr_keeper.specs.Kept.{Kept, Keeps}
use Rattle.dmr_keeper.specs.declared.keeper.KeepFault.{KeepFault}
use Rattle.dmr_keeper.specs.Handing.{AreHandedOver, IsRefused}
use Rattle.dmr_keeper.proofs.KeepsLaws.{keeps_nothing, keeps_more}
use Rattle.dmr_pdu.proofs.ListLaws.{rest_is}

-- the oldest is the one that is read, and the others are those that stay
pub oldest_of : (old new : List TimedRecords) (term : TimedRecords) → 0 < length old → term ≡ get_or old 0 term → new ≡ remove old 0 →
    old ≡ term ∷ new
oldest_of old new term some read stay = rest_is old 0 term some read ∙ ap (λ (terms : List TimedRecords). term ∷ terms) (sym stay)

-- nothing was handed over
pub handed_none : (kept : Option Kept) (terms : List TimedRecords) → AreHandedOver kept terms terms kept
handed_none kept terms = record { handed = []; all = refl; kept = keeps_nothing kept }

-- the oldest
pub handed_one : (before after : Option Kept) (term : TimedRecords) (old new : List TimedRecords) → old ≡ term ∷ new →
    Keeps before (term ∷ []) after → AreHandedOver before old new after
handed_one before after term old new is keeps = record { handed = term ∷ []; all = is; kept = keeps }

-- the store refused the oldest
pub handed_refused : (before after : Option Kept) (old new : List TimedRecords) → new ≡ old → Keeps before [] after →
    AreHandedOver before old new after
handed_refused before after old new is keeps = record { handed = []; all = sym is; kept = keeps }

-- some, and then others
pub handed_on : (before between after : Option Kept) (old mid new : List TimedRecords) → AreHandedOver before old mid between →
    AreHandedOver between mid new after → AreHandedOver before old new after
handed_on before between after old mid new one two = record {
  handed = one.handed ++ two.handed;
  all = one.all ∙ ap (λ (terms : List TimedRecords). one.handed ++ terms) two.all ∙ sym (append_assoc one.handed two.handed new);
  kept = keeps_more before between after one.handed two.handed one.kept two.kept;
}

-- the store refused the oldest at once
pub refused_first : {K : Type 0} (kept : K → Option Kept) (refuses : K → TimedRecords → KeepFault → Type 0) (store : K)
    (term : TimedRecords) (later old : List TimedRecords) (fault : KeepFault) → old ≡ term ∷ later → refuses store term fault →
    IsRefused kept refuses store old old fault
refused_first kept refuses store term later old fault oldest refused =
    ([], store, term, later, refl, keeps_nothing (kept store), oldest, refused)

-- it kept some, and then refused one
pub refused_on : {K : Type 0} (kept : K → Option Kept) (refuses : K → TimedRecords → KeepFault → Type 0) (before between : K)
    (old mid new : List TimedRecords) (fault : KeepFault) → AreHandedOver (kept before) old mid (kept between) →
    IsRefused kept refuses between mid new fault → IsRefused kept refuses before old new fault
refused_on kept refuses before between old mid new fault one two = (
  one.handed ++ two.0,
  two.1,
  two.2,
  two.3,
  one.all ∙ ap (λ (terms : List TimedRecords). one.handed ++ terms) two.4 ∙ sym (append_assoc one.handed two.0 new),
  keeps_more (kept before) (kept between) (kept two.1) one.handed two.0 one.kept two.5,
  two.6,
  two.7,
)
